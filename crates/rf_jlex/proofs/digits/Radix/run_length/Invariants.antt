use Rattle.std.proofs.Common.{◌≡◌, drop}
use Rattle.rf_jlex.specs.DigitRuns.{test_of, run_length}
use Rattle.rf_jlex.proofs.DigitLemmas.{run_from}
use Rattle.rf_jlex.proofs.digits.Radix.run_length.Given as goal

abbrev pub invariant-loop-i : goal.invariant-loop-i
invariant-loop-i l =
    run_length (test_of l.self) l.text ≡ run_from l.end l.i (run_length (test_of l.self) (drop l.i l.text))
