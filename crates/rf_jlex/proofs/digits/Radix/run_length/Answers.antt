use Rattle.std.proofs.Common.{◌+◌, sym, ◌∙◌, ap, drop}
use Rattle.rf_jlex.specs.DigitRuns.{test_of, run_length}
use Rattle.rf_jlex.proofs.DigitLemmas.{run_from, run-at_digit, run-at_underscore, run-at_other, run-at_end}
use Rattle.rf_jlex.proofs.digits.Radix.run_length.Goals as goal
use Rattle.rf_jlex.proofs.digits.Radix.run_length.Goals.{then-is_digit, else-is_digit+else-byte-ne95}

pub loop-i-preserved : goal.loop-i-preserved
loop-i-preserved c =
    let rest = run_length (test_of c.args.self) (drop (c.loop-i.i + 1) c.args.text.now) in
    elim c.if-is_digit.branch [
      | then-is_digit w ↦ c.loop-i.invariant
          ∙ run-at_digit (test_of c.args.self) c.args.text.now c.loop-i.end c.loop-i.i c.loop-i-test.true (sym c.is_digit.ensures ∙ w.if-is_digit.true)
          ∙ ap (λ end. run_from end (c.loop-i.i + 1) rest) (sym w.end-is)
      | else-is_digit+else-byte-ne95 w ↦ c.loop-i.invariant
          ∙ run-at_underscore (test_of c.args.self) c.args.text.now c.loop-i.end c.loop-i.i c.loop-i-test.true (sym c.is_digit.ensures ∙ w.if-is_digit.false) w.if-byte-ne95.false
          ∙ ap (λ end. run_from end (c.loop-i.i + 1) rest) (sym w.end-is)
    ]

pub returns-then-byte-ne95 : goal.returns-then-byte-ne95
returns-then-byte-ne95 c =
    sym (c.loop-i.invariant ∙ run-at_other (test_of c.args.self) c.args.text.now c.loop-i.end c.loop-i.i c.loop-i-test.true (sym c.is_digit.ensures ∙ c.if-is_digit.false) c.if-byte-ne95.true)

pub returns-after-loop-i : goal.returns-after-loop-i
returns-after-loop-i c =
    sym (c.loop-i.invariant ∙ run-at_end (test_of c.args.self) c.args.text.now c.loop-i.end c.loop-i.i c.loop-i-test.false)
