use Rattle.std.proofs.Common.{◌≡◌, take}
use Rattle.std.specs.List.{AllPass}
use Rattle.rf_engine.specs.Words.{is_blank}
use Rattle.rf_engine.proofs.scan.blanks.Given as goal

abbrev pub invariant-loop-byte : goal.invariant-loop-byte
invariant-loop-byte l = (l.count ≡ l.byte-index) × AllPass is_blank (take l.count l.text)
