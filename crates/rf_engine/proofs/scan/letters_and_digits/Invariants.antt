use Rattle.std.proofs.Common.{◌≡◌, take}
use Rattle.std.specs.List.{AllPass}
use Rattle.rf_engine.specs.Words.{is_letter_or_digit}
use Rattle.rf_engine.proofs.scan.letters_and_digits.Given as goal

abbrev pub invariant-loop-byte : goal.invariant-loop-byte
invariant-loop-byte l = (l.count ≡ l.byte-index) × AllPass is_letter_or_digit (take l.count l.text)
