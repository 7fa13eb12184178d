use Rattle.std.proofs.Common.{◌≡◌, ◌≤◌, drop}
use Rattle.rf_proof.proofs.Digits.{digits_from}
use Rattle.rf_proof.proofs.numbers.number.Given as goal

abbrev pub invariant-digits : goal.invariant-digits
invariant-digits l = digits_from l.most 0 0 l.text ≡ digits_from l.most l.value l.at (drop l.at l.text)
