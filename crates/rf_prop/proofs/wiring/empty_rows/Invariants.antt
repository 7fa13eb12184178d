use Rattle.std.proofs.Common.{◌≡◌, ℕ, [], length}
use Rattle.rf_form.specs.Truths.{row}
use Rattle.rf_prop.proofs.wiring.empty_rows.Given as goal

abbrev pub invariant-loop : goal.invariant-loop
invariant-loop l = record {
  count : length l.rows.items ≡ l.counter;
  empty : (x : ℕ) → row l.rows.items x ≡ [];
}
