use Rattle.std.proofs.Common.{◌≡◌, ℕ, length, take}
use Rattle.std.specs.List.{sum_by}
use Rattle.rf_form.specs.Alive.{among}
use Rattle.rf_trail.proofs.sets.sets_of.Given as goal

abbrev pub invariant-loop-row : goal.invariant-loop-row
invariant-loop-row g l = record {
  same : (x v : ℕ) → among l.doms.items x v ≡ among (take l.row-index l.rows) x v;
  size : sum_by length l.doms.items ≡ sum_by length (take l.row-index l.rows);
  count : length l.doms.items ≡ l.row-index;
}
