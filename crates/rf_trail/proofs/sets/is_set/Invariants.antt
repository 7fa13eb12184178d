use Rattle.std.proofs.Common.{◌≡◌, ◌*◌, ℕ, true, take}
use Rattle.rf_form.specs.Alive.{is_among}
use Rattle.rf_form.specs.Fitting.{are_below}
use Rattle.rf_trail.specs.Trails.{are_distinct}
use Rattle.rf_trail.proofs.sets.is_set.Given as goal

abbrev pub invariant-loop-v : goal.invariant-loop-v
invariant-loop-v g l = record {
  same : (w : ℕ) → is_among w l.dom ≡ is_among w (take l.v-index l.places);
  distinct : are_distinct (take l.v-index l.places) ≡ true;
  below : are_below (64 * g.row.W) (take l.v-index l.places) ≡ true;
}
