use Rattle.std.proofs.Common.{◌≡◌, ℕ, length, take}
use Rattle.rf_form.specs.Alive.{is_among}
use Rattle.rf_trail.proofs.sets.filled.Given as goal

abbrev pub invariant-loop-v : goal.invariant-loop-v
invariant-loop-v g l = record {
  same : (w : ℕ) → is_among w l.dom ≡ is_among w (take l.v-index l.places);
  size : length l.dom ≡ l.v-index;
}
