use Rattle.std.proofs.Common.{◌≡◌, ◌≤◌, ◌<◌, ℕ, false}
use Rattle.rf_form.specs.Alive.{is_among}
use Rattle.rf_trail.proofs.bitdom.BitDom.next.Given as goal

abbrev pub invariant-loop-v : goal.invariant-loop-v
invariant-loop-v g l = (w : ℕ) → l.from ≤ w → w < l.v → is_among w l.self ≡ false
