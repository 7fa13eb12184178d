use Rattle.std.proofs.Common.{◌≡◌, ◌≤◌, length, filter}
use Rattle.std.specs.List.{range_with_len}
use Rattle.rf_form.specs.Alive.{is_among}
use Rattle.rf_trail.proofs.bitdom.BitDom.size.Given as goal

abbrev pub invariant-loop-v : goal.invariant-loop-v
invariant-loop-v g l = record {
  is : l.count ≡ length (filter (λ w. is_among w l.self) (range_with_len 0 l.v));
  small : l.count ≤ l.v;
}
