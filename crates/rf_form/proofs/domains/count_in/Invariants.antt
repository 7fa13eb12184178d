use Rattle.std.proofs.Common.{◌≡◌, ◌≤◌}
use Rattle.rf_form.specs.Alive.{is_among}
use Rattle.rf_form.specs.Sums.{sum_below, bit}
use Rattle.rf_form.proofs.domains.count_in.Given as goal

abbrev pub invariant-loop-v : goal.invariant-loop-v
invariant-loop-v l = record {
  is : l.count ≡ sum_below (λ w. bit (is_among w l.row)) l.v;
  small : l.count ≤ l.v;
}
