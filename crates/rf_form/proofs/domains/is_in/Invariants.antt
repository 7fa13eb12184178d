use Rattle.std.proofs.Common.{◌≡◌, drop}
use Rattle.rf_form.specs.Alive.{is_among}
use Rattle.rf_form.proofs.domains.is_in.Given as goal

abbrev pub invariant-loop-w : goal.invariant-loop-w
invariant-loop-w l = is_among l.v l.row ≡ is_among l.v (drop l.w-index l.row)
