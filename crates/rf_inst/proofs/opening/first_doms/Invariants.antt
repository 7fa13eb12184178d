use Rattle.std.proofs.Common.{◌≡◌, take}
use Rattle.rf_inst.specs.Opening.{opening}
use Rattle.rf_inst.proofs.opening.first_doms.Given as goal

abbrev pub invariant-loop-x : goal.invariant-loop-x
invariant-loop-x l = l.alive ≡ take l.x (opening l.t.forced l.i.vals)
