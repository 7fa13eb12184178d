use Rattle.std.proofs.Common.{◌≡◌}
use Rattle.rf_refute.specs.Stacks.{values_from}
use Rattle.rf_refute.proofs.values.next_from.Given as goal

abbrev pub invariant-loop-v : goal.invariant-loop-v
invariant-loop-v g l = values_from l.vals (g.D.Alive.family l.doms) l.x l.from ≡ values_from l.vals (g.D.Alive.family l.doms) l.x l.v
