use Rattle.std.proofs.Common.{◌≡◌, drop}
use Rattle.rf_refute.specs.Stacks.{values_from}
use Rattle.rf_refute.proofs.fitting.are_values.Given as goal

abbrev pub invariant-loop-v : goal.invariant-loop-v
invariant-loop-v g l = record {
  up : drop l.v-index l.listed ≡ values_from l.vals (g.D.Alive.family l.doms) l.x l.from
      → l.listed ≡ values_from l.vals (g.D.Alive.family l.doms) l.x 0;
  down : l.listed ≡ values_from l.vals (g.D.Alive.family l.doms) l.x 0
      → drop l.v-index l.listed ≡ values_from l.vals (g.D.Alive.family l.doms) l.x l.from;
}
