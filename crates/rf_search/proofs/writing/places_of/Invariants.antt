use Rattle.std.proofs.Common.{◌≡◌, ◌-◌, ◌++◌, length}
use Rattle.rf_form.specs.Truths.{row}
use Rattle.rf_refute.specs.Stacks.{values_from}
use Rattle.rf_search.proofs.writing.places_of.Given as goal

abbrev pub invariant-loop-v : goal.invariant-loop-v
invariant-loop-v g l = l.places.items ++ values_from l.vals (g.D.Alive.family l.doms) l.x l.from ≡ values_from l.vals (g.D.Alive.family l.doms) l.x 0

abbrev pub decreases-loop-v : goal.decreases-loop-v
decreases-loop-v g l = length (row l.vals l.x) - l.from
