use Rattle.std.proofs.Common.{◌-◌, length}
use Rattle.rf_jexpr.specs.NameReads.{brackets}
use Rattle.rf_jexpr.proofs.TurnLemmas.{IsAtTurn}
use Rattle.rf_jexpr.proofs.names.dims.Given as goal

abbrev pub invariant-loop-list : goal.invariant-loop-list
invariant-loop-list l = IsAtTurn brackets l.t l.at l.list l.end

abbrev pub decreases-loop-list : goal.decreases-loop-list
decreases-loop-list l = length l.t - l.end
