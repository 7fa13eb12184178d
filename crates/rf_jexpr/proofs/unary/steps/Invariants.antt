use Rattle.std.proofs.Common.{◌+◌, ◌-◌, drop}
use Rattle.rf_jexpr.specs.Descent.{step}
use Rattle.rf_jmake.specs.ExprMade.{boxed_shown}
use Rattle.rf_jexpr.specs.Reads.{chain}
use Rattle.rf_jexpr.proofs.GrowthLemmas.{IsInHand}
use Rattle.rf_jexpr.proofs.unary.steps.Given as goal

abbrev pub invariant-steps : goal.invariant-steps
invariant-steps l = IsInHand (step l.room) (l.room + 1) l.t l.fn.first.end (chain (step l.room) (l.room + 1) (boxed_shown l.fn.first.tree) (drop l.fn.first.end l.t)) (boxed_shown l.operand.tree) l.operand.end l.operand.depth

abbrev pub decreases-steps : goal.decreases-steps
decreases-steps l = l.room + 2 - l.operand.depth
