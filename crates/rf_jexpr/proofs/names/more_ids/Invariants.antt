use Rattle.std.proofs.Common.{◌-◌, length}
use Rattle.rf_jtree.specs.declared.operator_names.TheConstants.{DOT}
use Rattle.rf_jexpr.specs.Reads.{is_op, is_ident, token, behind}
use Rattle.rf_jexpr.proofs.TurnLemmas.{IsAtTurn}
use Rattle.rf_jexpr.proofs.names.more_ids.Given as goal

abbrev pub invariant-loop-ids : goal.invariant-loop-ids
invariant-loop-ids l = IsAtTurn (behind (is_op DOT) (token is_ident)) l.t l.at l.ids l.end

abbrev pub decreases-loop-ids : goal.decreases-loop-ids
decreases-loop-ids l = length l.t - l.end
