use Rattle.std.proofs.Common.{◌-◌, length}
use Rattle.rf_jtree.specs.declared.operator_names.TheConstants.{COMMA}
use Rattle.rf_jexpr.specs.Reads.{is_op, token, behind}
use Rattle.rf_jexpr.proofs.TurnLemmas.{IsAtTurn}
use Rattle.rf_jmods.specs.ModReads.{is_str}
use Rattle.rf_jmods.proofs.annotations.more_strs.Given as goal

abbrev pub invariant-loop-list : goal.invariant-loop-list
invariant-loop-list l = IsAtTurn (behind (is_op COMMA) (token is_str)) l.t l.at l.list l.end

abbrev pub decreases-loop-list : goal.decreases-loop-list
decreases-loop-list l = length l.t - l.end
