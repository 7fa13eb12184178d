use Rattle.std.proofs.Common.{◌-◌, length}
use Rattle.rf_jtree.specs.declared.operator_names.TheConstants.{SEMICOLON}
use Rattle.rf_jexpr.specs.Reads.{is_op, token}
use Rattle.rf_jexpr.proofs.TurnLemmas.{IsAtTurn}
use Rattle.rf_jdecl.proofs.units.semis.Given as goal

abbrev pub invariant-items : goal.invariant-items
invariant-items l = IsAtTurn (token (is_op SEMICOLON)) l.t l.at l.list l.end

abbrev pub decreases-items : goal.decreases-items
decreases-items l = length l.t - l.end
