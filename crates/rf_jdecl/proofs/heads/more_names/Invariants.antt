use Rattle.std.proofs.Common.{◌-◌, length, map}
use Rattle.rf_jtree.specs.declared.operator_names.TheConstants.{COMMA}
use Rattle.rf_jexpr.specs.NameReads.{name}
use Rattle.rf_jexpr.specs.Reads.{is_op, behind}
use Rattle.rf_jexpr.proofs.TurnLemmas.{IsAtTurn}
use Rattle.rf_jdecl.specs.DeclMade.{name_item_shown}
use Rattle.rf_jdecl.proofs.heads.more_names.Given as goal

abbrev pub invariant-items : goal.invariant-items
invariant-items l = IsAtTurn (behind (is_op COMMA) name) l.t l.at (map name_item_shown l.list) l.end

abbrev pub decreases-items : goal.decreases-items
decreases-items l = length l.t - l.end
