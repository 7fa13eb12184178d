use Rattle.std.proofs.Common.{◌-◌, length}
use Rattle.rf_jtree.specs.declared.operator_names.TheConstants.{COMMA}
use Rattle.rf_jexpr.specs.Descent.{parsers}
use Rattle.rf_jexpr.specs.Reads.{is_op, behind}
use Rattle.rf_jexpr.proofs.GrowthLemmas.{IsFilling}
use Rattle.rf_jstmt.specs.StmtMade.{next_var_shown, next_var_depth}
use Rattle.rf_jstmt.specs.VarReads.{var}
use Rattle.rf_jstmt.proofs.variables.more_vars.Given as goal

abbrev pub invariant-items : goal.invariant-items
invariant-items l = IsFilling next_var_shown next_var_depth l.room (behind (is_op COMMA) (var (parsers l.room))) l.t l.at l.more.tree l.more.end l.more.depth

abbrev pub decreases-items : goal.decreases-items
decreases-items l = length l.t - l.more.end
