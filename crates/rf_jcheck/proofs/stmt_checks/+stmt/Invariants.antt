use Rattle.rf_jtree.specs.StmtShown.{stmt_shown, block_shown, stmts_shown, other_shown, group_shown, groups_shown, catch_shown, catches_shown, last_shown}
use Rattle.rf_jcheck.proofs.StmtWeights.{stmt_weight, block_weight, stmts_weight, other_weight, group_weight, groups_weight, catch_weight, catches_weight, last_weight}
use Rattle.rf_jcheck.proofs.stmt_checks.+stmt.Given as goal

abbrev pub decreases-stmt_fits : goal.decreases-stmt_fits
decreases-stmt_fits l = stmt_weight (stmt_shown l.stmt.now)

abbrev pub decreases-block_fits : goal.decreases-block_fits
decreases-block_fits l = block_weight (block_shown l.block.now)

abbrev pub decreases-stmts_fit : goal.decreases-stmts_fit
decreases-stmts_fit l = stmts_weight (stmts_shown l.stmts.now)

abbrev pub decreases-other_fits : goal.decreases-other_fits
decreases-other_fits l = other_weight (other_shown l.other.now)

abbrev pub decreases-group_fits : goal.decreases-group_fits
decreases-group_fits l = group_weight (group_shown l.group.now)

abbrev pub decreases-groups_fit : goal.decreases-groups_fit
decreases-groups_fit l = groups_weight (groups_shown l.groups.now)

abbrev pub decreases-catch_fits : goal.decreases-catch_fits
decreases-catch_fits l = catch_weight (catch_shown l.part.now)

abbrev pub decreases-catches_fit : goal.decreases-catches_fit
decreases-catches_fit l = catches_weight (catches_shown l.catches.now)

abbrev pub decreases-last_fits : goal.decreases-last_fits
decreases-last_fits l = last_weight (last_shown l.last.now)
