use Rattle.std.proofs.Common.{◌+◌, ◌-◌, ◌*◌, length}
use Rattle.rf_jtree.specs.StmtShown.{stmt_shown, group_shown, catch_shown}
use Rattle.rf_jtree.specs.StmtTrees.{stmt_depth, group_depth, catch_depth}
use Rattle.rf_jexpr.specs.Descent.{parsers}
use Rattle.rf_jexpr.proofs.GrowthLemmas.{IsFilling}
use Rattle.rf_jstmt.specs.StmtReads.{stmt_parsers, group, catch_part}
use Rattle.rf_jstmt.proofs.+stmt.Given as goal

-- Each measure is 20 for each room and the place of the function in its room: a function calls those of the same room that
-- have a lower place, and any of a smaller room. The places:
--
--    0  stmt             1  block_stmt (both give what is left for parts to the rest)
--    2  labeled, other_part, while_stmt, do_stmt, basic_for, each_for
--    3  other, local_for, stmts
--    4  if_stmt, for_stmt, body, case_group, default_group
--    5  block_alone, sync_stmt, group, catch_part, last_part
--    6  catches, last
--    7  groups, try_stmt
--    8  switch_stmt
--   10  by_word         11  any_stmt

abbrev pub decreases-blocks::block_alone : goal.decreases-blocks::block_alone
decreases-blocks::block_alone l = 20 * l.room + 5

abbrev pub decreases-blocks::body : goal.decreases-blocks::body
decreases-blocks::body l = 20 * l.room + 4

abbrev pub decreases-blocks::stmts : goal.decreases-blocks::stmts
decreases-blocks::stmts l = 20 * l.room + 3

abbrev pub decreases-branches::case_group : goal.decreases-branches::case_group
decreases-branches::case_group l = 20 * l.room + 4

abbrev pub decreases-branches::default_group : goal.decreases-branches::default_group
decreases-branches::default_group l = 20 * l.room + 4

abbrev pub decreases-branches::group : goal.decreases-branches::group
decreases-branches::group l = 20 * l.room + 5

abbrev pub decreases-branches::groups : goal.decreases-branches::groups
decreases-branches::groups l = 20 * l.room + 7

abbrev pub decreases-branches::if_stmt : goal.decreases-branches::if_stmt
decreases-branches::if_stmt l = 20 * l.room + 4

abbrev pub decreases-branches::labeled : goal.decreases-branches::labeled
decreases-branches::labeled l = 20 * l.room + 2

abbrev pub decreases-branches::other : goal.decreases-branches::other
decreases-branches::other l = 20 * l.room + 3

abbrev pub decreases-branches::other_part : goal.decreases-branches::other_part
decreases-branches::other_part l = 20 * l.room + 2

abbrev pub decreases-branches::switch_stmt : goal.decreases-branches::switch_stmt
decreases-branches::switch_stmt l = 20 * l.room + 8

abbrev pub decreases-loops::basic_for : goal.decreases-loops::basic_for
decreases-loops::basic_for l = 20 * l.room + 2

abbrev pub decreases-loops::do_stmt : goal.decreases-loops::do_stmt
decreases-loops::do_stmt l = 20 * l.room + 2

abbrev pub decreases-loops::each_for : goal.decreases-loops::each_for
decreases-loops::each_for l = 20 * l.room + 2

abbrev pub decreases-loops::for_stmt : goal.decreases-loops::for_stmt
decreases-loops::for_stmt l = 20 * l.room + 4

abbrev pub decreases-loops::local_for : goal.decreases-loops::local_for
decreases-loops::local_for l = 20 * l.room + 3

abbrev pub decreases-loops::while_stmt : goal.decreases-loops::while_stmt
decreases-loops::while_stmt l = 20 * l.room + 2

abbrev pub decreases-top::any_stmt : goal.decreases-top::any_stmt
decreases-top::any_stmt l = 20 * l.room + 11

abbrev pub decreases-top::block_stmt : goal.decreases-top::block_stmt
decreases-top::block_stmt l = 20 * l.room + 1

abbrev pub decreases-top::by_word : goal.decreases-top::by_word
decreases-top::by_word l = 20 * l.room + 10

abbrev pub decreases-top::stmt : goal.decreases-top::stmt
decreases-top::stmt l = 20 * l.room + 0

abbrev pub decreases-tries::catch_part : goal.decreases-tries::catch_part
decreases-tries::catch_part l = 20 * l.room + 5

abbrev pub decreases-tries::catches : goal.decreases-tries::catches
decreases-tries::catches l = 20 * l.room + 6

abbrev pub decreases-tries::last : goal.decreases-tries::last
decreases-tries::last l = 20 * l.room + 6

abbrev pub decreases-tries::last_part : goal.decreases-tries::last_part
decreases-tries::last_part l = 20 * l.room + 5

abbrev pub decreases-tries::sync_stmt : goal.decreases-tries::sync_stmt
decreases-tries::sync_stmt l = 20 * l.room + 5

abbrev pub decreases-tries::try_stmt : goal.decreases-tries::try_stmt
decreases-tries::try_stmt l = 20 * l.room + 7

-- loops

abbrev pub invariant-blocks::stmts-items : goal.invariant-blocks::stmts-items
invariant-blocks::stmts-items l = IsFilling stmt_shown stmt_depth l.room (stmt_parsers l.room).block_stmt l.t l.at l.list.tree l.list.end l.list.depth

abbrev pub decreases-blocks::stmts-items : goal.decreases-blocks::stmts-items
decreases-blocks::stmts-items l = length l.t - l.list.end

abbrev pub invariant-branches::groups-items : goal.invariant-branches::groups-items
invariant-branches::groups-items l = IsFilling group_shown group_depth l.room (group (parsers l.room) (stmt_parsers l.room)) l.t l.at l.list.tree l.list.end l.list.depth

abbrev pub decreases-branches::groups-items : goal.decreases-branches::groups-items
decreases-branches::groups-items l = length l.t - l.list.end

abbrev pub invariant-tries::catches-items : goal.invariant-tries::catches-items
invariant-tries::catches-items l = IsFilling catch_shown catch_depth l.room (catch_part (stmt_parsers l.room)) l.t l.at l.list.tree l.list.end l.list.depth

abbrev pub decreases-tries::catches-items : goal.decreases-tries::catches-items
decreases-tries::catches-items l = length l.t - l.list.end
