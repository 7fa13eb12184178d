use Rattle.std.proofs.Common.{◌≡◌, ◌+◌, ◌*◌, drop}
use Rattle.rf_jtree.specs.StmtShown.{stmts_shown, groups_shown, catches_shown}
use Rattle.rf_jview.specs.Accounts.{back_of, noted}
use Rattle.rf_jview.specs.StmtMarks.{stmts_marks, groups_marks, catches_marks}
use Rattle.rf_jwalk.proofs.stmts.+stmt.Given as goal

abbrev pub invariant-stmts-loop-one : goal.invariant-stmts-loop-one
invariant-stmts-loop-one l =
    noted l.account (stmts_marks (back_of l.account) (stmts_shown (drop l.one-index l.list)))
    ≡ noted l.fn.account (stmts_marks (back_of l.fn.account) (stmts_shown l.list))

abbrev pub invariant-groups-loop-part : goal.invariant-groups-loop-part
invariant-groups-loop-part l =
    noted l.account (groups_marks (back_of l.account) (groups_shown (drop l.part-index l.list)))
    ≡ noted l.fn.account (groups_marks (back_of l.fn.account) (groups_shown l.list))

abbrev pub invariant-catches-loop-part : goal.invariant-catches-loop-part
invariant-catches-loop-part l =
    noted l.account (catches_marks (catches_shown (drop l.part-index l.list)))
    ≡ noted l.fn.account (catches_marks (catches_shown l.list))

-- The size, and within it the steps from a list to its items.
abbrev pub decreases-stmt : goal.decreases-stmt
decreases-stmt l = 4 * goal.size-stmt l

abbrev pub decreases-block : goal.decreases-block
decreases-block l = 4 * goal.size-block l

abbrev pub decreases-group : goal.decreases-group
decreases-group l = 4 * goal.size-group l

abbrev pub decreases-catch_clause : goal.decreases-catch_clause
decreases-catch_clause l = 4 * goal.size-catch_clause l

abbrev pub decreases-for_loop : goal.decreases-for_loop
decreases-for_loop l = 4 * goal.size-for_loop l + 1

abbrev pub decreases-each_body : goal.decreases-each_body
decreases-each_body l = 4 * goal.size-each_body l + 1

abbrev pub decreases-switch_body : goal.decreases-switch_body
decreases-switch_body l = 4 * goal.size-switch_body l + 2

abbrev pub decreases-stmts : goal.decreases-stmts
decreases-stmts l = 4 * goal.size-stmts l + 1

abbrev pub decreases-groups : goal.decreases-groups
decreases-groups l = 4 * goal.size-groups l + 1

abbrev pub decreases-catches : goal.decreases-catches
decreases-catches l = 4 * goal.size-catches l + 1

abbrev pub decreases-other : goal.decreases-other
decreases-other l = 4 * goal.size-other l + 1

abbrev pub decreases-last : goal.decreases-last
decreases-last l = 4 * goal.size-last l + 1
