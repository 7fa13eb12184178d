use Rattle.std.proofs.Common.{◌≡◌, drop}
use Rattle.rf_jtree.specs.StmtShown.{more_vars_shown}
use Rattle.rf_jview.specs.Accounts.{back_of, noted}
use Rattle.rf_jview.specs.StmtMarks.{more_locals_marks}
use Rattle.rf_jwalk.proofs.vars.more_locals.Given as goal

abbrev pub invariant-loop-item : goal.invariant-loop-item
invariant-loop-item l =
    noted l.account (more_locals_marks (back_of l.account) (more_vars_shown (drop l.item-index l.rest)))
    ≡ noted l.fn.account (more_locals_marks (back_of l.fn.account) (more_vars_shown l.rest))
