use Rattle.std.proofs.Common.{◌≡◌, drop}
use Rattle.rf_jtree.specs.StmtShown.{more_vars_shown}
use Rattle.rf_jview.specs.Accounts.{noted}
use Rattle.rf_jview.specs.DeclMarks.{more_fields_marks}
use Rattle.rf_junits.proofs.members.more_fields.Given as goal

abbrev pub invariant-loop-item : goal.invariant-loop-item
invariant-loop-item l = noted l.account (more_fields_marks (more_vars_shown (drop l.item-index l.rest))) ≡ noted l.fn.account (more_fields_marks (more_vars_shown l.rest))
