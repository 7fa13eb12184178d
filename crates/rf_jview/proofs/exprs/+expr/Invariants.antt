use Rattle.std.proofs.Common.{◌≡◌, ◌+◌, ◌*◌, drop}
use Rattle.rf_jtree.specs.ExprShown.{more_exprs_shown, sizes_shown, more_inits_shown}
use Rattle.rf_jview.specs.Accounts.{noted}
use Rattle.rf_jview.specs.ExprMarks.{more_exprs_marks, sizes_marks, more_inits_marks}
use Rattle.rf_jview.proofs.exprs.+expr.Given as goal

abbrev pub invariant-more_exprs-loop-item : goal.invariant-more_exprs-loop-item
invariant-more_exprs-loop-item l = noted l.account (more_exprs_marks (more_exprs_shown (drop l.item-index l.rest))) ≡ noted l.fn.account (more_exprs_marks (more_exprs_shown l.rest))

abbrev pub invariant-sizes-loop-size : goal.invariant-sizes-loop-size
invariant-sizes-loop-size l = noted l.account (sizes_marks (sizes_shown (drop l.size-index l.list))) ≡ noted l.fn.account (sizes_marks (sizes_shown l.list))

abbrev pub invariant-more_inits-loop-item : goal.invariant-more_inits-loop-item
invariant-more_inits-loop-item l = noted l.account (more_inits_marks (more_inits_shown (drop l.item-index l.rest))) ≡ noted l.fn.account (more_inits_marks (more_inits_shown l.rest))

-- The size, and within it the steps from a list to its items.
abbrev pub decreases-expr : goal.decreases-expr
decreases-expr l = 4 * goal.size-expr l

abbrev pub decreases-args : goal.decreases-args
decreases-args l = 4 * goal.size-args l

abbrev pub decreases-init : goal.decreases-init
decreases-init l = 4 * goal.size-init l

abbrev pub decreases-braces : goal.decreases-braces
decreases-braces l = 4 * goal.size-braces l

abbrev pub decreases-on : goal.decreases-on
decreases-on l = 4 * goal.size-on l + 1

abbrev pub decreases-super_args : goal.decreases-super_args
decreases-super_args l = 4 * goal.size-super_args l + 1

abbrev pub decreases-more_exprs : goal.decreases-more_exprs
decreases-more_exprs l = 4 * goal.size-more_exprs l + 1

abbrev pub decreases-more_inits : goal.decreases-more_inits
decreases-more_inits l = 4 * goal.size-more_inits l + 1

abbrev pub decreases-sizes : goal.decreases-sizes
decreases-sizes l = 4 * goal.size-sizes l + 1

abbrev pub decreases-many_exprs : goal.decreases-many_exprs
decreases-many_exprs l = 4 * goal.size-many_exprs l + 2

abbrev pub decreases-many_inits : goal.decreases-many_inits
decreases-many_inits l = 4 * goal.size-many_inits l + 2

abbrev pub decreases-exprs : goal.decreases-exprs
decreases-exprs l = 4 * goal.size-exprs l + 3

abbrev pub decreases-inits : goal.decreases-inits
decreases-inits l = 4 * goal.size-inits l + 3
