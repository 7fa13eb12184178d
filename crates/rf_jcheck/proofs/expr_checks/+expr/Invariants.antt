use Rattle.std.proofs.Common.{◌↔◌, ◌+◌, ◌*◌, drop}
use Rattle.rf_jtree.specs.ExprFits.{MoreExprsFit, SizesFit, MoreInitsFit}
use Rattle.rf_jtree.specs.ExprShown.{more_exprs_shown, sizes_shown, more_inits_shown}
use Rattle.rf_jcheck.proofs.expr_checks.+expr.Given as goal

abbrev pub invariant-more_exprs_fit-loop-item : goal.invariant-more_exprs_fit-loop-item
invariant-more_exprs_fit-loop-item l = MoreExprsFit (more_exprs_shown l.rest) ↔ MoreExprsFit (more_exprs_shown (drop l.item-index l.rest))

abbrev pub invariant-sizes_fit-loop-size : goal.invariant-sizes_fit-loop-size
invariant-sizes_fit-loop-size l = SizesFit (sizes_shown l.sizes) ↔ SizesFit (sizes_shown (drop l.size-index l.sizes))

abbrev pub invariant-more_inits_fit-loop-item : goal.invariant-more_inits_fit-loop-item
invariant-more_inits_fit-loop-item l = MoreInitsFit (more_inits_shown l.rest) ↔ MoreInitsFit (more_inits_shown (drop l.item-index l.rest))

-- The depth, and within it the steps from a list to its items.
abbrev pub decreases-expr_fits : goal.decreases-expr_fits
decreases-expr_fits l = 4 * goal.size-expr_fits l

abbrev pub decreases-args_fit : goal.decreases-args_fit
decreases-args_fit l = 4 * goal.size-args_fit l

abbrev pub decreases-init_fits : goal.decreases-init_fits
decreases-init_fits l = 4 * goal.size-init_fits l

abbrev pub decreases-braces_fit : goal.decreases-braces_fit
decreases-braces_fit l = 4 * goal.size-braces_fit l

abbrev pub decreases-on_fits : goal.decreases-on_fits
decreases-on_fits l = 4 * goal.size-on_fits l + 1

abbrev pub decreases-super_args_fit : goal.decreases-super_args_fit
decreases-super_args_fit l = 4 * goal.size-super_args_fit l + 1

abbrev pub decreases-more_exprs_fit : goal.decreases-more_exprs_fit
decreases-more_exprs_fit l = 4 * goal.size-more_exprs_fit l + 1

abbrev pub decreases-more_inits_fit : goal.decreases-more_inits_fit
decreases-more_inits_fit l = 4 * goal.size-more_inits_fit l + 1

abbrev pub decreases-sizes_fit : goal.decreases-sizes_fit
decreases-sizes_fit l = 4 * goal.size-sizes_fit l + 1

abbrev pub decreases-many_exprs_fit : goal.decreases-many_exprs_fit
decreases-many_exprs_fit l = 4 * goal.size-many_exprs_fit l + 2

abbrev pub decreases-many_inits_fit : goal.decreases-many_inits_fit
decreases-many_inits_fit l = 4 * goal.size-many_inits_fit l + 2

abbrev pub decreases-exprs_fit : goal.decreases-exprs_fit
decreases-exprs_fit l = 4 * goal.size-exprs_fit l + 3

abbrev pub decreases-inits_fit : goal.decreases-inits_fit
decreases-inits_fit l = 4 * goal.size-inits_fit l + 3
