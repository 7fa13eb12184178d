use Rattle.std.proofs.Common.{◌+◌, ◌*◌}
use Rattle.rf_jtold.proofs.exprs.+tell.Given as goal

-- The size, and within it the steps from a list to its items and from a node to the sorts of nodes.
abbrev pub decreases-tell : goal.decreases-tell
decreases-tell l = 8 * goal.size-tell l + 3

abbrev pub decreases-tell_bare : goal.decreases-tell_bare
decreases-tell_bare l = 8 * goal.size-tell_bare l + 2

abbrev pub decreases-tell_primary : goal.decreases-tell_primary
decreases-tell_primary l = 8 * goal.size-tell_primary l + 1

abbrev pub decreases-tell_new : goal.decreases-tell_new
decreases-tell_new l = 8 * goal.size-tell_new l

abbrev pub decreases-tell_on : goal.decreases-tell_on
decreases-tell_on l = 8 * goal.size-tell_on l + 4

abbrev pub decreases-tell_args : goal.decreases-tell_args
decreases-tell_args l = 8 * goal.size-tell_args l

abbrev pub decreases-tell_exprs : goal.decreases-tell_exprs
decreases-tell_exprs l = 8 * goal.size-tell_exprs l + 4

abbrev pub decreases-tell_sizes : goal.decreases-tell_sizes
decreases-tell_sizes l = 8 * goal.size-tell_sizes l + 4

abbrev pub decreases-tell_init : goal.decreases-tell_init
decreases-tell_init l = 8 * goal.size-tell_init l

abbrev pub decreases-tell_inits : goal.decreases-tell_inits
decreases-tell_inits l = 8 * goal.size-tell_inits l + 4

abbrev pub decreases-tell_braces : goal.decreases-tell_braces
decreases-tell_braces l = 8 * goal.size-tell_braces l
