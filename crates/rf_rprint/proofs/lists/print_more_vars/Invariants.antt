use Rattle.std.proofs.Common.{◌≡◌, ◌++◌, length, map}
use Rattle.rf_rtree.specs.Plain.{after_commas, var_text}
use Rattle.rf_rprint.proofs.lists.print_more_vars.Given as goal

abbrev pub invariant-loop-vars : goal.invariant-loop-vars
invariant-loop-vars l = l.out ++ after_commas (map var_text l.vars) ≡ l.fn.out ++ after_commas (map var_text l.fn.vars)

abbrev pub decreases-loop-vars : goal.decreases-loop-vars
decreases-loop-vars l = length l.vars
