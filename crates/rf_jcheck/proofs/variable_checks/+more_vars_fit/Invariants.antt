use Rattle.std.proofs.Common.{length}
use Rattle.rf_jcheck.proofs.variable_checks.+more_vars_fit.Given as goal

abbrev pub decreases-more_vars_fit : goal.decreases-more_vars_fit
decreases-more_vars_fit l = length l.rest.now
