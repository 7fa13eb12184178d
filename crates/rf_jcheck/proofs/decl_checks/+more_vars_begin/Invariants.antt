use Rattle.std.proofs.Common.{length}
use Rattle.rf_jcheck.proofs.decl_checks.+more_vars_begin.Given as goal

abbrev pub decreases-more_vars_begin : goal.decreases-more_vars_begin
decreases-more_vars_begin l = length l.rest.now
