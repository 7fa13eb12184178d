use Rattle.std.proofs.Common.{length}
use Rattle.rf_jcheck.proofs.mod_checks.+more_strs_fit.Given as goal

abbrev pub decreases-more_strs_fit : goal.decreases-more_strs_fit
decreases-more_strs_fit l = length l.rest.now
