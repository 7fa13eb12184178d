use Rattle.std.proofs.Common.{length}
use Rattle.rf_jcheck.proofs.member_parts.+more_params_fit.Given as goal

abbrev pub decreases-more_params_fit : goal.decreases-more_params_fit
decreases-more_params_fit l = length l.rest.now
