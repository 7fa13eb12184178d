use Rattle.std.proofs.Common.{length}
use Rattle.rf_jcheck.proofs.member_parts.+more_names_fit.Given as goal

abbrev pub decreases-more_names_fit : goal.decreases-more_names_fit
decreases-more_names_fit l = length l.rest.now
