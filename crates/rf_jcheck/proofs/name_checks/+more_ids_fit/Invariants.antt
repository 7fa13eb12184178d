use Rattle.std.proofs.Common.{length}
use Rattle.rf_jcheck.proofs.name_checks.+more_ids_fit.Given as goal

abbrev pub decreases-more_ids_fit : goal.decreases-more_ids_fit
decreases-more_ids_fit l = length l.rest.now
