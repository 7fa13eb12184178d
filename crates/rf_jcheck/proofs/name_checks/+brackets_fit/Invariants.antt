use Rattle.std.proofs.Common.{length}
use Rattle.rf_jcheck.proofs.name_checks.+brackets_fit.Given as goal

abbrev pub decreases-brackets_fit : goal.decreases-brackets_fit
decreases-brackets_fit l = length l.brackets.now
