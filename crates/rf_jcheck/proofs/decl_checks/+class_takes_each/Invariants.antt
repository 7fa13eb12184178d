use Rattle.std.proofs.Common.{length}
use Rattle.rf_jcheck.proofs.decl_checks.+class_takes_each.Given as goal

abbrev pub decreases-class_takes_each : goal.decreases-class_takes_each
decreases-class_takes_each l = length l.members.now
