use Rattle.std.proofs.Common.{length}
use Rattle.rf_jcheck.proofs.decl_checks.+interface_takes_each.Given as goal

abbrev pub decreases-interface_takes_each : goal.decreases-interface_takes_each
decreases-interface_takes_each l = length l.members.now
