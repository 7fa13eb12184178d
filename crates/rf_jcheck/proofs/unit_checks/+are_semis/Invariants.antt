use Rattle.std.proofs.Common.{length}
use Rattle.rf_jcheck.proofs.unit_checks.+are_semis.Given as goal

abbrev pub decreases-are_semis : goal.decreases-are_semis
decreases-are_semis l = length l.semis.now
