use Rattle.std.proofs.Common.{length}
use Rattle.rf_jcheck.proofs.member_checks.+are_access_and_annotations.Given as goal

abbrev pub decreases-are_access_and_annotations : goal.decreases-are_access_and_annotations
decreases-are_access_and_annotations l = length l.mods.now
