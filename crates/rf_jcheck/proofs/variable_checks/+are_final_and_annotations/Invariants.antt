use Rattle.std.proofs.Common.{length}
use Rattle.rf_jcheck.proofs.variable_checks.+are_final_and_annotations.Given as goal

abbrev pub decreases-are_final_and_annotations : goal.decreases-are_final_and_annotations
decreases-are_final_and_annotations l = length l.mods.now
