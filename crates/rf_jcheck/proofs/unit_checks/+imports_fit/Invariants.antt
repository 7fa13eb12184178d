use Rattle.std.proofs.Common.{length}
use Rattle.rf_jcheck.proofs.unit_checks.+imports_fit.Given as goal

abbrev pub decreases-imports_fit : goal.decreases-imports_fit
decreases-imports_fit l = length l.imports.now
