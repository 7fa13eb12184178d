use Rattle.std.proofs.Common.{length}
use Rattle.rf_jcheck.proofs.mod_checks.+each_mod_fits.Given as goal

abbrev pub decreases-each_mod_fits : goal.decreases-each_mod_fits
decreases-each_mod_fits l = length l.mods.now
