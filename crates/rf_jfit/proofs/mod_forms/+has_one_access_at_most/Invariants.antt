use Rattle.std.proofs.Common.{length}
use Rattle.rf_jfit.proofs.mod_forms.+has_one_access_at_most.Given as goal

abbrev pub decreases-has_one_access_at_most : goal.decreases-has_one_access_at_most
decreases-has_one_access_at_most l = length l.mods.now
