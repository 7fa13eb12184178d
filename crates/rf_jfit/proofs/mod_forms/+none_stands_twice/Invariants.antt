use Rattle.std.proofs.Common.{length}
use Rattle.rf_jfit.proofs.mod_forms.+none_stands_twice.Given as goal

abbrev pub decreases-none_stands_twice : goal.decreases-none_stands_twice
decreases-none_stands_twice l = length l.mods.now
