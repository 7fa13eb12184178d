use Rattle.std.proofs.Common.{length}
use Rattle.rf_jcheck.proofs.member_parts.+has_word_of.Given as goal

abbrev pub decreases-has_word_of : goal.decreases-has_word_of
decreases-has_word_of l = length l.mods.now
