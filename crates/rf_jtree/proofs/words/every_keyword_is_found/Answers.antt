use Rattle.std.proofs.Common.{refl}
use Rattle.rf_jtree.specs.Words.{KEYWORDS}
use Rattle.rf_jtree.proofs.words.every_keyword_is_found.Goals as goal

pub returns : goal.returns
unfolding KEYWORDS
returns c = c.each_is_found.ensures refl
