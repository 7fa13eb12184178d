use Rattle.std.proofs.Common.{refl}
use Rattle.rf_jtree.specs.Words.{KEYWORDS, keyword_of}
use Rattle.rf_jtree.specs.Spelling.{KEYWORD_NAMES}
use Rattle.rf_jtree.proofs.keyword_names.keywords_are_named.Goals as goal

pub returns : goal.returns
unfolding KEYWORDS keyword_of KEYWORD_NAMES
returns c = refl
