use Rattle.std.proofs.Common.{codes, refl}
use Rattle.rf_jtree.specs.declared.keyword_names.TheConstants.{PRIVATE, PROTECTED, PUBLIC}
use Rattle.rf_jtree.specs.Words.{KEYWORDS, keyword_of}
use Rattle.rf_jtree.proofs.KeywordLemmas.{keyword_is_token}
use Rattle.rf_jtree.proofs.keyword_names.access_words_are_tokens.Goals as goal

pub returns-clause-of_private : goal.returns-clause-of_private
unfolding KEYWORDS keyword_of
returns-clause-of_private c = keyword_is_token (codes "private") PRIVATE refl

pub returns-clause-of_protected : goal.returns-clause-of_protected
unfolding KEYWORDS keyword_of
returns-clause-of_protected c = keyword_is_token (codes "protected") PROTECTED refl

pub returns-clause-of_public : goal.returns-clause-of_public
unfolding KEYWORDS keyword_of
returns-clause-of_public c = keyword_is_token (codes "public") PUBLIC refl
