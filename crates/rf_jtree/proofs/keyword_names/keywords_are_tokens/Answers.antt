use Rattle.rf_jtree.proofs.KeywordLemmas.{keyword_is_token}
use Rattle.rf_jtree.proofs.keyword_names.keywords_are_tokens.Goals as goal

pub returns : goal.returns
returns c = keyword_is_token c.args.bytes.now
