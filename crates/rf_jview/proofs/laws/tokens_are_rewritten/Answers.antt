use Rattle.rf_jview.proofs.DeclTokens.{unit_tokens}
use Rattle.rf_jview.proofs.laws.tokens_are_rewritten.Goals as goal

pub returns : goal.returns
returns c = unit_tokens
