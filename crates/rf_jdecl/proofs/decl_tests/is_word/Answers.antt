use Rattle.rf_jexpr.proofs.CursorLemmas.{key_exact}
use Rattle.rf_jdecl.proofs.decl_tests.is_word.Goals as goal

pub returns : goal.returns
returns c = key_exact _ _ _ c.is_key.ensures
