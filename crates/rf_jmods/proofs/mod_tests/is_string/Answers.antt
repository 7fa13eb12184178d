use Rattle.rf_jmods.proofs.ModLemmas.{str_exact}
use Rattle.rf_jmods.proofs.mod_tests.is_string.Goals as goal

pub returns : goal.returns
returns c = str_exact _ _ c.is_str.ensures
