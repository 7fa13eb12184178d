use Rattle.rf_jmods.proofs.ModLemmas.{suppress_exact}
use Rattle.rf_jmods.proofs.mod_tests.is_suppress_name.Goals as goal

pub returns : goal.returns
returns c = suppress_exact _ _ c.is_suppress_name.ensures
