use Rattle.rf_jmods.proofs.ModLemmas.{variable_exact}
use Rattle.rf_jmods.proofs.mod_tests.is_variable_mod.Goals as goal

pub returns : goal.returns
returns c = variable_exact _ _ c.is_final_or_annotation.ensures
