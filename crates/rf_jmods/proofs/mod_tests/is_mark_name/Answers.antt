use Rattle.rf_jmods.proofs.ModLemmas.{mark_exact}
use Rattle.rf_jmods.proofs.mod_tests.is_mark_name.Goals as goal

pub returns : goal.returns
returns c = mark_exact _ _ c.is_mark_name.ensures
