use Rattle.rf_jmods.proofs.ModLemmas.{twice_exact}
use Rattle.rf_jmods.proofs.mod_tests.none_twice.Goals as goal

pub returns : goal.returns
returns c = twice_exact _ _ c.none_stands_twice.ensures
