use Rattle.rf_jmods.proofs.ModLemmas.{access_exact}
use Rattle.rf_jmods.proofs.mod_tests.one_access.Goals as goal

pub returns : goal.returns
returns c = access_exact _ _ c.has_one_access_at_most.ensures
