use Rattle.rf_jmodel.proofs.IdLemmas.{ids-stay}
use Rattle.rf_jmodel.proofs.laws.ids_stay.Goals as goal

pub returns : goal.returns
returns c = ids-stay
