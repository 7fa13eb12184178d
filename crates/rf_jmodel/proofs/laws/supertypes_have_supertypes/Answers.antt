use Rattle.rf_jmodel.proofs.SuperLemmas.{below-trans}
use Rattle.rf_jmodel.proofs.laws.supertypes_have_supertypes.Goals as goal

pub returns : goal.returns
returns c = below-trans
