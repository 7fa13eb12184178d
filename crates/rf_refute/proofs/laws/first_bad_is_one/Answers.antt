use Rattle.rf_refute.proofs.Sound.{bad_one}
use Rattle.rf_refute.proofs.laws.first_bad_is_one.Goals as goal

pub returns : goal.returns
returns c = λ s fams nodes k j f g. bad_one s fams nodes k j f g
