use Rattle.rf_refute.proofs.Sound.{good_none}
use Rattle.rf_refute.proofs.laws.good_refutes.Goals as goal

pub returns : goal.returns
returns c = λ s δ nodes within good. good_none s δ nodes within good
