use Rattle.rf_make.proofs.Leaving.{leaves}
use Rattle.rf_make.proofs.laws.what_is_decided_stays.Goals as goal

pub returns : goal.returns
returns c = λ gathered gs more is so. leaves gathered gs more is so
