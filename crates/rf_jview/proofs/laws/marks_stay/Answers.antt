use Rattle.rf_jview.proofs.DeclAlike.{unit_alike}
use Rattle.rf_jview.proofs.laws.marks_stay.Goals as goal

pub returns : goal.returns
returns c = λ g n unit. (unit_alike g n unit).equal
