use Rattle.rf_jmodel.proofs.DeclTypes.{unit_typed}
use Rattle.rf_jmodel.proofs.laws.a_file_declares_one_type.Goals as goal

pub returns : goal.returns
returns c = unit_typed
