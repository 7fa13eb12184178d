use Rattle.rf_jview.proofs.DeclFitsWith.{unit_fits-with}
use Rattle.rf_jview.proofs.laws.rewritten_files_fit.Goals as goal

pub returns : goal.returns
returns c = unit_fits-with
