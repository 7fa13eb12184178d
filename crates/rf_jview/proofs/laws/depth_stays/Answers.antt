use Rattle.rf_jview.proofs.Depths.{unit_depth-with}
use Rattle.rf_jview.proofs.laws.depth_stays.Goals as goal

pub returns : goal.returns
returns c = unit_depth-with
