use Rattle.rf_trail.proofs.Words.{empty_places}
use Rattle.rf_trail.proofs.bitdom.BitDom.empty.Goals as goal

pub returns : goal.returns
returns g c = empty_places g.row.W
