use Rattle.rf_trail.proofs.Words.{shape_seen}
use Rattle.rf_trail.proofs.bitdom.BitDom.shape.Goals as goal

pub returns : goal.returns
returns g c = shape_seen c.self.inside.words c.args.self.now g.row.W c.self.view_is c.self.told
