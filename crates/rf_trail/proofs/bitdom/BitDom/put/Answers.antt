use Rattle.rf_trail.proofs.Words.{put_seen}
use Rattle.rf_trail.proofs.bitdom.BitDom.put.Goals as goal

pub returns : goal.returns
returns g c = put_seen c.self.inside.words c.args.self.now c.args.v c.with_bit.result g.row.W c.self.view_is c.self.told c.requires.inside
    c.with_bit.ensures c.requires.fresh
