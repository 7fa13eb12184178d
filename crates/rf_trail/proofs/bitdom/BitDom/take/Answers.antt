use Rattle.rf_trail.proofs.Words.{inside_seen, take_seen}
use Rattle.rf_trail.proofs.bitdom.BitDom.take.Goals as goal

pub bounds-self-inside-at : goal.bounds-self-inside-at
bounds-self-inside-at g c = inside_seen c.self.inside.words c.args.self.now c.args.v g.row.W c.self.view_is c.self.told c.requires

pub bounds-self-inside-at-2 : goal.bounds-self-inside-at-2
bounds-self-inside-at-2 g c = inside_seen c.self.inside.words c.args.self.now c.args.v g.row.W c.self.view_is c.self.told c.requires

pub returns : goal.returns
returns g c = take_seen c.self.inside.words c.args.self.now c.args.v c.without_bit.result g.row.W c.self.view_is c.self.told c.requires c.without_bit.ensures
