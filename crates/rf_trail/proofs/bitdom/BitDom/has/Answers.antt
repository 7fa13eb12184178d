use Rattle.rf_trail.proofs.Words.{has_seen, none_seen}
use Rattle.rf_trail.proofs.bitdom.BitDom.has.Goals as goal

pub returns-then-at : goal.returns-then-at
returns-then-at g c = has_seen c.self.inside.words c.args.self.now c.args.v c.bit_of.result c.self.view_is c.bit_of.ensures

pub returns-else-at : goal.returns-else-at
returns-else-at g c = none_seen c.self.inside.words c.args.self.now c.args.v g.row.W c.self.view_is c.self.told c.if-at.false
