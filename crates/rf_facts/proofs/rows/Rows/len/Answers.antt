use Rattle.rf_facts.proofs.Pieces.{counted}
use Rattle.rf_facts.proofs.rows.Rows.len.Goals as goal

pub returns-clause-len : goal.returns-clause-len
returns-clause-len c = counted c.self.inside.width c.self.inside.count c.self.inside.cells.items c.args.self.now c.self.view_is
