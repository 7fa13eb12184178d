use Rattle.rf_form.proofs.Counts.{at_counts_one, at_counts_other}
use Rattle.rf_form.proofs.domains.AtAlive.size.Goals as goal

pub returns-then-self-x : goal.returns-then-self-x
returns-then-self-x g c = at_counts_one (g.D.Alive.family c.args.self.now.dom.now) c.args.self.now.x c.args.self.now.v c.args.x c.if-self-x.true

pub returns-else-self-x : goal.returns-else-self-x
returns-else-self-x g c = at_counts_other (g.D.Alive.family c.args.self.now.dom.now) c.args.self.now.x c.args.self.now.v c.args.x c.size.result
    c.if-self-x.false c.size.ensures
