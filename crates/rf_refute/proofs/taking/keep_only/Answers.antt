use Rattle.rf_refute.proofs.Takings.{keep_is}
use Rattle.rf_refute.proofs.taking.keep_only.Goals as goal

pub returns-clause-family : goal.returns-clause-family
returns-clause-family g c = keep_is c.args.vals.now c.args.x c.args.v c.width_of-width.result (g.S.Alive.family c.args.store.now)
    (g.S.Alive.family c.take_range.new.store) (g.S.Alive.family c.take_range-2.new.store) c.width_of-width.ensures c.requires.fit c.requires.alive
    c.take_range.ensures.family c.take_range-2.ensures.family
