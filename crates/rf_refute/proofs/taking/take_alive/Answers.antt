use Rattle.std.proofs.Common.{sym, ◌∙◌}
use Rattle.rf_refute.proofs.Takings.{family_less, without_dead}
use Rattle.rf_refute.proofs.taking.take_alive.Goals as goal

pub returns-then-not-has-clause-family : goal.returns-then-not-has-clause-family
returns-then-not-has-clause-family g c = without_dead (g.S.Alive.family c.args.store.now) c.args.x c.args.v (sym c.has.ensures ∙ c.if-not-has.true)

pub returns-clause-family : goal.returns-clause-family
returns-clause-family g c = let old = c.args.store.now in let new = c.remove.new.self in
    family_less (g.S.Alive.family old) (g.S.Alive.family new) (g.S.Store.first old) (g.S.Store.first new) (g.S.Store.removed old) (g.S.Store.removed new)
    c.args.x c.args.v (g.met.S.Store.left_is old) (g.met.S.Store.left_is new) c.remove.ensures.first c.remove.ensures.removed
