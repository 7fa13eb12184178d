use Rattle.rf_refute.proofs.Takings.{family_less, grown_one}
use Rattle.rf_refute.proofs.Stackings.{removed_opened}
use Rattle.rf_refute.proofs.opening.open_remove.Goals as goal

pub returns-clause-opened : goal.returns-clause-opened
returns-clause-opened g c = let old = c.args.store.now in let new = c.remove.new.self in let δ = g.S.Alive.family old in
    removed_opened c.args.vals.now c.args.frames.now.1 (g.S.Store.first old) δ (g.S.Alive.family new) (g.S.Store.removed old) (g.S.Store.removed new)
    c.args.x c.args.v c.args.frames.now.0
    (family_less δ (g.S.Alive.family new) (g.S.Store.first old) (g.S.Store.first new) (g.S.Store.removed old) (g.S.Store.removed new)
    c.args.x c.args.v (g.met.S.Store.left_is old) (g.met.S.Store.left_is new) c.remove.ensures.first c.remove.ensures.removed)
    (grown_one (g.S.Store.removed old) (g.S.Store.removed new) c.args.x c.args.v c.remove.ensures.removed)
    c.requires.fit c.requires.held c.requires.light
