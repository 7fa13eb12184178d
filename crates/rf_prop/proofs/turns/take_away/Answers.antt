use Rattle.std.proofs.Common.{◌<◌, sym, subst}
use Rattle.rf_form.specs.Families.{Family, without}
use Rattle.rf_form.proofs.FamilyLemmas.{without_part}
use Rattle.rf_prop.proofs.CutLemmas.{family_less, fit_part, legal_from, logged_one, less_places}
use Rattle.rf_prop.specs.Weights.{alive_places}
use Rattle.rf_form.specs.Alive.{IsFit}
use Rattle.rf_prop.proofs.turns.take_away.Goals as goal

pub returns-clause-fit : goal.returns-clause-fit
returns-clause-fit g c = let old = c.args.store.now in let new = c.remove.new.self in let δ = g.S.Alive.family old in
    let s = g.C.Constraints.system c.args.all.now in
    let less = family_less δ (g.S.Alive.family new) (g.S.Store.first old) (g.S.Store.first new) (g.S.Store.removed old) (g.S.Store.removed new)
    c.args.cut.x c.args.cut.v (g.met.S.Store.left_is old) (g.met.S.Store.left_is new) c.remove.ensures.first c.remove.ensures.removed in
    subst (λ (ε : Family). IsFit s.vals ε) (sym less) (fit_part s (without δ c.args.cut.x c.args.cut.v) δ (without_part δ c.args.cut.x c.args.cut.v) c.requires.fit)

pub returns-clause-logged : goal.returns-clause-logged
returns-clause-logged g c = let old = c.args.store.now in let new = c.remove.new.self in let δ = g.S.Alive.family old in
    let s = g.C.Constraints.system c.args.all.now in
    let less = family_less δ (g.S.Alive.family new) (g.S.Store.first old) (g.S.Store.first new) (g.S.Store.removed old) (g.S.Store.removed new)
    c.args.cut.x c.args.cut.v (g.met.S.Store.left_is old) (g.met.S.Store.left_is new) c.remove.ensures.first c.remove.ensures.removed in
    logged_one s δ (g.S.Alive.family new) (g.S.Store.removed old) (g.S.Store.removed new) c.args.log.now c.push.new.self
    record { x = c.args.cut.x; v = c.args.cut.v; c = c.number.result }
    (legal_from s δ c.args.place c.args.cut.x c.args.cut.v c.number.result c.requires.inside c.requires.fit c.requires.holds c.requires.alive
    c.requires.fails (sym c.number.ensures)) less c.remove.ensures.removed c.in_ok-push.ensures.ok

pub returns-clause-lighter : goal.returns-clause-lighter
returns-clause-lighter g c = let old = c.args.store.now in let new = c.remove.new.self in let δ = g.S.Alive.family old in
    let s = g.C.Constraints.system c.args.all.now in
    let less = family_less δ (g.S.Alive.family new) (g.S.Store.first old) (g.S.Store.first new) (g.S.Store.removed old) (g.S.Store.removed new)
    c.args.cut.x c.args.cut.v (g.met.S.Store.left_is old) (g.met.S.Store.left_is new) c.remove.ensures.first c.remove.ensures.removed in
    subst (λ (ε : Family). alive_places s ε < alive_places s δ) (sym less) (less_places s δ c.args.cut.x c.args.cut.v c.requires.fit c.requires.alive)
