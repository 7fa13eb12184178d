use Rattle.std.proofs.Common.{◌<◌, ◌++◌, ℕ, List, map, sym, subst, arith}
use Rattle.rf_form.specs.Families.{at}
use Rattle.rf_refute.specs.Stacks.{pending, alive_count, Opened}
use Rattle.rf_refute.proofs.Stackings.{count_some, entered_opened}
use Rattle.rf_refute.proofs.opening.open_split.Goals as goal

pub enter-requires-clause-room : goal.enter-requires-clause-room
enter-requires-clause-room g c = let next = c.in-Some.ensures in
    let some = count_some c.args.vals.now (g.S.Alive.family c.args.store.now) c.args.x c.in-Some.v c.requires.fit next.alive in
    let light = c.requires.light in omega arith

pub returns-in-Some-clause-opened : goal.returns-in-Some-clause-opened
returns-in-Some-clause-opened g c = let next = c.in-Some.ensures in let old = c.args.store.now in let new = c.enter.new.store in let δ = g.S.Alive.family old in
    let before = c.args.frames.now.0 in let first = g.S.Store.first old in
    subst (λ (l : List ℕ). Opened c.args.vals.now c.args.frames.now.1 first (map (at δ c.args.x) l ++ pending c.args.vals.now first (g.S.Store.removed old) before)
    (g.S.Alive.family new) (g.S.Store.removed new) c.enter.new.frames.0) (sym next.same)
    (entered_opened c.args.vals.now c.args.frames.now.1 first δ (g.S.Alive.family new) (g.S.Store.removed old) (g.S.Store.removed new) c.args.x c.in-Some.v before
    c.enter.new.frames.0 (g.met.S.Store.left_is old) c.enter.ensures.family c.enter.ensures.grown c.requires.fit next.alive c.requires.held c.requires.light
    c.enter.ensures.entered)
