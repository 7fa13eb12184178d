use Rattle.std.proofs.Common.{◌≡◌, ◌<◌, ◌++◌, ◌∷◌, [], ◌∙◌, ℕ, List, length, map, sym, ap, subst, arith}
use Rattle.std.proofs.lemmas.List.{map_push}
use Rattle.rf_refute.proofs.Listing.{values_all}
use Rattle.rf_refute.proofs.Stackings.{count_some}
use Rattle.rf_refute.specs.Shown.{shown}
use Rattle.rf_refute.specs.Stacks.{values_from, Entered}
use Rattle.rf_search.proofs.Standings.{split_stands, wide_lighter}
use Rattle.rf_search.proofs.Widths.{empty_narrow}
use Rattle.rf_search.proofs.Writings.{split_written, split_counted}
use Rattle.rf_search.proofs.splitting.split.Goals as goal

pub enter-requires-clause-room : goal.enter-requires-clause-room
enter-requires-clause-room g c = let s = g.C.Constraints.system c.args.all.now in let next = c.in-Some.ensures in
    let some = count_some s.vals (g.S.Alive.family c.args.store.now) c.args.x c.in-Some.v c.requires.fit next.alive in let light = c.requires.light in omega arith

pub returns-in-None-clause-adds : goal.returns-in-None-clause-adds
returns-in-None-clause-adds g c = let s = g.C.Constraints.system c.args.all.now in let δ = g.S.Alive.family c.args.store.now in
    absurd (empty_narrow s.vals δ c.args.x c.requires.fit (sym (ap (λ (us : List (List ℕ)). values_from us δ c.args.x 0) c.vals-table.ensures) ∙ c.in-None.ensures) c.requires.wide.wide)

pub returns-in-None-clause-counted : goal.returns-in-None-clause-counted
returns-in-None-clause-counted g c = let s = g.C.Constraints.system c.args.all.now in let δ = g.S.Alive.family c.args.store.now in
    absurd (empty_narrow s.vals δ c.args.x c.requires.fit (sym (ap (λ (us : List (List ℕ)). values_from us δ c.args.x 0) c.vals-table.ensures) ∙ c.in-None.ensures) c.requires.wide.wide)

pub returns-in-None-clause-lighter : goal.returns-in-None-clause-lighter
returns-in-None-clause-lighter g c = let s = g.C.Constraints.system c.args.all.now in let δ = g.S.Alive.family c.args.store.now in
    absurd (empty_narrow s.vals δ c.args.x c.requires.fit (sym (ap (λ (us : List (List ℕ)). values_from us δ c.args.x 0) c.vals-table.ensures) ∙ c.in-None.ensures) c.requires.wide.wide)

pub returns-in-None-clause-stands : goal.returns-in-None-clause-stands
returns-in-None-clause-stands g c = let s = g.C.Constraints.system c.args.all.now in let δ = g.S.Alive.family c.args.store.now in
    absurd (empty_narrow s.vals δ c.args.x c.requires.fit (sym (ap (λ (us : List (List ℕ)). values_from us δ c.args.x 0) c.vals-table.ensures) ∙ c.in-None.ensures) c.requires.wide.wide)

pub returns-in-Some-clause-adds : goal.returns-in-Some-clause-adds
returns-in-Some-clause-adds g c = let s = g.C.Constraints.system c.args.all.now in let δ = g.S.Alive.family c.args.store.now in
    split_written s δ c.args.x c.in_ok-vals.vals.items (map shown c.args.nodes.now) (map shown c.push.new.self) c.requires.fit c.requires.wide.wide
    (c.in_ok-vals.ensures ∙ (ap (λ (us : List (List ℕ)). values_from us δ c.args.x 0) c.vals-table.ensures ∙ sym (values_all s δ c.args.x)))
    (ap (map shown) c.in_ok-push.ensures.ok ∙ map_push shown c.args.nodes.now _)

pub returns-in-Some-clause-counted : goal.returns-in-Some-clause-counted
returns-in-Some-clause-counted g c = let s = g.C.Constraints.system c.args.all.now in let δ = g.S.Alive.family c.args.store.now in
    split_counted s δ c.args.x c.in_ok-vals.vals.items (map shown c.args.nodes.now) (map shown c.push.new.self) c.requires.fit c.requires.wide.wide
    (c.in_ok-vals.ensures ∙ (ap (λ (us : List (List ℕ)). values_from us δ c.args.x 0) c.vals-table.ensures ∙ sym (values_all s δ c.args.x)))
    (ap (map shown) c.in_ok-push.ensures.ok ∙ map_push shown c.args.nodes.now _)

pub returns-in-Some-clause-lighter : goal.returns-in-Some-clause-lighter
returns-in-Some-clause-lighter g c = let s = g.C.Constraints.system c.args.all.now in let next = c.in-Some.ensures in
    wide_lighter s.vals (g.S.Alive.family c.args.store.now) (g.S.Alive.family c.enter.new.store) c.args.x c.in-Some.v c.requires.fit c.requires.wide.wide next.alive
    c.enter.ensures.family

pub returns-in-Some-clause-stands : goal.returns-in-Some-clause-stands
returns-in-Some-clause-stands g c = let s = g.C.Constraints.system c.args.all.now in let old = c.args.store.now in let new = c.enter.new.store in let δ = g.S.Alive.family old in
    let next = c.in-Some.ensures in
    split_stands s c.args.frames.now.1 (g.S.Store.first old) δ (g.S.Alive.family new) (g.S.Store.removed old) (g.S.Store.removed new) c.args.x c.in-Some.v c.args.frames.now.0
    c.enter.new.frames.0 (g.met.S.Store.left_is old) c.enter.ensures.family c.enter.ensures.grown c.requires.fit c.requires.filled next.alive
    (subst (λ (us : List (List ℕ)). values_from us δ c.args.x 0 ≡ values_from us δ c.args.x c.in-Some.v) c.vals-table.ensures next.same) c.requires.held c.requires.frames
    c.requires.light (subst (λ (us : List (List ℕ)). Entered us δ (length (g.S.Store.removed old)) c.args.x c.in-Some.v c.args.frames.now.0 c.enter.new.frames.0)
    c.vals-table.ensures c.enter.ensures.entered)
