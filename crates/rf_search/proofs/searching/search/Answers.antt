use Rattle.std.proofs.Common.{◌≡◌, ◌+◌, ◌-◌, ◌<◌, ◌≤◌, ◌++◌, [], ℕ, List, Option, MatchOption, length, map, sym, ap, ◌∙◌, subst, arith}
use Rattle.rf_form.specs.Families.{Family}
use Rattle.rf_form.specs.Need.{FirstWide, AllSingle}
use Rattle.rf_cons.specs.Systems.{problem}
use Rattle.rf_prop.specs.declared.steps.Outcome.{Outcome}
use Rattle.rf_prop.specs.Turns.{Closes}
use Rattle.rf_refute.proofs.Stackings.{count_le}
use Rattle.rf_refute.specs.Shown.{shown}
use Rattle.rf_refute.specs.Stacks.{alive_count}
use Rattle.rf_search.specs.Writes.{Writes}
use Rattle.rf_search.proofs.Rounds.{now_start, closed_behind, closed_light, now_solved, now_ended, now_over, now_split, now_failed}
use Rattle.rf_search.proofs.Standings.{rank, rank_less}
use Rattle.rf_search.proofs.searching.search.Goals as goal

pub resume-requires-clause-held : goal.resume-requires-clause-held
resume-requires-clause-held g c = let s = g.C.Constraints.system c.args.all.now in let l = c.loop-frames in let mid = c.close_written.new.store in
    let δ = g.S.Alive.family l.store in let ε = g.S.Alive.family mid in let whole = g.S.Alive.family c.args.store.now in let before = map shown l.nodes in
    let after = map shown c.close_written.new.nodes in let behind = closed_behind s whole c.args.budget l.left before l.frames.1 (g.S.Store.first l.store) δ (g.S.Store.removed l.store) l.frames.0 l.invariant
    (g.S.Store.first mid) (g.S.Store.removed mid) c.close_written.ensures.first c.close_written.ensures.grown in behind.held

pub resume-requires-clause-frames : goal.resume-requires-clause-frames
resume-requires-clause-frames g c = let s = g.C.Constraints.system c.args.all.now in let l = c.loop-frames in let mid = c.close_written.new.store in
    let δ = g.S.Alive.family l.store in let ε = g.S.Alive.family mid in let whole = g.S.Alive.family c.args.store.now in let before = map shown l.nodes in
    let after = map shown c.close_written.new.nodes in let behind = closed_behind s whole c.args.budget l.left before l.frames.1 (g.S.Store.first l.store) δ (g.S.Store.removed l.store) l.frames.0 l.invariant
    (g.S.Store.first mid) (g.S.Store.removed mid) c.close_written.ensures.first c.close_written.ensures.grown in behind.frames

pub split-requires-clause-held : goal.split-requires-clause-held
split-requires-clause-held g c = let s = g.C.Constraints.system c.args.all.now in let l = c.loop-frames in let mid = c.close_written.new.store in
    let δ = g.S.Alive.family l.store in let ε = g.S.Alive.family mid in let whole = g.S.Alive.family c.args.store.now in let before = map shown l.nodes in
    let after = map shown c.close_written.new.nodes in let behind = closed_behind s whole c.args.budget l.left before l.frames.1 (g.S.Store.first l.store) δ (g.S.Store.removed l.store) l.frames.0 l.invariant
    (g.S.Store.first mid) (g.S.Store.removed mid) c.close_written.ensures.first c.close_written.ensures.grown in behind.held

pub split-requires-clause-frames : goal.split-requires-clause-frames
split-requires-clause-frames g c = let s = g.C.Constraints.system c.args.all.now in let l = c.loop-frames in let mid = c.close_written.new.store in
    let δ = g.S.Alive.family l.store in let ε = g.S.Alive.family mid in let whole = g.S.Alive.family c.args.store.now in let before = map shown l.nodes in
    let after = map shown c.close_written.new.nodes in let behind = closed_behind s whole c.args.budget l.left before l.frames.1 (g.S.Store.first l.store) δ (g.S.Store.removed l.store) l.frames.0 l.invariant
    (g.S.Store.first mid) (g.S.Store.removed mid) c.close_written.ensures.first c.close_written.ensures.grown in behind.frames

pub split-requires-clause-light : goal.split-requires-clause-light
split-requires-clause-light g c = let s = g.C.Constraints.system c.args.all.now in let l = c.loop-frames in let mid = c.close_written.new.store in
    let δ = g.S.Alive.family l.store in let ε = g.S.Alive.family mid in let whole = g.S.Alive.family c.args.store.now in let before = map shown l.nodes in
    let after = map shown c.close_written.new.nodes in closed_light s whole c.args.budget l.left before l.frames.1 (g.S.Store.first l.store) δ (g.S.Store.removed l.store) l.frames.0 l.invariant ε
    c.close_written.ensures.part

pub returns-then-is_empty-clause-ended : goal.returns-then-is_empty-clause-ended
returns-then-is_empty-clause-ended g c = let s = g.C.Constraints.system c.args.all.now in let l = c.loop-frames in let mid = c.close_written.new.store in
    let δ = g.S.Alive.family l.store in let ε = g.S.Alive.family mid in let whole = g.S.Alive.family c.args.store.now in let before = map shown l.nodes in
    let after = map shown c.close_written.new.nodes in let emptied = subst (λ (o : Outcome). Closes s δ ε o) c.in-Empty.is c.in_ok-close_written.ensures.closes in
    let written = subst (λ (o : Outcome). Writes s δ ε before after o) c.in-Empty.is c.in_ok-close_written.ensures.writes in now_ended s whole c.args.budget l.left before l.frames.1 (g.S.Store.first l.store) δ (g.S.Store.removed l.store) l.frames.0 l.invariant
    after c.if-is_empty.ensures emptied.none written

pub returns-then-left-eq0-clause-ended : goal.returns-then-left-eq0-clause-ended
returns-then-left-eq0-clause-ended g c = let s = g.C.Constraints.system c.args.all.now in let l = c.loop-frames in let mid = c.close_written.new.store in
    let δ = g.S.Alive.family l.store in let ε = g.S.Alive.family mid in let whole = g.S.Alive.family c.args.store.now in let before = map shown l.nodes in
    let after = map shown c.close_written.new.nodes in let emptied = subst (λ (o : Outcome). Closes s δ ε o) c.in-Empty.is c.in_ok-close_written.ensures.closes in
    let written = subst (λ (o : Outcome). Writes s δ ε before after o) c.in-Empty.is c.in_ok-close_written.ensures.writes in now_over s whole c.args.budget l.left before l.frames.1 (g.S.Store.first l.store) δ (g.S.Store.removed l.store) l.frames.0 l.invariant
    (let e = c.if-left-eq0.true in omega arith) c.if-is_empty.ensures emptied.none

pub returns-in-None-clause-ended : goal.returns-in-None-clause-ended
returns-in-None-clause-ended g c = let s = g.C.Constraints.system c.args.all.now in let l = c.loop-frames in let mid = c.close_written.new.store in
    let δ = g.S.Alive.family l.store in let ε = g.S.Alive.family mid in let whole = g.S.Alive.family c.args.store.now in let before = map shown l.nodes in
    let after = map shown c.close_written.new.nodes in let greatest = subst (λ (o : Outcome). Closes s δ ε o) c.in-Closed.is c.in_ok-close_written.ensures.closes in
    let written = subst (λ (o : Outcome). Writes s δ ε before after o) c.in-Closed.is c.in_ok-close_written.ensures.writes in now_solved s whole c.args.budget l.left before l.frames.1 (g.S.Store.first l.store) δ (g.S.Store.removed l.store) l.frames.0 l.invariant
    ε greatest
    (subst (λ (o : Option ℕ). MatchOption o (AllSingle (problem s) ε) (FirstWide (problem s) ε)) c.in-None.is c.in_ok-find_wide.ensures)

pub loop-frames-init : goal.loop-frames-init
loop-frames-init g c = now_start (g.C.Constraints.system c.args.all.now) (g.S.Alive.family c.args.store.now) c.args.budget (map shown c.args.nodes.now) c.args.frames.now.1
    (g.S.Store.first c.args.store.now) (g.S.Store.removed c.args.store.now) c.args.frames.now.0 c.requires.none (ap (map shown) c.requires.blank) c.requires.fit c.requires.filled
    c.requires.room

pub loop-frames-preserved-in-Empty : goal.loop-frames-preserved-in-Empty
loop-frames-preserved-in-Empty g c = let s = g.C.Constraints.system c.args.all.now in let l = c.loop-frames in let mid = c.close_written.new.store in
    let δ = g.S.Alive.family l.store in let ε = g.S.Alive.family mid in let whole = g.S.Alive.family c.args.store.now in let before = map shown l.nodes in
    let after = map shown c.close_written.new.nodes in let behind = closed_behind s whole c.args.budget l.left before l.frames.1 (g.S.Store.first l.store) δ (g.S.Store.removed l.store) l.frames.0 l.invariant
    (g.S.Store.first mid) (g.S.Store.removed mid) c.close_written.ensures.first c.close_written.ensures.grown in let emptied = subst (λ (o : Outcome). Closes s δ ε o) c.in-Empty.is c.in_ok-close_written.ensures.closes in
    let written = subst (λ (o : Outcome). Writes s δ ε before after o) c.in-Empty.is c.in_ok-close_written.ensures.writes in let new = c.resume.new.store in let some = c.if-left-eq0.false in
    now_failed s whole c.args.budget l.left before l.frames.1 (g.S.Store.first l.store) δ (g.S.Store.removed l.store) l.frames.0 l.invariant
    (g.S.Store.first mid) (g.S.Store.removed mid) behind c.resume.new.frames.1 (g.S.Store.first new) c.resume.ensures.room c.resume.ensures.first
    (g.S.Alive.family new) (g.S.Store.removed new) c.resume.new.frames.0 (l.left - 1) after (omega arith) emptied.none written c.resume.ensures.stands

pub loop-frames-preserved : goal.loop-frames-preserved
loop-frames-preserved g c = let s = g.C.Constraints.system c.args.all.now in let l = c.loop-frames in let mid = c.close_written.new.store in
    let δ = g.S.Alive.family l.store in let ε = g.S.Alive.family mid in let whole = g.S.Alive.family c.args.store.now in let before = map shown l.nodes in
    let after = map shown c.close_written.new.nodes in let behind = closed_behind s whole c.args.budget l.left before l.frames.1 (g.S.Store.first l.store) δ (g.S.Store.removed l.store) l.frames.0 l.invariant
    (g.S.Store.first mid) (g.S.Store.removed mid) c.close_written.ensures.first c.close_written.ensures.grown in let greatest = subst (λ (o : Outcome). Closes s δ ε o) c.in-Closed.is c.in_ok-close_written.ensures.closes in
    let written = subst (λ (o : Outcome). Writes s δ ε before after o) c.in-Closed.is c.in_ok-close_written.ensures.writes in let new = c.split.new.store in
    now_split s whole c.args.budget l.left before l.frames.1 (g.S.Store.first l.store) δ (g.S.Store.removed l.store) l.frames.0 l.invariant
    (g.S.Store.first mid) (g.S.Store.removed mid) behind c.split.new.frames.1 (g.S.Store.first new) c.split.ensures.room c.split.ensures.first
    (g.S.Alive.family new) (g.S.Store.removed new) c.split.new.frames.0 ε c.in-Some.x after (map shown c.split.new.nodes) c.close_written.ensures.fit greatest
    (subst (λ (o : Option ℕ). MatchOption o (AllSingle (problem s) ε) (FirstWide (problem s) ε)) c.in-Some.is c.in_ok-find_wide.ensures) written c.in_ok-split-in-Some.ensures.adds c.in_ok-split-in-Some.ensures.counted c.in_ok-split-in-Some.ensures.stands

pub loop-frames-smaller-in-Empty : goal.loop-frames-smaller-in-Empty
loop-frames-smaller-in-Empty g c = let s = g.C.Constraints.system c.args.all.now in let l = c.loop-frames in let mid = c.close_written.new.store in
    let δ = g.S.Alive.family l.store in let ε = g.S.Alive.family mid in let whole = g.S.Alive.family c.args.store.now in let before = map shown l.nodes in
    let after = map shown c.close_written.new.nodes in let new = c.resume.new.store in let some = c.if-left-eq0.false in let stands = c.resume.ensures.stands in
    let light = stands.opened.light in let next = g.S.Alive.family new in
    let same = ap (λ (r : ℕ). rank r (l.left - 1)) c.resume.ensures.room in let small : alive_count s.vals next ≤ l.frames.1 = omega arith in
    let less = rank_less l.frames.1 (l.left - 1) l.left (alive_count s.vals δ) (alive_count s.vals next) (omega arith) small in omega arith

pub loop-frames-smaller : goal.loop-frames-smaller
loop-frames-smaller g c = let s = g.C.Constraints.system c.args.all.now in let l = c.loop-frames in let mid = c.close_written.new.store in
    let δ = g.S.Alive.family l.store in let ε = g.S.Alive.family mid in let whole = g.S.Alive.family c.args.store.now in let before = map shown l.nodes in
    let after = map shown c.close_written.new.nodes in let new = c.split.new.store in let lighter = c.in_ok-split-in-Some.ensures.lighter in
    let same = ap (λ (r : ℕ). rank r l.left) c.split.ensures.room in let less = count_le s.vals ε δ c.close_written.ensures.part in omega arith
