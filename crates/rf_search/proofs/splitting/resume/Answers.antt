use Rattle.std.proofs.Common.{◌<◌, ℕ, List, length, sym, subst, arith}
use Rattle.rf_form.specs.Alive.{IsFit}
use Rattle.rf_refute.specs.Stacks.{Entered}
use Rattle.rf_refute.proofs.Stackings.{top_fit, top_room}
use Rattle.rf_search.proofs.Standings.{resume_stands}
use Rattle.rf_search.proofs.splitting.resume.Goals as goal

pub enter-requires-clause-fit : goal.enter-requires-clause-fit
enter-requires-clause-fit g c = let s = g.C.Constraints.system c.args.all.now in let old = c.args.store.now in let mid = c.go_back.new.store in
    subst (λ (us : List (List ℕ)). IsFit us (g.S.Alive.family mid)) (sym c.vals-table.ensures)
    (top_fit s.vals c.args.frames.now.1 (g.S.Store.first old) (g.S.Store.removed old) c.args.frames.now.0 c.pop.new.self.0 c.in-Some.top
    c.in-Some.ensures.frames c.requires.held (g.S.Alive.family mid) (g.S.Store.removed mid) c.go_back.ensures.family c.go_back.ensures.removed)

pub enter-requires-clause-room : goal.enter-requires-clause-room
enter-requires-clause-room g c = let s = g.C.Constraints.system c.args.all.now in let old = c.args.store.now in let mid = c.go_back.new.store in
    let here = c.in-Some.ensures.room in
    let lt = top_room s.vals c.args.frames.now.1 (g.S.Store.first old) (g.S.Store.removed old) c.args.frames.now.0 c.pop.new.self.0 c.in-Some.top
    c.in-Some.ensures.frames c.requires.held (g.S.Alive.family mid) (g.S.Store.removed mid) c.go_back.ensures.family c.go_back.ensures.removed in omega arith

pub returns-in-Some-clause-stands : goal.returns-in-Some-clause-stands
returns-in-Some-clause-stands g c = let s = g.C.Constraints.system c.args.all.now in let old = c.args.store.now in let mid = c.go_back.new.store in let new = c.enter.new.store in
    resume_stands s c.args.frames.now.1 (g.S.Store.first old) (g.S.Store.removed old) c.args.frames.now.0 c.pop.new.self.0 c.in-Some.top
    c.in-Some.ensures.frames c.requires.held c.requires.frames (g.S.Alive.family mid) (g.S.Alive.family new) (g.S.Store.removed mid) (g.S.Store.removed new)
    c.enter.new.frames.0 c.go_back.ensures.family c.go_back.ensures.removed c.enter.ensures.family c.enter.ensures.grown
    (subst (λ (us : List (List ℕ)). Entered us (g.S.Alive.family mid) (length (g.S.Store.removed mid)) c.in-Some.top.x c.in-Some.top.v c.pop.new.self.0
    c.enter.new.frames.0) c.vals-table.ensures c.enter.ensures.entered)
