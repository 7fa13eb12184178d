use Rattle.std.proofs.Common.{◌<◌, length, arith}
use Rattle.rf_refute.proofs.Stackings.{top_room, resumed}
use Rattle.rf_refute.proofs.opening.resume.Goals as goal

pub enter-requires-clause-room : goal.enter-requires-clause-room
enter-requires-clause-room g c = let old = c.args.store.now in let mid = c.go_back.new.store in let here = c.in-Some.ensures.room in
    let lt = top_room c.args.vals.now c.args.frames.now.1 (g.S.Store.first old) (g.S.Store.removed old) c.args.frames.now.0 c.pop.new.self.0 c.in-Some.top
    c.in-Some.ensures.frames c.requires.held (g.S.Alive.family mid) (g.S.Store.removed mid) c.go_back.ensures.family c.go_back.ensures.removed in omega arith

pub returns-in-Some-clause-opened : goal.returns-in-Some-clause-opened
returns-in-Some-clause-opened g c = let old = c.args.store.now in let mid = c.go_back.new.store in let new = c.enter.new.store in
    resumed c.args.vals.now c.args.frames.now.1 (g.S.Store.first old) (g.S.Store.removed old) c.args.frames.now.0 c.pop.new.self.0 c.in-Some.top
    c.in-Some.ensures.frames c.requires.held (g.S.Alive.family mid) (g.S.Store.removed mid) c.go_back.ensures.family c.go_back.ensures.removed
    (g.S.Alive.family new) (g.S.Store.removed new) c.enter.new.frames.0 c.enter.ensures.family c.enter.ensures.grown c.enter.ensures.entered
