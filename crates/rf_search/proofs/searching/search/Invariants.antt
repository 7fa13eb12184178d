use Rattle.std.proofs.Common.{◌≡◌, ◌+◌, map}
use Rattle.rf_refute.specs.Shown.{shown}
use Rattle.rf_refute.specs.Stacks.{alive_count}
use Rattle.rf_search.proofs.Rounds.{Now}
use Rattle.rf_search.proofs.Standings.{rank}
use Rattle.rf_search.proofs.searching.search.Given as goal

abbrev pub invariant-loop-frames : goal.invariant-loop-frames
invariant-loop-frames g l = Now (g.C.Constraints.system l.all) (g.S.Alive.family l.fn.store) l.budget l.left (map shown l.nodes) l.frames.1
    (g.S.Store.first l.store) (g.S.Alive.family l.store) (g.S.Store.removed l.store) l.frames.0

abbrev pub decreases-loop-frames : goal.decreases-loop-frames
decreases-loop-frames g l = rank l.frames.1 l.left + alive_count (g.C.Constraints.system l.all).vals (g.S.Alive.family l.store)
