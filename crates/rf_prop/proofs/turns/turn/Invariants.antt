use Rattle.std.proofs.Common.{◌≡◌}
use Rattle.rf_form.specs.Alive.{IsFit}
use Rattle.rf_prop.specs.Cuts.{Logged}
use Rattle.rf_prop.specs.Weights.{alive_places}
use Rattle.rf_prop.proofs.turns.turn.Given as goal

abbrev pub invariant-loop-place : goal.invariant-loop-place
invariant-loop-place g l = let s = g.C.Constraints.system l.all in record {
  first : g.S.Store.first l.store ≡ g.S.Store.first l.initial.store;
  fit : IsFit s.vals (g.S.Alive.family l.store);
  logged : Logged s (g.S.Alive.family l.initial.store) (g.S.Store.removed l.initial.store) l.initial.log
      (g.S.Alive.family l.store) (g.S.Store.removed l.store) l.log;
}

abbrev pub decreases-loop-place : goal.decreases-loop-place
decreases-loop-place g l = alive_places (g.C.Constraints.system l.all) (g.S.Alive.family l.store)
