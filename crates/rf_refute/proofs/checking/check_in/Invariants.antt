use Rattle.std.proofs.Common.{◌≡◌, ◌+◌, ◌≤◌, ◌∷◌, length, map}
use Rattle.rf_form.specs.Alive.{IsFit}
use Rattle.rf_refute.specs.Shown.{shown}
use Rattle.rf_refute.specs.Stacks.{Held, pending, alive_count}
use Rattle.rf_refute.proofs.Leading.{Leads}
use Rattle.rf_refute.proofs.checking.check_in.Given as goal

abbrev pub invariant-loop-at : goal.invariant-loop-at
invariant-loop-at g l = let s = g.C.Constraints.system l.all in record {
  first : g.S.Store.first l.store ≡ g.S.Store.first l.initial.store;
  fit : IsFit s.vals (g.S.Alive.family l.store);
  room : l.frames.1 ≡ l.initial.frames.1;
  held : Held s.vals l.frames.1 (g.S.Store.first l.store) (g.S.Store.removed l.store) l.frames.0;
  light : length l.frames.0 + alive_count s.vals (g.S.Alive.family l.store) ≤ l.frames.1;
  leads : Leads s (g.S.Alive.family l.initial.store) (map shown l.nodes) l.at
      (g.S.Alive.family l.store ∷ pending s.vals (g.S.Store.first l.store) (g.S.Store.removed l.store) l.frames.0);
}
