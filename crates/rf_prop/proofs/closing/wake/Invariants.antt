use Rattle.std.proofs.Common.{◌≡◌, ◌⊎◌, ℕ, ◌<◌, ◌+◌, true, length, drop}
use Rattle.rf_form.specs.Alive.{IsFit, is_among}
use Rattle.rf_prop.specs.Cuts.{Logged}
use Rattle.rf_prop.specs.Queues.{Ready}
use Rattle.rf_prop.proofs.closing.wake.Given as goal

abbrev pub invariant-loop-place : goal.invariant-loop-place
invariant-loop-place g l = let s = g.C.Constraints.system l.all in record {
  first : g.S.Store.first l.store ≡ g.S.Store.first l.initial.store;
  fit : IsFit s.vals (g.S.Alive.family l.store);
  logged : Logged s (g.S.Alive.family l.initial.store) (g.S.Store.removed l.initial.store) l.initial.log
      (g.S.Alive.family l.store) (g.S.Store.removed l.store) l.log;
  ready : (k : ℕ) → k < length s.formulas → Ready s (g.S.Alive.family l.store) l.log (l.done + 1) k
      ⊎ (is_among k (drop l.place-index l.place-items) ≡ true);
}
