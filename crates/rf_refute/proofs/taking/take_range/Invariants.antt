use Rattle.std.proofs.Common.{◌≡◌, ℕ, not, ◌&&◌, eqb, leb, ltb}
use Rattle.rf_refute.specs.Stacks.{Grown}
use Rattle.rf_refute.proofs.taking.take_range.Given as goal

abbrev pub invariant-loop-v : goal.invariant-loop-v
invariant-loop-v g l = record {
  first : g.S.Store.first l.store ≡ g.S.Store.first l.initial.store;
  grown : Grown (g.S.Store.removed l.initial.store) (g.S.Store.removed l.store);
  left : (y w : ℕ) → g.S.Alive.family l.store y w
      ≡ (g.S.Alive.family l.initial.store y w && not (eqb l.x y && (leb l.from w && ltb w l.v)));
}
