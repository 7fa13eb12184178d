use Rattle.std.proofs.Common.{ℕ, ◌<◌}
use Rattle.rf_form.specs.Atoms.{Hit}
use Rattle.rf_form.proofs.atoms.row_has_hit.Given as goal

abbrev pub invariant-loop-q : goal.invariant-loop-q
invariant-loop-q g l = (k : ℕ) → k < l.q → Hit l.vals (g.D.Alive.family l.d) l.atom l.p k → ⊥
