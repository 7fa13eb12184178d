use Rattle.std.proofs.Common.{ℕ, ◌<◌}
use Rattle.rf_form.specs.Atoms.{Hit, term_size}
use Rattle.rf_form.proofs.atoms.has_hit.Given as goal

abbrev pub invariant-loop-p : goal.invariant-loop-p
invariant-loop-p g l = (k q : ℕ) → k < l.p → q < term_size l.vals l.atom.right → Hit l.vals (g.D.Alive.family l.d) l.atom k q → ⊥
