use Rattle.std.proofs.Common.{ℕ, ◌<◌}
use Rattle.rf_form.specs.Families.{IsWide}
use Rattle.rf_search.proofs.splitting.find_wide.Given as goal

abbrev pub invariant-loop-x : goal.invariant-loop-x
invariant-loop-x g l = (y : ℕ) → y < l.x → IsWide (g.D.Alive.family l.doms) y → ⊥
