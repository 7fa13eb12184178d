use Rattle.std.proofs.Common.{◌≡◌, ◌<◌, ℕ, true}
use Rattle.rf_form.specs.Families.{at}
use Rattle.rf_cons.specs.Systems.{IsFalse}
use Rattle.rf_prop.proofs.finders.find_value.Given as goal

abbrev pub invariant-loop-v : goal.invariant-loop-v
invariant-loop-v g l = (w : ℕ) → w < l.v → g.D.Alive.family l.doms l.x w ≡ true
    → IsFalse (g.C.Constraints.system l.all) (at (g.D.Alive.family l.doms) l.x w) l.place → ⊥
