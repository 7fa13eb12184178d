use Rattle.std.proofs.Common.{◌≡◌, ℕ, true, take}
use Rattle.rf_form.specs.Alive.{is_among}
use Rattle.rf_form.specs.Families.{at}
use Rattle.rf_cons.specs.Systems.{IsFalse}
use Rattle.rf_prop.proofs.finders.find_cut.Given as goal

abbrev pub invariant-loop-x : goal.invariant-loop-x
invariant-loop-x g l = (y w : ℕ) → is_among y (take l.x-index l.vars) ≡ true → g.D.Alive.family l.doms y w ≡ true
    → IsFalse (g.C.Constraints.system l.all) (at (g.D.Alive.family l.doms) y w) l.place → ⊥
