use Rattle.std.proofs.Common.{◌≡◌, ℕ, true, subst, inl, inr}
use Rattle.rf_form.specs.Families.{at}
use Rattle.rf_cons.specs.Systems.{IsFalse}
use Rattle.rf_prop.proofs.CutLemmas.{among_more}
use Rattle.rf_prop.proofs.finders.find_cut.Goals as goal

pub loop-x-preserved : goal.loop-x-preserved
loop-x-preserved g c = λ y w among alive fails. elim (among_more c.args.vars.now c.loop-x.x-index y c.loop-x-test.true among) [
  | inl old ↦ c.loop-x.invariant y w old alive fails
  | inr e ↦ c.in-None.ensures w (subst (λ (z : ℕ). g.D.Alive.family c.args.doms.now z w ≡ true) e alive)
      (subst (λ (z : ℕ). IsFalse (g.C.Constraints.system c.args.all.now) (at (g.D.Alive.family c.args.doms.now) z w) c.args.place) e fails)
]
