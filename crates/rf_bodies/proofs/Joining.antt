-- What a formula with one that is decided says.
use Rattle.std.proofs.Common.{◌≡◌, true, false, [], ◌∷◌, refl, sym, subst, inl, inr}
use Rattle.std.proofs.lemmas.Bool.{both_ways}
use Rattle.rf_form.specs.declared.forms.Form.{Form}
use Rattle.rf_form.specs.declared.forms.Form.TheVariants as form
use Rattle.rf_form.specs.Formulas.{Formula, Truth, Lie, Neg, AllOf, AnyOf}
use Rattle.rf_form.specs.Shown.{form_of}
use Rattle.rf_form.proofs.Shows.{form_of-True, form_of-False, form_of-Not, form_of-All, form_of-Any}
use Rattle.rf_inst.specs.Directs.{both}
use Rattle.rf_bodies.specs.Alike.{Alike}

pub never : {A : Type 0} → true ≡ false → A
never e = absurd (both_ways true e refl)

-- equal formulas are alike
pub alike : (f g : Formula) → f ≡ g → Alike f g
alike f g e = subst (Alike f) e (λ vals δ b. (λ h. h, λ h. h))

neg_truth : Alike Lie (Neg Truth)
neg_truth vals δ true = (λ e. sym e, λ e. sym e)
neg_truth vals δ false = (λ e. refl, λ e. refl)

neg_lie : Alike Truth (Neg Lie)
neg_lie vals δ true = (λ e. refl, λ e. refl)
neg_lie vals δ false = (λ e. sym e, λ e. sym e)

pub true_and : (g : Formula) → Alike g (AllOf (both Truth g))
true_and g vals δ true = (λ h. (refl, (h, tt)), λ e. e.1.0)
true_and g vals δ false = (
  λ h. inr (inl h),
  λ one. elim one [
    | inl e ↦ never (sym e)
    | inr (inl h) ↦ h
    | inr (inr none) ↦ absurd none
  ],
)

pub and_true : (f : Formula) → Alike f (AllOf (both f Truth))
and_true f vals δ true = (λ h. (h, (refl, tt)), λ e. e.0)
and_true f vals δ false = (
  λ h. inl h,
  λ one. elim one [
    | inl h ↦ h
    | inr (inl e) ↦ never (sym e)
    | inr (inr none) ↦ absurd none
  ],
)

pub lie_and : (g : Formula) → Alike Lie (AllOf (both Lie g))
lie_and g vals δ true = (λ e. never e, λ e. e.0)
lie_and g vals δ false = (λ e. inl refl, λ one. refl)

pub and_lie : (f : Formula) → Alike Lie (AllOf (both f Lie))
and_lie f vals δ true = (λ e. never e, λ e. e.1.0)
and_lie f vals δ false = (λ e. inr (inl refl), λ one. refl)

pub lie_or : (g : Formula) → Alike g (AnyOf (both Lie g))
lie_or g vals δ true = (
  λ h. inr (inl h),
  λ one. elim one [
    | inl e ↦ never e
    | inr (inl h) ↦ h
    | inr (inr none) ↦ absurd none
  ],
)
lie_or g vals δ false = (λ h. (refl, (h, tt)), λ e. e.1.0)

pub or_lie : (f : Formula) → Alike f (AnyOf (both f Lie))
or_lie f vals δ true = (
  λ h. inl h,
  λ one. elim one [
    | inl h ↦ h
    | inr (inl e) ↦ never e
    | inr (inr none) ↦ absurd none
  ],
)
or_lie f vals δ false = (λ h. (h, (refl, tt)), λ e. e.0)

pub true_or : (g : Formula) → Alike Truth (AnyOf (both Truth g))
true_or g vals δ true = (λ e. inl refl, λ one. refl)
true_or g vals δ false = (λ e. never (sym e), λ e. e.0)

pub or_true : (f : Formula) → Alike Truth (AnyOf (both f Truth))
or_true f vals δ true = (λ e. inr (inl refl), λ one. refl)
or_true f vals δ false = (λ e. never (sym e), λ e. e.1.0)

-- the same of forms
pub negated_true : (f : Form) → form_of f ≡ Truth → Alike (form_of form.False) (Neg (form_of f))
negated_true f is = subst (λ (g : Formula). Alike g (Neg (form_of f))) (sym form_of-False) (subst (λ (g : Formula). Alike Lie (Neg g)) (sym is) neg_truth)

pub negated_false : (f : Form) → form_of f ≡ Lie → Alike (form_of form.True) (Neg (form_of f))
negated_false f is = subst (λ (g : Formula). Alike g (Neg (form_of f))) (sym form_of-True) (subst (λ (g : Formula). Alike Truth (Neg g)) (sym is) neg_lie)

pub negated_open : (f : Form) → Alike (form_of (form.Not f)) (Neg (form_of f))
negated_open f = alike (form_of (form.Not f)) (Neg (form_of f)) (form_of-Not f)

pub all_left_true : (f g : Form) → form_of f ≡ Truth → Alike (form_of g) (AllOf (both (form_of f) (form_of g)))
all_left_true f g is = subst (λ (h : Formula). Alike (form_of g) (AllOf (both h (form_of g)))) (sym is) (true_and (form_of g))

pub all_right_true : (f g : Form) → form_of g ≡ Truth → Alike (form_of f) (AllOf (both (form_of f) (form_of g)))
all_right_true f g is = subst (λ (h : Formula). Alike (form_of f) (AllOf (both (form_of f) h))) (sym is) (and_true (form_of f))

pub all_left_false : (f g : Form) → form_of f ≡ Lie → Alike (form_of f) (AllOf (both (form_of f) (form_of g)))
all_left_false f g is = subst (λ (h : Formula). Alike h (AllOf (both h (form_of g)))) (sym is) (lie_and (form_of g))

pub all_right_false : (f g : Form) → form_of g ≡ Lie → Alike (form_of g) (AllOf (both (form_of f) (form_of g)))
all_right_false f g is = subst (λ (h : Formula). Alike h (AllOf (both (form_of f) h))) (sym is) (and_lie (form_of f))

pub all_open : (f g : Form) → Alike (form_of (form.All (f ∷ g ∷ []))) (AllOf (both (form_of f) (form_of g)))
all_open f g = alike (form_of (form.All (f ∷ g ∷ []))) (AllOf (both (form_of f) (form_of g))) (form_of-All (f ∷ g ∷ []))

pub any_left_false : (f g : Form) → form_of f ≡ Lie → Alike (form_of g) (AnyOf (both (form_of f) (form_of g)))
any_left_false f g is = subst (λ (h : Formula). Alike (form_of g) (AnyOf (both h (form_of g)))) (sym is) (lie_or (form_of g))

pub any_right_false : (f g : Form) → form_of g ≡ Lie → Alike (form_of f) (AnyOf (both (form_of f) (form_of g)))
any_right_false f g is = subst (λ (h : Formula). Alike (form_of f) (AnyOf (both (form_of f) h))) (sym is) (or_lie (form_of f))

pub any_left_true : (f g : Form) → form_of f ≡ Truth → Alike (form_of f) (AnyOf (both (form_of f) (form_of g)))
any_left_true f g is = subst (λ (h : Formula). Alike h (AnyOf (both h (form_of g)))) (sym is) (true_or (form_of g))

pub any_right_true : (f g : Form) → form_of g ≡ Truth → Alike (form_of g) (AnyOf (both (form_of f) (form_of g)))
any_right_true f g is = subst (λ (h : Formula). Alike h (AnyOf (both (form_of f) h))) (sym is) (or_true (form_of f))

pub any_open : (f g : Form) → Alike (form_of (form.Any (f ∷ g ∷ []))) (AnyOf (both (form_of f) (form_of g)))
any_open f g = alike (form_of (form.Any (f ∷ g ∷ []))) (AnyOf (both (form_of f) (form_of g))) (form_of-Any (f ∷ g ∷ []))
