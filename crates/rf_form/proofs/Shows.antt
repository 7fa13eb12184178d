-- What each form shows as a formula: one equation for each.
use Rattle.std.proofs.Common.{◌≡◌, ℕ, ◌+◌, ◌<◌, List, [], ◌∷◌, length, get_or, drop, refl, sym, ap, ◌∙◌, drop-cons, add-one}
use Rattle.rf_form.specs.declared.forms.Form.{Form, fold-roll-Form}
use Rattle.rf_form.specs.declared.forms.Form.TheOpen.{Form-F}
use Rattle.rf_form.specs.declared.forms.Form.TheVariants as form
use Rattle.rf_form.specs.declared.forms.Term.{Term}
use Rattle.rf_form.specs.Formulas.{Formula, Formulas, Truth, Lie, Equal, AtMost, Neg, AllOf, AnyOf, and_form}
use Rattle.rf_form.specs.Shown.{layer, form_of, forms_of}

pub form_of-True : form_of form.True ≡ Truth
unfolding form_of
form_of-True = ap form_of (sym form.rolls-True) ∙ fold-roll-Form Formula layer Form-F.True

pub form_of-False : form_of form.False ≡ Lie
unfolding form_of
form_of-False = ap form_of (sym form.rolls-False) ∙ fold-roll-Form Formula layer Form-F.False

pub form_of-Eq : (s t : Term) → form_of (form.Eq s t) ≡ Equal s t
unfolding form_of
form_of-Eq s t = ap form_of (sym (form.rolls-Eq s t)) ∙ fold-roll-Form Formula layer (Form-F.Eq s t)

pub form_of-Le : (s t : Term) → form_of (form.Le s t) ≡ AtMost s t
unfolding form_of
form_of-Le s t = ap form_of (sym (form.rolls-Le s t)) ∙ fold-roll-Form Formula layer (Form-F.Le s t)

pub form_of-Not : (f : Form) → form_of (form.Not f) ≡ Neg (form_of f)
unfolding form_of
form_of-Not f = ap form_of (sym (form.rolls-Not f)) ∙ fold-roll-Form Formula layer (Form-F.Not f)

pub form_of-All : (fs : List Form) → form_of (form.All fs) ≡ AllOf (forms_of fs)
unfolding form_of
form_of-All fs = ap form_of (sym (form.rolls-All fs)) ∙ fold-roll-Form Formula layer (Form-F.All fs)

pub form_of-Any : (fs : List Form) → form_of (form.Any fs) ≡ AnyOf (forms_of fs)
unfolding form_of
form_of-Any fs = ap form_of (sym (form.rolls-Any fs)) ∙ fold-roll-Form Formula layer (Form-F.Any fs)

pub ruleset shows = (form_of-True, form_of-False, form_of-Eq, form_of-Le, form_of-Not, form_of-All, form_of-Any)
