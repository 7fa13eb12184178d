-- One formula more says what it says beside those that were gathered.
use Rattle.std.proofs.Common.{◌≡◌, ◌⊎◌, ℕ, Bool, true, false, not, cond, List, [], ◌∷◌, ◌++◌, map, refl, sym, ap, ◌∙◌, subst, inl, inr}
use Rattle.std.proofs.lemmas.Bool.{cond-true, cond-false}
use Rattle.std.proofs.lemmas.List.{map-append}
use Rattle.rf_form.specs.declared.forms.Form.{Form}
use Rattle.rf_form.specs.declared.forms.Form.TheVariants as form
use Rattle.rf_form.specs.Families.{Family}
use Rattle.rf_form.specs.Formulas.{Formula, Truth, Lie, AllOf, AnyOf}
use Rattle.rf_form.specs.Shown.{form_of, listed}
use Rattle.rf_form.specs.Truths.{Is, Each, One}
use Rattle.rf_form.proofs.Shows.{form_of-All, form_of-Any}
use Rattle.rf_inst.specs.Directs.{both, constant_form}
use Rattle.rf_bodies.specs.Alike.{Alike}
use Rattle.rf_bodies.specs.declared.gathered.Gathered.{Gathered}
use Rattle.rf_bodies.specs.Gathered.{so_far, whole}
use Rattle.rf_bodies.proofs.Joining.{alike, never, and_true, lie_and, and_lie, or_lie, true_or, or_true}

on : (f g h : Formula) → Alike f g → Alike g h → Alike f h
on f g h one other vals δ b = (λ i. (other vals δ b).0 ((one vals δ b).0 i), λ i. (one vals δ b).1 ((other vals δ b).1 i))

module _ (vals : List (List ℕ)) (δ : Family) where
  each_more : (b : Bool) (gs : List Formula) (g : Formula) → Each vals δ (listed gs) b → Is vals δ g b → Each vals δ (listed (gs ++ g ∷ [])) b
  each_more b [] g each is = (is, tt)
  each_more b (f ∷ gs) g each is = (each.0, each_more b gs g each.1 is)

  each_front : (b : Bool) (gs : List Formula) (g : Formula) → Each vals δ (listed (gs ++ g ∷ [])) b → Each vals δ (listed gs) b × Is vals δ g b
  each_front b [] g each = (tt, each.0)
  each_front b (f ∷ gs) g each = let rest = each_front b gs g each.1 in ((each.0, rest.0), rest.1)

  one_more : (b : Bool) (gs : List Formula) (g : Formula) → One vals δ (listed gs) b → One vals δ (listed (gs ++ g ∷ [])) b
  one_more b [] g none = absurd none
  one_more b (f ∷ gs) g (inl h) = inl h
  one_more b (f ∷ gs) g (inr h) = inr (one_more b gs g h)

  one_last : (b : Bool) (gs : List Formula) (g : Formula) → Is vals δ g b → One vals δ (listed (gs ++ g ∷ [])) b
  one_last b [] g is = inl is
  one_last b (f ∷ gs) g is = inr (one_last b gs g is)

  one_of : (b : Bool) (gs : List Formula) (g : Formula) → One vals δ (listed (gs ++ g ∷ [])) b → One vals δ (listed gs) b ⊎ Is vals δ g b
  one_of b [] g (inl h) = inr h
  one_of b [] g (inr none) = absurd none
  one_of b (f ∷ gs) g (inl h) = inl (inl h)
  one_of b (f ∷ gs) g (inr h) = elim (one_of b gs g h) [
    | inl i ↦ inl (inr i)
    | inr i ↦ inr i
  ]

  pairs_one : (b : Bool) (f g f' g' : Formula) → (Is vals δ f b → Is vals δ f' b) → (Is vals δ g b → Is vals δ g' b)
      → One vals δ (both f g) b → One vals δ (both f' g') b
  pairs_one b f g f' g' one other (inl h) = inl (one h)
  pairs_one b f g f' g' one other (inr (inl h)) = inr (inl (other h))
  pairs_one b f g f' g' one other (inr (inr none)) = absurd none

  of_two : (b : Bool) (gs : List Formula) (f g : Formula) → (Is vals δ f b → One vals δ (listed gs) b) → One vals δ (both f g) b → One vals δ (listed (gs ++ g ∷ [])) b
  of_two b gs f g one (inl h) = one_more b gs g (one h)
  of_two b gs f g one (inr (inl h)) = one_last b gs g h
  of_two b gs f g one (inr (inr none)) = absurd none

  to_two : (b : Bool) (gs : List Formula) (f g : Formula) → (One vals δ (listed gs) b → Is vals δ f b) → One vals δ (listed gs) b ⊎ Is vals δ g b → One vals δ (both f g) b
  to_two b gs f g one (inl h) = inl (one h)
  to_two b gs f g one (inr h) = inr (inl h)

-- those before as one formula, and one more
pub whole_more : (k : Bool) (gs : List Formula) (g : Formula) → Alike (whole k (both (whole k (listed gs)) g)) (whole k (listed (gs ++ g ∷ [])))
whole_more true gs g vals δ true = (λ e. each_more vals δ true gs g e.0 e.1.0, λ e. let f = each_front vals δ true gs g e in (f.0, (f.1, tt)))
whole_more true gs g vals δ false = (of_two vals δ false gs (AllOf (listed gs)) g (λ h. h), λ e. to_two vals δ false gs (AllOf (listed gs)) g (λ h. h) (one_of vals δ false gs g e))
whole_more false gs g vals δ true = (of_two vals δ true gs (AnyOf (listed gs)) g (λ h. h), λ e. to_two vals δ true gs (AnyOf (listed gs)) g (λ h. h) (one_of vals δ true gs g e))
whole_more false gs g vals δ false = (λ e. each_more vals δ false gs g e.0 e.1.0, λ e. let f = each_front vals δ false gs g e in (f.0, (f.1, tt)))

both_alike : (k : Bool) (f g f' g' : Formula) → Alike f f' → Alike g g' → Alike (whole k (both f g)) (whole k (both f' g'))
both_alike true f g f' g' one other vals δ true =
    (λ e. ((one vals δ true).0 e.0, ((other vals δ true).0 e.1.0, tt)), λ e. ((one vals δ true).1 e.0, ((other vals δ true).1 e.1.0, tt)))
both_alike true f g f' g' one other vals δ false =
    (pairs_one vals δ false f g f' g' (one vals δ false).0 (other vals δ false).0, pairs_one vals δ false f' g' f g (one vals δ false).1 (other vals δ false).1)
both_alike false f g f' g' one other vals δ true =
    (pairs_one vals δ true f g f' g' (one vals δ true).0 (other vals δ true).0, pairs_one vals δ true f' g' f g (one vals δ true).1 (other vals δ true).1)
both_alike false f g f' g' one other vals δ false =
    (λ e. ((one vals δ false).0 e.0, ((other vals δ false).0 e.1.0, tt)), λ e. ((one vals δ false).1 e.0, ((other vals δ false).1 e.1.0, tt)))

-- the step of each way, once what it makes is known to be both together
pub stepped : (k : Bool) (old made f g : Formula) (gs : List Formula) → Alike made (whole k (both old f)) → Alike old (whole k (listed gs)) → Alike f g
    → Alike made (whole k (listed (gs ++ g ∷ [])))
stepped k old made f g gs is one other = on made (whole k (both old f)) (whole k (listed (gs ++ g ∷ []))) is
    (on (whole k (both old f)) (whole k (both (whole k (listed gs)) g)) (whole k (listed (gs ++ g ∷ []))) (both_alike k old f (whole k (listed gs)) g one other) (whole_more k gs g))

-- what decides stays
pub still_decided : (k : Bool) (f : Formula) → Alike (constant_form (not k)) (whole k (both (constant_form (not k)) f))
still_decided true f = lie_and f
still_decided false f = true_or f

-- a true formula decides where one is to be true, and else changes nothing
pub with_true : (k : Bool) (f : Formula) → Alike (cond (not k) (constant_form (not k)) f) (whole k (both f Truth))
with_true true f = and_true f
with_true false f = or_true f

pub with_false : (k : Bool) (f : Formula) → Alike (cond k (constant_form (not k)) f) (whole k (both f Lie))
with_false true f = and_lie f
with_false false f = or_lie f

pub with_form : (k : Bool) (forms : List Form) (form : Form) → Alike (whole k (listed (map form_of (forms ++ form ∷ [])))) (whole k (both (whole k (listed (map form_of forms))) (form_of form)))
with_form k forms form = subst (λ (fs : List Formula). Alike (whole k (listed fs)) (whole k (both (whole k (listed (map form_of forms))) (form_of form)))) (sym (map-append form_of forms (form ∷ [])))
    (λ vals δ b. let m = whole_more k (map form_of forms) (form_of form) vals δ b in (m.1, m.0))

open_is : (old : Gathered) → old.decided ≡ false → so_far old ≡ whole old.all (listed (map form_of old.forms))
open_is old is = cond-false old.decided (constant_form (not old.all)) (whole old.all (listed (map form_of old.forms))) is

-- the four ways of one form more
abbrev pub Grows : Gathered → Form → Gathered → Type 0
Grows old form new = (gs : List Formula) (g : Formula) → Alike (so_far old) (whole old.all (listed gs)) → Alike (form_of form) g → Alike (so_far new) (whole old.all (listed (gs ++ g ∷ [])))

pub when_decided : (old : Gathered) (form : Form) → old.decided ≡ true → Grows old form old
when_decided old form is gs g one other = stepped old.all (so_far old) (so_far old) (form_of form) g gs
    (subst (λ (f : Formula). Alike f (whole old.all (both f (form_of form)))) (sym (cond-true old.decided (constant_form (not old.all)) (whole old.all (listed (map form_of old.forms))) is)) (still_decided old.all (form_of form)))
    one other

pub when_true : (old : Gathered) (form : Form) → old.decided ≡ false → form_of form ≡ Truth → Grows old form (record { all = old.all; decided = not old.all; forms = old.forms })
when_true old form is truth gs g one other = stepped old.all (so_far old) (cond (not old.all) (constant_form (not old.all)) (whole old.all (listed (map form_of old.forms)))) (form_of form) g gs
    (subst (λ (f : Formula). Alike (cond (not old.all) (constant_form (not old.all)) (whole old.all (listed (map form_of old.forms)))) (whole old.all (both (so_far old) f))) (sym truth)
    (subst (λ (f : Formula). Alike (cond (not old.all) (constant_form (not old.all)) (whole old.all (listed (map form_of old.forms)))) (whole old.all (both f Truth))) (sym (open_is old is))
    (with_true old.all (whole old.all (listed (map form_of old.forms)))))) one other

pub when_false : (old : Gathered) (form : Form) → old.decided ≡ false → form_of form ≡ Lie → Grows old form (record { all = old.all; decided = old.all; forms = old.forms })
when_false old form is lie gs g one other = stepped old.all (so_far old) (cond old.all (constant_form (not old.all)) (whole old.all (listed (map form_of old.forms)))) (form_of form) g gs
    (subst (λ (f : Formula). Alike (cond old.all (constant_form (not old.all)) (whole old.all (listed (map form_of old.forms)))) (whole old.all (both (so_far old) f))) (sym lie)
    (subst (λ (f : Formula). Alike (cond old.all (constant_form (not old.all)) (whole old.all (listed (map form_of old.forms)))) (whole old.all (both f Lie))) (sym (open_is old is))
    (with_false old.all (whole old.all (listed (map form_of old.forms)))))) one other

pub when_open : (old : Gathered) (form : Form) (forms : List Form) → old.decided ≡ false → forms ≡ old.forms ++ form ∷ [] → Grows old form (record { all = old.all; decided = old.decided; forms = forms })
when_open old form forms is more gs g one other = subst (λ (f : Formula). Alike f (whole old.all (listed (gs ++ g ∷ []))))
    (sym (cond-false old.decided (constant_form (not old.all)) (whole old.all (listed (map form_of forms))) is))
    (stepped old.all (so_far old) (whole old.all (listed (map form_of forms))) (form_of form) g gs
    (subst (λ (fs : List Form). Alike (whole old.all (listed (map form_of fs))) (whole old.all (both (so_far old) (form_of form)))) (sym more)
    (subst (λ (f : Formula). Alike (whole old.all (listed (map form_of (old.forms ++ form ∷ [])))) (whole old.all (both f (form_of form)))) (sym (open_is old is)) (with_form old.all old.forms form)))
    one other)

empty_is : (k : Bool) → Alike (constant_form k) (whole k (listed []))
empty_is true vals δ true = (λ e. tt, λ e. refl)
empty_is true vals δ false = (λ e. never (sym e), λ none. absurd none)
empty_is false vals δ true = (λ e. never e, λ none. absurd none)
empty_is false vals δ false = (λ e. tt, λ e. refl)

-- the three ways to end
pub end_decided : (g : Gathered) (made : Form) → g.decided ≡ true → form_of made ≡ constant_form (not g.all) → Alike (form_of made) (so_far g)
end_decided g made is e = alike (form_of made) (so_far g) (e ∙ sym (cond-true g.decided (constant_form (not g.all)) (whole g.all (listed (map form_of g.forms))) is))

pub end_empty : (g : Gathered) (made : Form) → g.decided ≡ false → g.forms ≡ [] → form_of made ≡ constant_form g.all → Alike (form_of made) (so_far g)
end_empty g made is none e = on (form_of made) (constant_form g.all) (so_far g) (alike (form_of made) (constant_form g.all) e)
    (on (constant_form g.all) (whole g.all (listed [])) (so_far g) (empty_is g.all)
    (alike (whole g.all (listed [])) (so_far g) (ap (λ (fs : List Form). whole g.all (listed (map form_of fs))) (sym none) ∙ sym (open_is g is))))

pub end_all : (g : Gathered) → g.decided ≡ false → g.all ≡ true → Alike (form_of (form.All g.forms)) (so_far g)
end_all g is k = alike (form_of (form.All g.forms)) (so_far g) (form_of-All g.forms ∙ (ap (λ (k : Bool). whole k (listed (map form_of g.forms))) (sym k) ∙ sym (open_is g is)))

pub end_any : (g : Gathered) → g.decided ≡ false → g.all ≡ false → Alike (form_of (form.Any g.forms)) (so_far g)
end_any g is k = alike (form_of (form.Any g.forms)) (so_far g) (form_of-Any g.forms ∙ (ap (λ (k : Bool). whole k (listed (map form_of g.forms))) (sym k) ∙ sym (open_is g is)))
