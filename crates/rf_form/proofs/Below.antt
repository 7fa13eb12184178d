-- What a formula is under a family it is under each filled part of it; and it is never both.
use Rattle.std.proofs.Common.{◌≡◌, ◌⊎◌, ℕ, ◌<◌, Bool, true, false, not, List, eqb, leb, refl, sym, ◌∙◌, inl, inr}
use Rattle.std.proofs.lemmas.Bool.{both_ways}
use Rattle.rf_form.specs.declared.forms.Term.{Term}
use Rattle.rf_form.specs.declared.forms.Term.TheVariants.{Var, Const}
use Rattle.rf_form.specs.Families.{Family, Part, Filled, Within}
use Rattle.rf_form.specs.Formulas.{Formula, Truth, Lie, Equal, AtMost, Neg, AllOf, AnyOf, Formulas, no_form, and_form}
use Rattle.rf_form.specs.Truths.{Picks, Agree, number, Is, Each, One}

pick_below : (n : ℕ) (places : ℕ → ℕ) (p δ : Family) (filled : Filled n p) → Within n places δ → (a : ℕ → ℕ) (s : Term) → Picks δ a s → Picks p (filled.0) s
pick_below n places p δ filled within a (Var x) h = filled.1 x (within x (a x) h).0
pick_below n places p δ filled within a (Const c) h = tt

pick_part : (p δ : Family) → Part p δ → (a : ℕ → ℕ) (s : Term) → Picks p a s → Picks δ a s
pick_part p δ part a (Var x) h = part x (a x) h
pick_part p δ part a (Const c) h = tt

agree_below : (n : ℕ) (places : ℕ → ℕ) (p δ : Family) → Part p δ → Filled n p → Within n places δ → (vals : List (List ℕ)) (test : ℕ → ℕ → Bool)
    (s t : Term) (b : Bool) → Agree vals δ test s t b → Agree vals p test s t b
agree_below n places p δ part filled within vals test s t b agree = record {
  some = (filled.0, pick_below n places p δ filled within agree.some.0 s agree.some.1, pick_below n places p δ filled within agree.some.0 t agree.some.2);
  each = λ a hs ht. agree.each a (pick_part p δ part a s hs) (pick_part p δ part a t ht);
}

module _ (n : ℕ) (places : ℕ → ℕ) (p δ : Family) (part : Part p δ) (filled : Filled n p) (within : Within n places δ) (vals : List (List ℕ)) where
  mutual
    pub is_below : (f : Formula) (b : Bool) → Is vals δ f b → Is vals p f b
    is_below Truth b h = h
    is_below Lie b h = h
    is_below (Equal s t) b h = agree_below n places p δ part filled within vals eqb s t b h
    is_below (AtMost s t) b h = agree_below n places p δ part filled within vals leb s t b h
    is_below (Neg f) b h = is_below f (not b) h
    is_below (AllOf fs) true h = each_below fs true h
    is_below (AllOf fs) false h = one_below fs false h
    is_below (AnyOf fs) true h = one_below fs true h
    is_below (AnyOf fs) false h = each_below fs false h

    pub each_below : (fs : Formulas) (b : Bool) → Each vals δ fs b → Each vals p fs b
    each_below no_form b h = tt
    each_below (and_form f fs) b h = (is_below f b h.0, each_below fs b h.1)

    pub one_below : (fs : Formulas) (b : Bool) → One vals δ fs b → One vals p fs b
    one_below no_form b h = h
    one_below (and_form f fs) b (inl h) = inl (is_below f b h)
    one_below (and_form f fs) b (inr h) = inr (one_below fs b h)

agree_not_both : (vals : List (List ℕ)) (δ : Family) (test : ℕ → ℕ → Bool) (s t : Term) → Agree vals δ test s t true → Agree vals δ test s t false → ⊥
agree_not_both vals δ test s t so not_so = both_ways (test (number vals so.some.0 s) (number vals so.some.0 t))
    (not_so.each so.some.0 so.some.1 so.some.2) (so.each so.some.0 so.some.1 so.some.2)

module _ (vals : List (List ℕ)) (δ : Family) where
  mutual
    pub not_both : (f : Formula) → Is vals δ f true → Is vals δ f false → ⊥
    not_both Truth so not_so = both_ways true (sym not_so) refl
    not_both Lie so not_so = both_ways true so refl
    not_both (Equal s t) so not_so = agree_not_both vals δ eqb s t so not_so
    not_both (AtMost s t) so not_so = agree_not_both vals δ leb s t so not_so
    not_both (Neg f) so not_so = not_both f not_so so
    not_both (AllOf fs) so not_so = all_not_both fs so not_so
    not_both (AnyOf fs) so not_so = any_not_both fs so not_so

    all_not_both : (fs : Formulas) → Each vals δ fs true → One vals δ fs false → ⊥
    all_not_both no_form each one = one
    all_not_both (and_form f fs) each (inl h) = not_both f each.0 h
    all_not_both (and_form f fs) each (inr h) = all_not_both fs each.1 h

    any_not_both : (fs : Formulas) → One vals δ fs true → Each vals δ fs false → ⊥
    any_not_both no_form one each = one
    any_not_both (and_form f fs) (inl h) each = not_both f h each.0
    any_not_both (and_form f fs) (inr h) each = any_not_both fs h each.1
