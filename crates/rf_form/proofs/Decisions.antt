-- Whether a formula is true or false under a family with finitely many places can be decided.
use Rattle.std.proofs.Common.{◌≡◌, ◌⊎◌, ℕ, suc, ◌<◌, Bool, true, false, cond, not, List, length, eqb, leb, refl, sym, ap, ap₂, ◌∙◌, subst, inl, inr, arith, eq-eqb, ne_eqb}
use Rattle.std.proofs.lemmas.Bool.{both_ways, cond-true, cond-false, cases_eq}
use Rattle.rf_form.specs.declared.forms.Term.{Term}
use Rattle.rf_form.specs.declared.forms.Term.TheVariants.{Var, Const}
use Rattle.rf_form.specs.Families.{Family, Part, Within}
use Rattle.rf_form.specs.Formulas.{Formula, Truth, Lie, Equal, AtMost, Neg, AllOf, AnyOf, Formulas, no_form, and_form}
use Rattle.rf_form.specs.Truths.{Picks, Agree, number, row, Is, Each, One}
use Rattle.rf_form.proofs.Firsts.{Decided, decide_below, decide_both, decide_either, decide_bool}

-- the place that a choice gives to a term, and how many there may be
unfoldable pub place_of : (ℕ → ℕ) → Term → ℕ
place_of a (Var x) = a x
place_of a (Const c) = 0

size_of : (ℕ → ℕ) → Term → ℕ
size_of places (Var x) = places x
size_of places (Const c) = 1

unfoldable pub is_it : Term → ℕ → Bool
is_it (Var x) z = eqb x z
is_it (Const c) z = false

-- the choice of the place p for the first term, and of q for everything else
unfoldable pub pick : Term → ℕ → ℕ → ℕ → ℕ
pick s p q z = cond (is_it s z) p q

-- two choices are the same for a term
IsSame : (ℕ → ℕ) → (ℕ → ℕ) → Term → Type 0
IsSame a b (Var x) = a x ≡ b x
IsSame a b (Const c) = Unit {0}

same_first : (a : ℕ → ℕ) (s t : Term) → IsSame a (pick s (place_of a s) (place_of a t)) s
unfolding IsSame pick is_it place_of
same_first a (Var x) t = sym (cond-true (eqb x x) (a x) (place_of a t) (eq-eqb x x refl))
same_first a (Const c) t = tt

same_second : (a : ℕ → ℕ) (s t : Term) → IsSame a (pick s (place_of a s) (place_of a t)) t
unfolding IsSame pick is_it place_of
same_second a s (Const d) = tt
same_second a (Const c) (Var y) = refl
same_second a (Var x) (Var y) = elim (cases_eq x y) [
  | inl e ↦ ap a (sym e) ∙ sym (cond-true (eqb x y) (a x) (a y) (eq-eqb x y e))
  | inr ne ↦ sym (cond-false (eqb x y) (a x) (a y) (ne_eqb x y ne))
]

picks_same : (δ : Family) (a b : ℕ → ℕ) (s : Term) → IsSame a b s → Picks δ a s → Picks δ b s
unfolding IsSame
picks_same δ a b (Var x) e h = subst (λ (v : ℕ). δ x v ≡ true) e h
picks_same δ a b (Const c) e h = tt

number_same : (vals : List (List ℕ)) (a b : ℕ → ℕ) (s : Term) → IsSame a b s → number vals a s ≡ number vals b s
unfolding IsSame
number_same vals a b (Var x) e = ap (λ (v : ℕ). number vals (λ _. v) (Var x)) e
number_same vals a b (Const c) e = refl

place_inside : (n : ℕ) (places : ℕ → ℕ) (δ : Family) → Within n places δ → (a : ℕ → ℕ) (s : Term) → Picks δ a s → place_of a s < size_of places s
unfolding place_of size_of
place_inside n places δ within a (Var x) h = (within x (a x) h).1
place_inside n places δ within a (Const c) h = omega arith

decide_picks : (δ : Family) (a : ℕ → ℕ) (s : Term) → Decided (Picks δ a s)
decide_picks δ a (Var x) = decide_bool (δ x (a x)) true
decide_picks δ a (Const c) = inl tt

decide_not : (A : Type 0) → Decided A → Decided (A → ⊥)
decide_not A (inl a) = inr (λ h. h a)
decide_not A (inr a) = inl a

not_not : (A : Type 0) → Decided A → ((A → ⊥) → ⊥) → A
not_not A (inl a) h = a
not_not A (inr a) h = absurd (h a)

module _ (n : ℕ) (places : ℕ → ℕ) (δ : Family) (within : Within n places δ) (vals : List (List ℕ)) (test : ℕ → ℕ → Bool) (s t : Term) (b : Bool) where
  -- both terms are picked
  abbrev Picked : (ℕ → ℕ) → Type 0
  Picked a = Picks δ a s × Picks δ a t

  -- both terms are picked, and the test answers otherwise
  abbrev Differs : (ℕ → ℕ) → Type 0
  Differs a = Picked a × (test (number vals a s) (number vals a t) ≡ b → ⊥)

  -- two places for which it holds
  abbrev Some2 : ((ℕ → ℕ) → Type 0) → Type 0
  Some2 A = (p : ℕ) × (p < size_of places s) × ((q : ℕ) × (q < size_of places t) × A (pick s p q))

  decide_two : (A : (ℕ → ℕ) → Type 0) → ((a : ℕ → ℕ) → Decided (A a)) → Decided (Some2 A)
  decide_two A f = decide_below (λ p. (q : ℕ) × (q < size_of places t) × A (pick s p q)) (size_of places s)
      (λ p l. decide_below (λ q. A (pick s p q)) (size_of places t) (λ q k. f (pick s p q)))

  decide_picked : (a : ℕ → ℕ) → Decided (Picked a)
  decide_picked a = decide_both (Picks δ a s) (Picks δ a t) (decide_picks δ a s) (decide_picks δ a t)

  decide_differs : (a : ℕ → ℕ) → Decided (Differs a)
  decide_differs a = decide_both (Picked a) (test (number vals a s) (number vals a t) ≡ b → ⊥) (decide_picked a)
      (decide_not (test (number vals a s) (number vals a t) ≡ b) (decide_bool (test (number vals a s) (number vals a t)) b))

  -- a choice for which both are picked has its two places
  again : (a : ℕ → ℕ) → Picks δ a s → Picks δ a t → Some2 (λ c. Picked c × ((number vals a s ≡ number vals c s) × (number vals a t ≡ number vals c t)))
  again a hs ht =
      let one = same_first a s t in let two = same_second a s t in let c = pick s (place_of a s) (place_of a t) in (
        place_of a s,
        place_inside n places δ within a s hs,
        (
          place_of a t,
          place_inside n places δ within a t ht,
          ((picks_same δ a c s one hs, picks_same δ a c t two ht), (number_same vals a c s one, number_same vals a c t two)),
        ),
      )

  agree_from : Some2 Picked → (Some2 Differs → ⊥) → Agree vals δ test s t b
  agree_from h never = record {
    some = (pick s h.0 h.2.0, h.2.2.0, h.2.2.1);
    each = λ a hs ht. not_not (test (number vals a s) (number vals a t) ≡ b) (decide_bool (test (number vals a s) (number vals a t)) b)
        (λ ne. let g = again a hs ht in never (g.0, g.1, (g.2.0, g.2.1, (g.2.2.0, (λ e. ne (ap₂ test g.2.2.1.0 g.2.2.1.1 ∙ e))))));
  }

  pub decide_agree : Decided (Agree vals δ test s t b)
  decide_agree = elim (decide_two Picked decide_picked) [
    | inr none ↦ inr (λ h. let g = again h.some.0 h.some.1 h.some.2 in none (g.0, g.1, (g.2.0, g.2.1, g.2.2.0)))
    | inl some ↦ elim (decide_two Differs decide_differs) [
      | inl d ↦ inr (λ h. d.2.2.1 (h.each (pick s d.0 d.2.0) d.2.2.0.0 d.2.2.0.1))
      | inr never ↦ inl (agree_from some never)
    ]
  ]

module _ (n : ℕ) (places : ℕ → ℕ) (δ : Family) (within : Within n places δ) (vals : List (List ℕ)) where
  mutual
    pub decide_is : (f : Formula) (b : Bool) → Decided (Is vals δ f b)
    decide_is Truth b = decide_bool b true
    decide_is Lie b = decide_bool b false
    decide_is (Equal s t) b = decide_agree n places δ within vals eqb s t b
    decide_is (AtMost s t) b = decide_agree n places δ within vals leb s t b
    decide_is (Neg f) b = decide_is f (not b)
    decide_is (AllOf fs) true = decide_each fs true
    decide_is (AllOf fs) false = decide_one fs false
    decide_is (AnyOf fs) true = decide_one fs true
    decide_is (AnyOf fs) false = decide_each fs false

    decide_each : (fs : Formulas) (b : Bool) → Decided (Each vals δ fs b)
    decide_each no_form b = inl tt
    decide_each (and_form f fs) b = decide_both (Is vals δ f b) (Each vals δ fs b) (decide_is f b) (decide_each fs b)

    decide_one : (fs : Formulas) (b : Bool) → Decided (One vals δ fs b)
    decide_one no_form b = inr (λ h. h)
    decide_one (and_form f fs) b = decide_either (Is vals δ f b) (One vals δ fs b) (decide_is f b) (decide_one fs b)
