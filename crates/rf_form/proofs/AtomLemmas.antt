-- The value of an atom from its hits, and of a list of formulas from one part after the other.
use Rattle.std.proofs.Common.{◌≡◌, ◌⊎◌, ℕ, ◌<◌, Bool, true, false, not, cond, ◌||◌, eqb, leb, List, length, MatchBool, refl, sym, ap, ap₂, ◌∙◌, subst, inl, inr, arith, eq-eqb, ne_eqb, eqb-true}
use Rattle.std.proofs.lemmas.Bool.{both_ways, cond-true, cond-false, cases_eq, cases_Bool, false_from_ne_true, true_from_ne_false}
use Rattle.rf_form.specs.declared.forms.Term.{Term}
use Rattle.rf_form.specs.declared.forms.Term.TheVariants.{Var, Const}
use Rattle.rf_form.specs.declared.forms.Tri.{Tri}
use Rattle.rf_form.specs.declared.forms.Tri.TheVariants as tri
use Rattle.rf_form.specs.declared.atoms.Test.{Test}
use Rattle.rf_form.specs.declared.atoms.Test.TheVariants as test
use Rattle.rf_form.specs.declared.atoms.Atom.{Atom}
use Rattle.rf_form.specs.Alive.{IsFit}
use Rattle.rf_form.specs.Atoms.{Says, test_of, atom_of, term_size, term_alive, number_at, joint, Hit, SomeHit, NoHit, told, many, is_value, is_unknown, value_of, ended, negated, Left}
use Rattle.rf_form.specs.Families.{Family}
use Rattle.rf_form.specs.Formulas.{Formula, Neg, Formulas, no_form, and_form}
use Rattle.rf_form.specs.Truths.{Picks, Agree, number, Is, Each, One}
use Rattle.rf_form.proofs.Decisions.{pick, is_it, place_of}

-- a choice has that place for the term
IsAt : (ℕ → ℕ) → ℕ → Term → Type 0
IsAt a p (Var x) = a x ≡ p
IsAt a p (Const c) = Unit {0}

first_at : (s : Term) (p q : ℕ) → IsAt (pick s p q) p s
unfolding IsAt pick is_it
first_at (Var x) p q = cond-true (eqb x x) p q (eq-eqb x x refl)
first_at (Const c) p q = tt

second_at : (s t : Term) (p q : ℕ) → joint s t p q ≡ true → IsAt (pick s p q) q t
unfolding IsAt pick is_it
second_at s (Const d) p q h = tt
second_at (Const c) (Var y) p q h = refl
second_at (Var x) (Var y) p q h = elim (cases_eq x y) [
  | inl e ↦ cond-true (eqb x y) p q (eq-eqb x y e) ∙ eqb-true p q (sym (cond-true (eqb x y) (eqb p q) true (eq-eqb x y e)) ∙ h)
  | inr ne ↦ cond-false (eqb x y) p q (ne_eqb x y ne)
]

picks_at : (δ : Family) (a : ℕ → ℕ) (p : ℕ) (s : Term) → IsAt a p s → term_alive δ s p ≡ true → Picks δ a s
unfolding IsAt
picks_at δ a p (Var x) e h = subst (λ (v : ℕ). δ x v ≡ true) (sym e) h
picks_at δ a p (Const c) e h = tt

number_is : (vals : List (List ℕ)) (a : ℕ → ℕ) (p : ℕ) (s : Term) → IsAt a p s → number vals a s ≡ number_at vals s p
unfolding IsAt
number_is vals a p (Var x) e = ap (λ (v : ℕ). number_at vals (Var x) v) e
number_is vals a p (Const c) e = refl

-- a choice with an answer
abbrev Chosen : List (List ℕ) → Family → Test → Term → Term → Bool → Type 0
Chosen vals δ test s t b = (a : ℕ → ℕ) × Picks δ a s × Picks δ a t × (test_of test (number vals a s) (number vals a t) ≡ b)

chosen_hit : (vals : List (List ℕ)) (δ : Family) (test : Test) (s t : Term) (b : Bool) (p q : ℕ)
    → Hit vals δ (record { test = test; left = s; right = t; wanted = b }) p q → Chosen vals δ test s t b
chosen_hit vals δ test s t b p q hit = let one = first_at s p q in let two = second_at s t p q hit.fits in (
  pick s p q,
  picks_at δ (pick s p q) p s one hit.first,
  picks_at δ (pick s p q) q t two hit.second,
  ap₂ (test_of test) (number_is vals (pick s p q) p s one) (number_is vals (pick s p q) q t two) ∙ hit.answers,
)

alive_picked : (δ : Family) (a : ℕ → ℕ) (s : Term) → Picks δ a s → term_alive δ s (place_of a s) ≡ true
unfolding place_of
alive_picked δ a (Var x) h = h
alive_picked δ a (Const c) h = refl

number_picked : (vals : List (List ℕ)) (a : ℕ → ℕ) (s : Term) → number_at vals s (place_of a s) ≡ number vals a s
unfolding place_of
number_picked vals a (Var x) = refl
number_picked vals a (Const c) = refl

joint_picked : (a : ℕ → ℕ) (s t : Term) → joint s t (place_of a s) (place_of a t) ≡ true
unfolding place_of
joint_picked a (Const c) t = refl
joint_picked a (Var x) (Const c) = refl
joint_picked a (Var x) (Var y) = elim (cases_eq x y) [
  | inl e ↦ cond-true (eqb x y) (eqb (a x) (a y)) true (eq-eqb x y e) ∙ eq-eqb (a x) (a y) (ap a e)
  | inr ne ↦ cond-false (eqb x y) (eqb (a x) (a y)) true (ne_eqb x y ne)
]

size_picked : (vals : List (List ℕ)) (δ : Family) → IsFit vals δ → (a : ℕ → ℕ) (s : Term) → Picks δ a s → place_of a s < term_size vals s
unfolding place_of
size_picked vals δ fit a (Var x) h = fit.within x (a x) h
size_picked vals δ fit a (Const c) h = omega arith

none_chosen : (vals : List (List ℕ)) (δ : Family) → IsFit vals δ → (test : Test) (s t : Term) (b : Bool)
    → NoHit vals δ (record { test = test; left = s; right = t; wanted = b }) → Chosen vals δ test s t b → ⊥
none_chosen vals δ fit test s t b none c = none (place_of c.0 s) (place_of c.0 t) (size_picked vals δ fit c.0 s c.1) (size_picked vals δ fit c.0 t c.2)
    (record {
      first = alive_picked δ c.0 s c.1;
      second = alive_picked δ c.0 t c.2;
      fits = joint_picked c.0 s t;
      answers = ap₂ (test_of test) (number_picked vals c.0 s) (number_picked vals c.0 t) ∙ c.3;
    })

abbrev Found : List (List ℕ) → Family → Test → Term → Term → Bool → Bool → Type 0
Found vals δ test s t b found = MatchBool found (Chosen vals δ test s t b) (Chosen vals δ test s t b → ⊥)

found_from : (vals : List (List ℕ)) (δ : Family) → IsFit vals δ → (test : Test) (s t : Term) (b found : Bool)
    → MatchBool found (SomeHit vals δ (record { test = test; left = s; right = t; wanted = b })) (NoHit vals δ (record { test = test; left = s; right = t; wanted = b }))
    → Found vals δ test s t b found
found_from vals δ fit test s t b true h = chosen_hit vals δ test s t b h.0 h.1 h.2
found_from vals δ fit test s t b false h = none_chosen vals δ fit test s t b h

-- all choices answer b, and there is one
agreed : (vals : List (List ℕ)) (δ : Family) (test : Test) (s t : Term) (b : Bool) → Chosen vals δ test s t b → (Chosen vals δ test s t (not b) → ⊥)
    → Agree vals δ (test_of test) s t b
agreed vals δ test s t true c none = record {
  some = (c.0, c.1, c.2);
  each = λ a hs ht. true_from_ne_false (test_of test (number vals a s) (number vals a t)) (λ e. none (a, hs, ht, e));
}
agreed vals δ test s t false c none = record {
  some = (c.0, c.1, c.2);
  each = λ a hs ht. false_from_ne_true (test_of test (number vals a s) (number vals a t)) (λ e. none (a, hs, ht, e));
}

atom_is : (vals : List (List ℕ)) (δ : Family) (test : Test) (s t : Term) (b : Bool) → Agree vals δ (test_of test) s t b → Is vals δ (atom_of test s t) b
atom_is vals δ test.Equal s t b h = h
atom_is vals δ test.AtMost s t b h = h

is_atom : (vals : List (List ℕ)) (δ : Family) (test : Test) (s t : Term) (b : Bool) → Is vals δ (atom_of test s t) b → Agree vals δ (test_of test) s t b
is_atom vals δ test.Equal s t b h = h
is_atom vals δ test.AtMost s t b h = h

differ : (vals : List (List ℕ)) (δ : Family) (test : Test) (s t : Term) → Chosen vals δ test s t true → Chosen vals δ test s t false
    → (b : Bool) → Agree vals δ (test_of test) s t b → ⊥
differ vals δ test s t c d true h = both_ways (test_of test (number vals d.0 s) (number vals d.0 t)) d.3 (h.each d.0 d.1 d.2)
differ vals δ test s t c d false h = both_ways (test_of test (number vals c.0 s) (number vals c.0 t)) (h.each c.0 c.1 c.2) c.3

nothing : (vals : List (List ℕ)) (δ : Family) (test : Test) (s t : Term) → (Chosen vals δ test s t true → ⊥) → (Chosen vals δ test s t false → ⊥)
    → (b : Bool) → Agree vals δ (test_of test) s t b → ⊥
nothing vals δ test s t c d b h = elim (cases_Bool (test_of test (number vals h.some.0 s) (number vals h.some.0 t))) [
  | inl e ↦ c (h.some.0, h.some.1, h.some.2, e)
  | inr e ↦ d (h.some.0, h.some.1, h.some.2, e)
]

says_told : (vals : List (List ℕ)) (δ : Family) (test : Test) (s t : Term) (a b : Bool) → Found vals δ test s t true a → Found vals δ test s t false b
    → Says vals δ (atom_of test s t) (told a b)
says_told vals δ test s t true false h g = atom_is vals δ test s t true (agreed vals δ test s t true h g)
says_told vals δ test s t false true h g = atom_is vals δ test s t false (agreed vals δ test s t false g h)
says_told vals δ test s t true true h g = λ b k. differ vals δ test s t h g b (is_atom vals δ test s t b k)
says_told vals δ test s t false false h g = λ b k. nothing vals δ test s t h g b (is_atom vals δ test s t b k)

pub says_atom : (vals : List (List ℕ)) (δ : Family) → IsFit vals δ → (test : Test) (s t : Term) (a b : Bool) (r : Tri)
    → MatchBool a (SomeHit vals δ (record { test = test; left = s; right = t; wanted = true })) (NoHit vals δ (record { test = test; left = s; right = t; wanted = true }))
    → MatchBool b (SomeHit vals δ (record { test = test; left = s; right = t; wanted = false })) (NoHit vals δ (record { test = test; left = s; right = t; wanted = false }))
    → r ≡ told a b → Says vals δ (atom_of test s t) r
says_atom vals δ fit test s t a b r h g e = subst (Says vals δ (atom_of test s t)) (sym e)
    (says_told vals δ test s t a b (found_from vals δ fit test s t true a h) (found_from vals δ fit test s t false b g))

pub says_not : (vals : List (List ℕ)) (δ : Family) (f : Formula) (v : Tri) → Says vals δ f v → Says vals δ (Neg f) (negated v)
says_not vals δ f tri.True h = h
says_not vals δ f tri.False h = h
says_not vals δ f tri.Unknown h = λ b k. h (not b) k
