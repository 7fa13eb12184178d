-- What a formula says: of an assignment, true or false; of a family of domains, true, false or unknown (Kleene's values).
use Rattle.std.specs.Prelude.{◌≡◌, ◌⊎◌, ℕ, Bool, true, false, not, ◌&&◌, ◌||◌, eqb, leb, List, [], slice_index_or}
use Rattle.rf_form.specs.declared.forms.Term.{Term}
use Rattle.rf_form.specs.declared.forms.Term.TheVariants.{Var, Const}
use Rattle.rf_form.specs.Formulas.{Formula, Truth, Lie, Equal, AtMost, Neg, AllOf, AnyOf, Formulas, no_form, and_form}
use Rattle.rf_form.specs.Families.{Family}

-- the value of a term, where x has the value a x
abbrev pub value : (ℕ → ℕ) → Term → ℕ
value a (Var x) = a x
value a (Const c) = c

abbrev mutual
  -- plain truth
  pub truth : (ℕ → ℕ) → Formula → Bool
  truth a Truth = true
  truth a Lie = false
  truth a (Equal s t) = eqb (value a s) (value a t)
  truth a (AtMost s t) = leb (value a s) (value a t)
  truth a (Neg f) = not (truth a f)
  truth a (AllOf fs) = all_true a fs
  truth a (AnyOf fs) = any_true a fs

  pub all_true : (ℕ → ℕ) → Formulas → Bool
  all_true a no_form = true
  all_true a (and_form f fs) = truth a f && all_true a fs

  pub any_true : (ℕ → ℕ) → Formulas → Bool
  any_true a no_form = false
  any_true a (and_form f fs) = truth a f || any_true a fs

-- the row of a variable: empty where there is none
abbrev pub row : List (List ℕ) → ℕ → List ℕ
row rows x = slice_index_or rows x []

-- the value of a term, where x has the value at the place a x
abbrev pub number : List (List ℕ) → (ℕ → ℕ) → Term → ℕ
number vals a = value (λ x. slice_index_or (row vals x) (a x) 0)

-- the place that is chosen for the term is alive
abbrev pub Picks : Family → (ℕ → ℕ) → Term → Type 0
Picks δ a (Var x) = δ x (a x) ≡ true
Picks δ a (Const c) = Unit {0}

-- There is a choice of alive places for both terms, and for each such choice the test answers b. One variable with
-- itself has one place for both.
pub record Agree (vals : List (List ℕ)) (δ : Family) (test : ℕ → ℕ → Bool) (s t : Term) (b : Bool) : Type 0 where
  pub some : (a : ℕ → ℕ) × Picks δ a s × Picks δ a t
  pub each : (a : ℕ → ℕ) → Picks δ a s → Picks δ a t → test (number vals a s) (number vals a t) ≡ b

abbrev mutual
  -- the formula is b under these domains
  pub Is : List (List ℕ) → Family → Formula → Bool → Type 0
  Is vals δ Truth b = b ≡ true
  Is vals δ Lie b = b ≡ false
  Is vals δ (Equal s t) b = Agree vals δ eqb s t b
  Is vals δ (AtMost s t) b = Agree vals δ leb s t b
  Is vals δ (Neg f) b = Is vals δ f (not b)
  Is vals δ (AllOf fs) true = Each vals δ fs true
  Is vals δ (AllOf fs) false = One vals δ fs false
  Is vals δ (AnyOf fs) true = One vals δ fs true
  Is vals δ (AnyOf fs) false = Each vals δ fs false

  -- each of the formulas is b
  pub Each : List (List ℕ) → Family → Formulas → Bool → Type 0
  Each vals δ no_form b = Unit {0}
  Each vals δ (and_form f fs) b = Is vals δ f b × Each vals δ fs b

  -- some of the formulas is b
  pub One : List (List ℕ) → Family → Formulas → Bool → Type 0
  One vals δ no_form b = ⊥
  One vals δ (and_form f fs) b = Is vals δ f b ⊎ One vals δ fs b
