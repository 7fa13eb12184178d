-- Atoms by pairs of places, one for each term, and what a formula's value is called.
use Rattle.std.specs.Prelude.{◌≡◌, ℕ, ◌<◌, Bool, true, false, ◌||◌, not, cond, eqb, leb, List, length, slice_index_or}
use Rattle.rf_form.specs.declared.forms.Term.{Term}
use Rattle.rf_form.specs.declared.forms.Term.TheVariants.{Var, Const}
use Rattle.rf_form.specs.declared.forms.Tri.{Tri}
use Rattle.rf_form.specs.declared.forms.Tri.TheVariants as tri
use Rattle.rf_form.specs.declared.atoms.Test.{Test}
use Rattle.rf_form.specs.declared.atoms.Test.TheVariants as test
use Rattle.rf_form.specs.declared.atoms.Atom.{Atom}
use Rattle.rf_form.specs.Families.{Family}
use Rattle.rf_form.specs.Formulas.{Formula, Equal, AtMost, Formulas, AllOf, AnyOf}
use Rattle.rf_form.specs.Truths.{row, Is}

-- the formula's value under the domains
abbrev pub Says : List (List ℕ) → Family → Formula → Tri → Type 0
Says vals δ f tri.True = Is vals δ f true
Says vals δ f tri.False = Is vals δ f false
Says vals δ f tri.Unknown = (b : Bool) → Is vals δ f b → ⊥

abbrev pub test_of : Test → ℕ → ℕ → Bool
test_of test.Equal = eqb
test_of test.AtMost = leb

abbrev pub atom_of : Test → Term → Term → Formula
atom_of test.Equal s t = Equal s t
atom_of test.AtMost s t = AtMost s t

-- a term has the places of its variable, and a value one place
abbrev pub term_size : List (List ℕ) → Term → ℕ
term_size vals (Var x) = length (row vals x)
term_size vals (Const c) = 1

abbrev pub term_alive : Family → Term → ℕ → Bool
term_alive δ (Var x) p = δ x p
term_alive δ (Const c) p = true

abbrev pub number_at : List (List ℕ) → Term → ℕ → ℕ
number_at vals (Var x) p = slice_index_or (row vals x) p 0
number_at vals (Const c) p = c

-- one variable with itself has one place
abbrev pub joint : Term → Term → ℕ → ℕ → Bool
joint (Var x) (Var y) p q = cond (eqb x y) (eqb p q) true
joint (Var x) (Const c) p q = true
joint (Const c) t p q = true

-- both places are alive, and the test answers as wanted
pub record Hit (vals : List (List ℕ)) (δ : Family) (atom : Atom) (p q : ℕ) : Type 0 where
  pub first : term_alive δ atom.left p ≡ true
  pub second : term_alive δ atom.right q ≡ true
  pub fits : joint atom.left atom.right p q ≡ true
  pub answers : test_of atom.test (number_at vals atom.left p) (number_at vals atom.right q) ≡ atom.wanted

-- there is such a pair; there is none
abbrev pub SomeHit : List (List ℕ) → Family → Atom → Type 0
SomeHit vals δ atom = (p : ℕ) × (q : ℕ) × Hit vals δ atom p q

abbrev pub NoHit : List (List ℕ) → Family → Atom → Type 0
NoHit vals δ atom = (p q : ℕ) → p < term_size vals atom.left → q < term_size vals atom.right → Hit vals δ atom p q → ⊥

-- what two searches tell: for a pair with the answer true, and for one with false
abbrev pub told : Bool → Bool → Tri
told true false = tri.True
told false true = tri.False
told true true = tri.Unknown
told false false = tri.Unknown

-- all of the formulas, where false decides, or any of them, where true does
abbrev pub many : Bool → Formulas → Formula
many false fs = AllOf fs
many true fs = AnyOf fs

abbrev pub is_value : Tri → Bool → Bool
is_value tri.True b = b
is_value tri.False b = not b
is_value tri.Unknown b = false

abbrev pub is_unknown : Tri → Bool
is_unknown tri.True = false
is_unknown tri.False = false
is_unknown tri.Unknown = true

abbrev pub value_of : Bool → Tri
value_of true = tri.True
value_of false = tri.False

-- the value where nothing decided: unknown where a part was open
abbrev pub ended : Bool → Bool → Tri
ended k true = tri.Unknown
ended k false = value_of (not k)

abbrev pub negated : Tri → Tri
negated tri.True = tri.False
negated tri.False = tri.True
negated tri.Unknown = tri.Unknown

-- What is known in front of the formulas that are left. Where no part was open, the whole is what the rest is; where one
-- was, the deciding value is that of the rest, and the other is out of the question.
abbrev pub Left : List (List ℕ) → Family → Bool → Formulas → Formulas → Bool → Type 0
Left vals δ k fs rest false =
    (b : Bool) → (Is vals δ (many k rest) b → Is vals δ (many k fs) b) × (Is vals δ (many k fs) b → Is vals δ (many k rest) b)
Left vals δ k fs rest true =
    (Is vals δ (many k rest) k → Is vals δ (many k fs) k) × (Is vals δ (many k fs) k → Is vals δ (many k rest) k)
    × (Is vals δ (many k fs) (not k) → ⊥)
