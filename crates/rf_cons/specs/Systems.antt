-- What is to be solved: first domains, constraints, and the number of the constraint at each place.
use Rattle.std.specs.Prelude.{◌≡◌, ℕ, ◌<◌, false, List, length}
use Rattle.rf_form.specs.Constraints.{formula_at, problem_of}
use Rattle.rf_form.specs.Families.{Family}
use Rattle.rf_form.specs.Formulas.{Formula}
use Rattle.rf_form.specs.Problems.{Problem}
use Rattle.rf_form.specs.Truths.{Is}

pub record System : Type 0 where
  pub vals : List (List ℕ)
  pub formulas : List Formula
  pub numbers : ℕ → ℕ

abbrev pub problem : System → Problem
problem s = problem_of s.vals s.formulas

-- the constraint at that place is false
abbrev pub IsFalse : System → Family → ℕ → Type 0
IsFalse s δ place = Is s.vals δ (formula_at s.formulas place) false

-- the constraint with that number is false
pub record FalseAt (s : System) (δ : Family) (number : ℕ) : Type 0 where
  pub place : ℕ
  pub inside : place < length s.formulas
  pub number_is : s.numbers place ≡ number
  pub fails : IsFalse s δ place
