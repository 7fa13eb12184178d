-- The problem of a list of formulas over first domains.
use Rattle.std.specs.Prelude.{ℕ, ◌<◌, false, List, length, slice_index_or}
use Rattle.rf_form.specs.Families.{Family}
use Rattle.rf_form.specs.Formulas.{Formula, Truth}
use Rattle.rf_form.specs.Problems.{Problem}
use Rattle.rf_form.specs.Truths.{row, Is}

-- the formula of a constraint
abbrev pub formula_at : List Formula → ℕ → Formula
formula_at fs c = slice_index_or fs c Truth

-- some constraint is false
abbrev pub SomeFalse : List (List ℕ) → List Formula → Family → Type 0
SomeFalse vals fs δ = (c : ℕ) × (c < length fs) × Is vals δ (formula_at fs c) false

abbrev pub problem_of : List (List ℕ) → List Formula → Problem
problem_of vals fs = record { count = length vals; places = λ x. length (row vals x); Fails = SomeFalse vals fs }
