-- What an instance keeps in its type, and its problem.
use Rattle.std.specs.Prelude.{◌≡◌, ℕ, ◌<◌, ◌≤◌, ◌^◌, true, List, length, map, slice_index_or}
use Rattle.std.specs.List.{All}
use Rattle.rf_form.specs.Constraints.{problem_of}
use Rattle.rf_form.specs.Formulas.{Formula}
use Rattle.rf_form.specs.Mentions.{mentions}
use Rattle.rf_form.specs.Problems.{Problem}
use Rattle.rf_form.specs.Shown.{form_of}
use Rattle.rf_inst.specs.declared.constraints.Con.{Con}

-- the values are none twice
abbrev pub AreApart : List ℕ → Type 0
AreApart values = (j k : ℕ) → j < k → k < length values → slice_index_or values j 0 ≡ slice_index_or values k 0 → ⊥

-- a first domain
pub record IsDomain (values : List ℕ) : Type 0 where
  pub some : 0 < length values
  pub most : length values ≤ 65536
  pub apart : AreApart values

-- the formula has only variables below n
abbrev pub IsBelow : ℕ → Formula → Type 0
IsBelow n f = (x : ℕ) → mentions f x ≡ true → x < n

pub record IsInst (vals : List (List ℕ)) (props : ℕ) (cons : List Con) : Type 0 where
  pub few : length vals ≤ 2 ^ 32
  pub properties : props ≤ length vals
  pub domains : All IsDomain vals
  pub variables : All (λ c. IsBelow (length vals) (form_of c.form)) cons
  pub rising : (j k : ℕ) (d : Con) → j < k → k < length cons → (slice_index_or cons j d).number < (slice_index_or cons k d).number

-- the formulas of the constraints, in order
abbrev pub formulas : List Con → List Formula
formulas cons = map (λ c. form_of c.form) cons

abbrev pub problem : List (List ℕ) → List Con → Problem
problem vals cons = problem_of vals (formulas cons)
