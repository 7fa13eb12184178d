-- What a search answers.
use Rattle.std.specs.Prelude.{◌≡◌, ℕ, ◌+◌, ◌<◌, ◌≤◌, List, length, map, slice_index_or, Option, Some, None}
use Rattle.std.specs.List.{range_with_len}
use Rattle.rf_form.specs.Families.{Family}
use Rattle.rf_form.specs.Need.{Canon}
use Rattle.rf_form.specs.Truths.{row}
use Rattle.rf_cons.specs.Systems.{System, problem}
use Rattle.rf_refute.specs.Good.{Good, counted}
use Rattle.rf_refute.specs.Shown.{shown}
use Rattle.rf_refute.specs.Trees.{Node}
use Rattle.rf_search.specs.declared.answers.Found.{Found}
use Rattle.rf_search.specs.declared.answers.Found.TheVariants as found

-- the value of each variable at its place
abbrev pub valued : System → List ℕ → List ℕ
valued s places = map (λ x. slice_index_or (row s.vals x) (slice_index_or places x 0) 0) (range_with_len 0 (length s.vals))

-- the first solution, where the need is within the budget
pub record Solves (s : System) (δ : Family) (budget : ℕ) (values : List ℕ) : Type 0 where
  pub places : List ℕ
  pub need : ℕ
  pub canon : Canon (problem s) δ (Some places) need
  pub within : need ≤ budget
  pub is : values ≡ valued s places

-- there is no solution: a good refutation with no more counted children than the need, which is within the budget
pub record Refutes (s : System) (δ : Family) (budget : ℕ) (nodes : List Node) : Type 0 where
  pub need : ℕ
  pub canon : Canon (problem s) δ None need
  pub within : need ≤ budget
  pub good : Good s δ nodes
  pub few : counted nodes ≤ need

-- the need is above the budget, whatever the answer is
pub record Exceeds (s : System) (δ : Family) (budget : ℕ) : Type 0 where
  pub answer : Option (List ℕ)
  pub need : ℕ
  pub canon : Canon (problem s) δ answer need
  pub above : budget < need

abbrev pub Answers : System → Family → ℕ → Found → Type 0
Answers s δ budget (found.Solution values) = Solves s δ budget values
Answers s δ budget (found.Refutation tree) = Refutes s δ budget (map shown tree.nodes)
Answers s δ budget (found.Budget spent) = (spent ≡ budget) × Exceeds s δ budget
