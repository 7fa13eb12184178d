-- How a search ends, in its own words: the places that are left, and what is left of the budget.
use Rattle.std.specs.Prelude.{◌≡◌, ℕ, ◌+◌, ◌<◌, List, Option, Some, None}
use Rattle.rf_form.specs.Families.{Family}
use Rattle.rf_form.specs.Need.{Canon, solution, AllSingle}
use Rattle.rf_cons.specs.Systems.{System, problem}
use Rattle.rf_refute.specs.Good.{Good, counted}
use Rattle.rf_refute.specs.Trees.{Node}
use Rattle.rf_search.specs.Answers.{Exceeds}
use Rattle.rf_search.specs.declared.answers.End.{End}
use Rattle.rf_search.specs.declared.answers.End.TheVariants as end

-- the places that are left are the solution
pub record Solved (s : System) (δ ε : Family) (budget left : ℕ) : Type 0 where
  pub need : ℕ
  pub single : AllSingle (problem s) ε
  pub canon : Canon (problem s) δ (Some (solution (problem s) ε)) need
  pub spent : need + left ≡ budget

-- there is no solution, and the nodes are a refutation that counts exactly the need
pub record Nothing (s : System) (δ : Family) (budget left : ℕ) (nodes : List Node) : Type 0 where
  pub need : ℕ
  pub canon : Canon (problem s) δ None need
  pub spent : need + left ≡ budget
  pub good : Good s δ nodes
  pub counts : counted nodes ≡ need

abbrev pub Ended : System → Family → ℕ → Family → List Node → End → Type 0
Ended s δ budget ε nodes (end.Solved left) = Solved s δ ε budget left
Ended s δ budget ε nodes (end.Nothing left) = Nothing s δ budget left nodes
Ended s δ budget ε nodes end.Budget = Exceeds s δ budget
