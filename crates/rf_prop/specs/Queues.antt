-- The queue is the end of the list of steps: the steps behind the place `done` have still to wake the constraints that
-- mention their variable.
use Rattle.std.specs.Prelude.{◌≡◌, ◌⊎◌, ℕ, ◌<◌, ◌≤◌, true, List, length, map, slice_index_or}
use Rattle.rf_form.specs.Alive.{is_among}
use Rattle.rf_form.specs.Constraints.{formula_at}
use Rattle.rf_form.specs.Families.{Family}
use Rattle.rf_form.specs.Mentions.{mentions}
use Rattle.rf_form.specs.Truths.{row}
use Rattle.rf_cons.specs.Systems.{System}
use Rattle.rf_prop.specs.Turns.{Quiet}
use Rattle.rf_prop.specs.declared.steps.Step.{Step}

abbrev pub Mentions : System → ℕ → ℕ → Type 0
Mentions s place x = mentions (formula_at s.formulas place) x ≡ true

-- the variable of a step
abbrev pub variable_at : List Step → ℕ → ℕ
variable_at log k = slice_index_or (map (λ r. r.x) log) k 0

-- a step from `done` on is of a variable that the constraint mentions
pub record Awaits (s : System) (log : List Step) (done place : ℕ) : Type 0 where
  pub at : ℕ
  pub from : done ≤ at
  pub inside : at < length log
  pub watched : Mentions s place (variable_at log at)

abbrev pub Ready : System → Family → List Step → ℕ → ℕ → Type 0
Ready s δ log done place = Quiet s δ place ⊎ Awaits s log done place

abbrev pub AllReady : System → Family → List Step → ℕ → Type 0
AllReady s δ log done = (place : ℕ) → place < length s.formulas → Ready s δ log done place

-- the variables of each constraint, and the constraints that each variable wakes
pub record Wired (s : System) (vars watchers : List (List ℕ)) : Type 0 where
  pub mentioned : (place x : ℕ) → place < length s.formulas → x < length s.vals → Mentions s place x → is_among x (row vars place) ≡ true
  pub watched : (place x : ℕ) → place < length s.formulas → x < length s.vals → Mentions s place x → is_among place (row watchers x) ≡ true
  pub inside : (place x : ℕ) → is_among place (row watchers x) ≡ true → place < length s.formulas

-- the constraint at that place is one of the system's, and these are its variables
pub record Serves (s : System) (place : ℕ) (vars : List ℕ) : Type 0 where
  pub inside : place < length s.formulas
  pub mentioned : (x : ℕ) → x < length s.vals → Mentions s place x → is_among x vars ≡ true
