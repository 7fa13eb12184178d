-- What a turn of one constraint and a closing answer.
use Rattle.std.specs.Prelude.{◌≡◌, ℕ, true}
use Rattle.rf_form.specs.Families.{Family, at, Filled}
use Rattle.rf_form.specs.Problems.{NoneClosed, IsGreatest}
use Rattle.rf_cons.specs.Systems.{System, problem, IsFalse, FalseAt}
use Rattle.rf_prop.specs.declared.steps.Turn.{Turn}
use Rattle.rf_prop.specs.declared.steps.Turn.TheVariants as turn
use Rattle.rf_prop.specs.declared.steps.Outcome.{Outcome}
use Rattle.rf_prop.specs.declared.steps.Outcome.TheVariants as outcome

-- the constraint isn't false, and with no alive place alone is it
pub record Quiet (s : System) (δ : Family) (place : ℕ) : Type 0 where
  pub holds : IsFalse s δ place → ⊥
  pub each : (x v : ℕ) → δ x v ≡ true → IsFalse s (at δ x v) place → ⊥

abbrev pub Turned : System → Family → ℕ → Turn → Type 0
Turned s ε place turn.Rest = Quiet s ε place
Turned s ε place turn.Fail = IsFalse s ε place

-- There is no closed part; no domain is empty, and the constraint with that number is false.
pub record Emptied (s : System) (δ ε : Family) (number : ℕ) : Type 0 where
  pub none : NoneClosed (problem s) δ
  pub filled : Filled (problem s).count ε
  pub fails : FalseAt s ε number

abbrev pub Closes : System → Family → Family → Outcome → Type 0
Closes s δ ε outcome.Closed = IsGreatest (problem s) δ ε
Closes s δ ε (outcome.Empty number) = Emptied s δ ε number
