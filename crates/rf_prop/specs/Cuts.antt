-- Places that are cut off a family, one after the other, each with the constraint that is false with the place alone.
use Rattle.std.specs.Prelude.{◌≡◌, ℕ, true, List, [], ◌∷◌, ◌++◌, map}
use Rattle.rf_form.specs.Families.{Family, at, without}
use Rattle.rf_cons.specs.Systems.{System, FalseAt}
use Rattle.rf_prop.specs.declared.steps.Step.{Step}

-- the place is alive and not the only one, and the constraint with that number is false with x at it alone
pub record Legal (s : System) (δ : Family) (x v number : ℕ) : Type 0 where
  pub alive : δ x v ≡ true
  pub other : (w : ℕ) × ((w ≡ v → ⊥) × (δ x w ≡ true))
  pub fails : FalseAt s (at δ x v) number

-- the steps are legal, each where those before it have led, and lead to the second family
abbrev pub Cut : System → Family → List Step → Family → Type 0
Cut s δ [] ε = δ ≡ ε
Cut s δ (r ∷ rs) ε = Legal s δ r.x r.v r.c × Cut s (without δ r.x r.v) rs ε

abbrev pub removal : Step → ℕ × ℕ
removal r = (r.x, r.v)

-- From one store and log to another: the same removals are new in both.
pub record Logged (s : System) (δ : Family) (rs : List (ℕ × ℕ)) (log : List Step) (ε : Family) (more : List (ℕ × ℕ)) (longer : List Step) : Type 0 where
  pub steps : List Step
  pub log_is : longer ≡ log ++ steps
  pub removed_is : more ≡ rs ++ map removal steps
  pub cut : Cut s δ steps ε
