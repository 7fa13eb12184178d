-- Closed parts of a family, and the closure, for variables with finitely many places and a test that fails.
use Rattle.std.specs.Prelude.{◌≡◌, ◌⊎◌, ℕ, ◌<◌, true}
use Rattle.rf_form.specs.Families.{Family, at, Part, Filled, Within, IsWide}

-- so many variables, each with so many places; and where some constraint is false
pub record Problem : Type 1 where
  pub count : ℕ
  pub places : ℕ → ℕ
  pub Fails : Family → Type 0

-- nothing is alive but places of variables
abbrev pub Fits : Problem → Family → Type 0
Fits i δ = Within i.count i.places δ

-- No domain is empty, no constraint is false, and none is with one of the alive places alone.
pub record Closed (i : Problem) (δ : Family) : Type 0 where
  pub filled : Filled i.count δ
  pub holds : i.Fails δ → ⊥
  pub each : (x v : ℕ) → x < i.count → δ x v ≡ true → i.Fails (at δ x v) → ⊥

abbrev pub NoneClosed : Problem → Family → Type 0
NoneClosed i δ = (part : Family) → Part part δ → Closed i part → ⊥

-- the place is in some closed part
abbrev pub InClosure : Problem → Family → ℕ → ℕ → Type 0
InClosure i δ x v = (part : Family) × Part part δ × Closed i part × (part x v ≡ true)

-- the union of all closed parts: where there is none, all its domains are empty
abbrev pub IsClosure : Problem → Family → Family → Type 0
IsClosure i δ found = (x v : ℕ) → (found x v ≡ true → InClosure i δ x v) × (InClosure i δ x v → found x v ≡ true)

-- the greatest closed part
pub record IsGreatest (i : Problem) (δ found : Family) : Type 0 where
  pub closed : Closed i found
  pub closure : IsClosure i δ found

-- What makes the test one of constraints: a filled part of a family where it fails fails too, and it can be decided.
pub record Lawful (i : Problem) : Type 0 where
  pub fails_below : (p δ : Family) → Fits i δ → Filled i.count p → Part p δ → i.Fails δ → i.Fails p
  pub decides : (δ : Family) → Fits i δ → i.Fails δ ⊎ (i.Fails δ → ⊥)
