-- Sets of types by cases, and the answers that they give.
use Rattle.std.specs.Prelude.{◌≡◌, ◌≢◌, ℕ, ◌⊎◌}

abbrev pub IsEmpty : (ℕ → Type 0) → Type 0
IsEmpty set = (x : ℕ) → set x → ⊥

-- the first of the two that isn't empty
abbrev pub OrElse : (ℕ → Type 0) → (ℕ → Type 0) → ℕ → Type 0
OrElse first others x = (first x) ⊎ (IsEmpty first × others x)

-- one alone, and two or more
abbrev pub IsOnly : (ℕ → Type 0) → ℕ → Type 0
IsOnly set x = set x × ((y : ℕ) → set y → y ≡ x)

pub record HasSeveral (set : ℕ → Type 0) : Type 0 where
  pub one : ℕ
  pub other : ℕ
  pub has_one : set one
  pub has_other : set other
  pub differ : one ≢ other
