-- Families of domains: which place of which variable is alive.
use Rattle.std.specs.Prelude.{◌≡◌, ℕ, ◌<◌, Bool, true, cond, not, ◌&&◌, eqb}

abbrev pub Family : Type 0
Family = ℕ → ℕ → Bool

-- the family in which x has the place v alone, and every other variable what it had
abbrev pub at : Family → ℕ → ℕ → Family
at δ x v = λ y w. cond (eqb x y) (eqb v w) (δ y w)

-- the family without the place v of x
abbrev pub without : Family → ℕ → ℕ → Family
without δ x v = λ y w. δ y w && not (eqb x y && eqb v w)

-- each place of the first is one of the second
abbrev pub Part : Family → Family → Type 0
Part p δ = (x v : ℕ) → p x v ≡ true → δ x v ≡ true

-- each of the first n variables has a place: here is one for each
abbrev pub Filled : ℕ → Family → Type 0
Filled n δ = (a : ℕ → ℕ) × ((x : ℕ) → x < n → δ x (a x) ≡ true)

-- nothing is alive but the first places of the first n variables
abbrev pub Within : ℕ → (ℕ → ℕ) → Family → Type 0
Within n places δ = (x v : ℕ) → δ x v ≡ true → (x < n) × (v < places x)

-- x has two places
pub record IsWide (δ : Family) (x : ℕ) : Type 0 where
  pub low : ℕ
  pub high : ℕ
  pub low_alive : δ x low ≡ true
  pub high_alive : δ x high ≡ true
  pub apart : low < high
