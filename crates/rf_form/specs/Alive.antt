-- The families that contracts see domains as, and how many places are alive.
use Rattle.std.specs.Prelude.{◌≡◌, ℕ, ◌<◌, ◌≤◌, Bool, true, false, ◌||◌, eqb, List, [], ◌∷◌, length}
use Rattle.rf_form.specs.Families.{Family}
use Rattle.rf_form.specs.Sums.{sum_below, bit}
use Rattle.rf_form.specs.Truths.{row}

abbrev pub is_among : ℕ → List ℕ → Bool
is_among v [] = false
is_among v (w ∷ rest) = eqb v w || is_among v rest

-- the family of lists of places
abbrev pub among : List (List ℕ) → Family
among rows x v = is_among v (row rows x)

-- so many places of x are alive
abbrev pub Counts : Family → ℕ → ℕ → Type 0
Counts δ x count = (n : ℕ) → ((v : ℕ) → δ x v ≡ true → v < n) → count ≡ sum_below (λ v. bit (δ x v)) n

-- the alive places are places of the first domains, which are no longer than a place can tell
pub record IsFit (vals : List (List ℕ)) (δ : Family) : Type 0 where
  pub short : (x : ℕ) → length (row vals x) ≤ 65536
  pub within : (x v : ℕ) → δ x v ≡ true → v < length (row vals x)
