-- What a trail asks of the domains that it begins with.
use Rattle.std.specs.Prelude.{◌≡◌, ℕ, Bool, true, not, ◌&&◌, List, [], ◌∷◌}
use Rattle.rf_form.specs.Alive.{is_among}
use Rattle.rf_form.specs.Fitting.{are_below}
use Rattle.rf_form.specs.Truths.{row}

-- no place stands twice
abbrev pub are_distinct : List ℕ → Bool
are_distinct [] = true
are_distinct (v ∷ rest) = not (is_among v rest) && are_distinct rest

-- the places are distinct, and below the bound
pub record IsSet (bound : ℕ) (places : List ℕ) : Type 0 where
  pub distinct : are_distinct places ≡ true
  pub below : are_below bound places ≡ true

abbrev pub AreSets : ℕ → List (List ℕ) → Type 0
AreSets bound rows = (x : ℕ) → IsSet bound (row rows x)
