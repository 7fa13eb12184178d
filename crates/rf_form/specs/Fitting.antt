-- Whether places are places of the first domains: what the test of it looks at, row by row.
use Rattle.std.specs.Prelude.{ℕ, ◌≤◌, Bool, true, ◌&&◌, ltb, List, [], ◌∷◌, length}
use Rattle.rf_form.specs.Truths.{row}

-- each place of the row is below the bound
abbrev pub are_below : ℕ → List ℕ → Bool
are_below bound [] = true
are_below bound (v ∷ rest) = ltb v bound && are_below bound rest

-- no variable has more values than a place can tell
abbrev pub AreShort : List (List ℕ) → Type 0
AreShort vals = (x : ℕ) → length (row vals x) ≤ 65536
