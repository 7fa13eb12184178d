-- Numbers in plain decimal.
use Rattle.std.specs.Prelude.{ℕ, List, [], ◌∷◌, Bool, true, ◌||◌, ◌==◌, not}

-- neither `+` nor, in a text of several bytes, 0 stands in front
abbrev pub is_plain : List ℕ → Bool
is_plain [] = true
is_plain (byte ∷ []) = not (byte == 43)
is_plain (byte ∷ next ∷ bytes) = not ((byte == 48) || (byte == 43))
