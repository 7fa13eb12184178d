-- Numbers in decimal digits in a text.
use Rattle.std.specs.Prelude.{◌≡◌, ℕ, ◌≤◌, Bool, false, List, [], ◌∷◌, ◌++◌}
use Rattle.std.specs.Char.{is_ascii_digit}
use Rattle.std.specs.Fmt.{decimal}

-- the text doesn't go on with a digit
abbrev pub EndsNumber : List ℕ → Type 0
EndsNumber [] = Unit {0}
EndsNumber (b ∷ rest) = is_ascii_digit b ≡ false

-- the text begins with this number of at most so much, and no further digit
pub record BeginsNumber (text : List ℕ) (most n : ℕ) (rest : List ℕ) : Type 0 where
  pub small : n ≤ most
  pub text_is : text ≡ decimal n ++ rest
  pub ends : EndsNumber rest

-- the same behind a space
pub record BeginsField (text : List ℕ) (most n : ℕ) (rest : List ℕ) : Type 0 where
  pub behind : List ℕ
  pub text_is : text ≡ 32 ∷ behind
  pub number : BeginsNumber behind most n rest
