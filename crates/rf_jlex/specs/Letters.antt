-- One character at the front of a text.
use Rattle.std.specs.Prelude.{◌≡◌, ℕ, Bool, true, ◌||◌, ◌==◌, List, ◌++◌}
use Rattle.std.specs.Char.{encode_utf8, IsScalar, is_ascii_alphanumeric}

-- the text is one character, in UTF-8, and then the rest
pub record BeginsWithCharacter (text : List ℕ) (character : ℕ) (rest : List ℕ) : Type 0 where
  pub scalar : IsScalar character
  pub parts : text ≡ encode_utf8 character ++ rest

-- and the character passes the test
pub record BeginsWithPassing (test : ℕ → Bool) (text rest : List ℕ) : Type 0 where
  pub character : ℕ
  pub begins : BeginsWithCharacter text character rest
  pub passes : test character ≡ true

-- a letter or a digit of ASCII, `_` or `$`
abbrev pub is_ascii_letter_or_digit : ℕ → Bool
is_ascii_letter_or_digit byte = is_ascii_alphanumeric byte || ((byte == 95) || (byte == 36))
