-- Escapes at the front of a text.
use Rattle.std.specs.Prelude.{◌≡◌, ℕ, ◌≤◌, List, [], ◌∷◌, length, take, drop, Option, Some, None, nat_le, if◌then◌else◌}
use Rattle.std.specs.Char.{digit_value}
use Rattle.std.specs.List.{AllPass, list_all}
use Rattle.rf_jtree.specs.Digits.{is_octal_digit, is_hex_digit}
use Rattle.rf_jtree.specs.Escapes.{code_of}

-- the first n bytes are such a text
pub record IsFrontOf (P : List ℕ → Type 0) (text : List ℕ) (n : ℕ) : Type 0 where
  pub within : n ≤ length text
  pub is_such : P (take n text)

-- no front is such a text
abbrev pub HasNoFrontOf : (List ℕ → Type 0) → List ℕ → Type 0
HasNoFrontOf P text = (n : ℕ) → IsFrontOf P text n → ⊥

-- the only front that is such a text, and `None` exactly where there is none
abbrev pub GivesOnlyFront : (List ℕ → Type 0) → List ℕ → Option ℕ → Type 0
GivesOnlyFront P text None = HasNoFrontOf P text
GivesOnlyFront P text (Some n) = IsFrontOf P text n × ((other : ℕ) → IsFrontOf P text other → other ≡ n)

-- the first n bytes are such a text, and no more are; where fewer are, only octal digits follow these up to there
pub record IsLongestFront (P : List ℕ → Type 0) (text : List ℕ) (n : ℕ) : Type 0 where
  pub front : IsFrontOf P text n
  pub longest : (other : ℕ) → IsFrontOf P text other → other ≤ n
  pub digits : (other : ℕ) → IsFrontOf P text other → AllPass is_octal_digit (drop other (take n text))

-- the longest such front, and `None` exactly where there is none
abbrev pub GivesLongestFront : (List ℕ → Type 0) → List ℕ → Option ℕ → Type 0
GivesLongestFront P text None = HasNoFrontOf P text
GivesLongestFront P text (Some n) = IsLongestFront P text n

-- what a hexadecimal digit stands for
abbrev pub hex_value : ℕ → Option ℕ
hex_value byte = if is_hex_digit byte then Some (digit_value byte) else None

-- the code that the first four bytes stand for, where they are hexadecimal digits
abbrev pub hex_code : List ℕ → Option ℕ
hex_code [] = None
hex_code (a ∷ []) = None
hex_code (a ∷ b ∷ []) = None
hex_code (a ∷ b ∷ c ∷ []) = None
hex_code (a ∷ b ∷ c ∷ d ∷ rest) = if list_all is_hex_digit (a ∷ b ∷ c ∷ d ∷ []) then Some (code_of a b c d) else None

-- how many octal digits an escape may have, by the first of them
abbrev pub most_octal_digits : List ℕ → ℕ
most_octal_digits [] = 2
most_octal_digits (first ∷ rest) = if nat_le first 51 then 3 else 2
