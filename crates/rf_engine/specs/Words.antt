-- The words and the blanks of the first form, in ASCII.
use Rattle.std.specs.Prelude.{◌≡◌, ℕ, Bool, true, ◌||◌, ◌&&◌, ◌==◌, nat_le, List, [], ◌∷◌, None, Contains, codes}
use Rattle.std.specs.List.{AllPass}
use Rattle.rf_jtree.specs.Words.{keyword_of}

-- a blank: a space or a line feed (JLS 3.4, 3.6)
abbrev pub is_blank : ℕ → Bool
is_blank byte = (byte == 32) || (byte == 10)

abbrev pub AreBlanks : List ℕ → Type 0
AreBlanks text = AllPass is_blank text

-- a letter of Java: a to z, A to Z, `_` or `$` (JLS 3.8)
abbrev pub is_letter : ℕ → Bool
is_letter byte = (nat_le 97 byte && nat_le byte 122) || (nat_le 65 byte && nat_le byte 90) || (byte == 95) || (byte == 36)

-- a letter of Java or a digit (JLS 3.8)
abbrev pub is_letter_or_digit : ℕ → Bool
is_letter_or_digit byte = is_letter byte || (nat_le 48 byte && nat_le byte 57)

-- the words for the values of boolean and of the null type, which are no identifiers (JLS 3.10.3, 3.10.7)
abbrev pub LITERAL_WORDS : List (List ℕ)
LITERAL_WORDS = codes "true" ∷ codes "false" ∷ codes "null" ∷ []

-- begins with a letter of Java
abbrev pub BeginsWithLetter : List ℕ → Type 0
BeginsWithLetter [] = ⊥
BeginsWithLetter (byte ∷ bytes) = is_letter byte ≡ true

-- an identifier (JLS 3.8): letters and digits, the first of them a letter, that are no keyword and no literal
pub record IsName (text : List ℕ) : Type 0 where
  pub begins : BeginsWithLetter text
  pub goes_on : AllPass is_letter_or_digit text
  pub no_keyword : keyword_of text ≡ None
  pub no_literal : ¬ Contains LITERAL_WORDS text
