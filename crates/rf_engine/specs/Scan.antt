-- A text cut in two: a front of it that was read, and the rest.
use Rattle.std.specs.Prelude.{◌≡◌, ℕ, Bool, false, ◌&&◌, not, List, [], ◌∷◌, ◌++◌, take, drop, length, Option, Some, None, is_none, if◌then◌else◌}
use Rattle.std.specs.List.{AllPass, list_all, list_any}
use Rattle.std.specs.Str.{bytes_eq}
use Rattle.rf_jtree.specs.Words.{keyword_of}
use Rattle.rf_engine.specs.Words.{is_letter, is_letter_or_digit, LITERAL_WORDS, IsName}

-- the text is empty, or its first byte fails the test
abbrev pub Stops : (ℕ → Bool) → List ℕ → Type 0
Stops test [] = Unit {0}
Stops test (byte ∷ bytes) = test byte ≡ false

-- the front is the longest one whose bytes pass the test
pub record IsLongestFront (test : ℕ → Bool) (text front rest : List ℕ) : Type 0 where
  pub whole : text ≡ front ++ rest
  pub passes : AllPass test front
  pub stops : Stops test rest

-- the text begins with a name, which no letter or digit follows
pub record BeginsWithName (text name rest : List ℕ) : Type 0 where
  pub whole : text ≡ name ++ rest
  pub is_name : IsName name
  pub stops : Stops is_letter_or_digit rest

-- the longest front whose bytes pass the test, and the rest
unfoldable pub front_of : (ℕ → Bool) → List ℕ → List ℕ × List ℕ
front_of test [] = ([], [])
front_of test (byte ∷ bytes) =
    if test byte then (byte ∷ (front_of test bytes).0, (front_of test bytes).1) else ([], byte ∷ bytes)

abbrev pub begins_with_letter : List ℕ → Bool
begins_with_letter [] = false
begins_with_letter (byte ∷ bytes) = is_letter byte

-- the test of `IsName`
unfoldable pub is_name : List ℕ → Bool
is_name text = begins_with_letter text && list_all is_letter_or_digit text && is_none (keyword_of text) && not (list_any (bytes_eq text) LITERAL_WORDS)

-- the name that the text begins with, and the rest
unfoldable pub name_of : List ℕ → Option (List ℕ × List ℕ)
name_of text = if is_name (front_of is_letter_or_digit text).0 then Some (front_of is_letter_or_digit text) else None

-- what follows a word in a text that begins with it
unfoldable pub after_word : List ℕ → List ℕ → Option (List ℕ)
after_word word text = if bytes_eq (take (length word) text) word then Some (drop (length word) text) else None
