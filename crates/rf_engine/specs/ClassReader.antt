-- What the program makes of a text, part by part: each function gives what it has read and the rest, or `None`.
use Rattle.std.specs.Prelude.{◌≡◌, ℕ, List, [], ◌∷◌, ◌++◌, Option, Some, None, option_and_then, All, codes}
use Rattle.std.specs.List.{flat_map}
use Rattle.rf_engine.specs.Words.{is_blank}
use Rattle.rf_engine.specs.Scan.{front_of, name_of, after_word}
use Rattle.rf_engine.specs.ClassFile.{Initializer, Field, IsField, field_bytes}

infixl 10 ◌>>=◌
abbrev pub ◌>>=◌ : {A B : Type 0} → Option A → (A → Option B) → Option B
option >>= next = option_and_then next option

unfoldable pub blanks_of : List ℕ → List ℕ × List ℕ
blanks_of text = front_of is_blank text

-- the blanks before a word, and the rest behind it
unfoldable pub before_word : List ℕ → List ℕ → Option (List ℕ × List ℕ)
before_word word text = do
  rest ← after_word word (blanks_of text).1
  Some ((blanks_of text).0, rest)

abbrev pub unless_empty : List ℕ → List ℕ → Option (List ℕ × List ℕ)
unless_empty [] rest = None
unless_empty (byte ∷ bytes) rest = Some (byte ∷ bytes, rest)

-- at least one blank
unfoldable pub gap_of : List ℕ → Option (List ℕ × List ℕ)
gap_of text = unless_empty (blanks_of text).0 (blanks_of text).1

-- a name with a gap before it: the gap, the name and the rest
unfoldable pub parted_name : List ℕ → Option (List ℕ × List ℕ × List ℕ)
parted_name text = do
  gap ← gap_of text
  name ← name_of gap.1
  Some (gap.0, name.0, name.1)

-- an initializer, where `=` follows
unfoldable pub initializer_behind : List ℕ → Option (List ℕ × List ℕ) → Option (Option Initializer × List ℕ)
initializer_behind text None = Some (None, text)
initializer_behind text (Some equals) = do
  name ← name_of (blanks_of equals.1).1
  Some (Some (record { before = equals.0; gap = (blanks_of equals.1).0; name = name.0 }), name.1)

unfoldable pub initializer_of : List ℕ → Option (Option Initializer × List ℕ)
initializer_of text = initializer_behind text (before_word (codes "=") text)

unfoldable pub field_of : List ℕ → Option (Field × List ℕ)
field_of text = do
  int ← before_word (codes "int") text
  name ← parted_name int.1
  initializer ← initializer_of name.2
  end ← before_word (codes ";") initializer.1
  Some (record { before = int.0; gap = name.0; name = name.1; initializer = initializer.0; after = end.0 }, end.1)

-- as many fields as the text begins with
pub record BeginsWithFields (text : List ℕ) (fields : List Field) (rest : List ℕ) : Type 0 where
  pub whole : text ≡ flat_map field_bytes fields ++ rest
  pub are_fields : All IsField fields
  pub stops : field_of rest ≡ None

-- a class up to its fields: `class`, its name and `{`
pub record Head : Type 0 where
  pub before : List ℕ
  pub gap : List ℕ
  pub name : List ℕ
  pub opening : List ℕ

unfoldable pub head_of : List ℕ → Option (Head × List ℕ)
head_of text = do
  class ← before_word (codes "class") text
  name ← parted_name class.1
  brace ← before_word (codes "{") name.2
  Some (record { before = class.0; gap = name.0; name = name.1; opening = brace.0 }, brace.1)

-- a class from behind its fields: `}`, and blanks up to the end
pub record End : Type 0 where
  pub last_gap : List ℕ
  pub tail : List ℕ

abbrev pub end_before : List ℕ → End → Option End
end_before [] end = Some end
end_before (byte ∷ bytes) end = None

unfoldable pub end_of : List ℕ → Option End
end_of text = do
  brace ← before_word (codes "}") text
  end_before (blanks_of brace.1).1 (record { last_gap = brace.0; tail = (blanks_of brace.1).0 })
