-- Character and string literals (JLS 3.10.4, 3.10.5).
use Rattle.std.specs.Prelude.{◌≡◌, ℕ, ◌<◌, List, [], ◌∷◌, ◌++◌, ◌⊎◌, All, Contains, encode_utf8}
use Rattle.std.specs.Char.{IsScalar}
use Rattle.std.specs.List.{flat_map}
use Rattle.std.specs.Str.{IsUtf8}
use Rattle.rf_jtree.specs.Escapes.{IsEscape}

-- the codes that no escape of a literal may have: LF, CR, `"`, `'` and `\`, since an escape stands for the character
-- before the literal is looked at (JLS 3.3)
abbrev pub REFUSED_IN_LITERALS : List ℕ
REFUSED_IN_LITERALS = 0x000A ∷ 0x000D ∷ 0x0022 ∷ 0x0027 ∷ 0x005C ∷ []

-- what does not stand for itself between `'` and `'`, and between `"` and `"`
abbrev pub NOT_IN_CHARACTERS : List ℕ
NOT_IN_CHARACTERS = 39 ∷ 92 ∷ 13 ∷ 10 ∷ []

abbrev pub NOT_IN_STRINGS : List ℕ
NOT_IN_STRINGS = 34 ∷ 92 ∷ 13 ∷ 10 ∷ []

-- one character that takes one unit of sixteen bits
pub record IsCharacterUnit (text : List ℕ) : Type 0 where
  pub character : ℕ
  pub is_scalar : IsScalar character
  pub small : character < 0x10000
  pub plain : ¬ Contains NOT_IN_CHARACTERS character
  pub parts : text ≡ encode_utf8 character

-- a character literal: one such character or one escape between `'` and `'`
pub record IsCharacter (text : List ℕ) : Type 0 where
  pub unit : List ℕ
  pub parts : text ≡ 39 ∷ (unit ++ 39 ∷ [])
  pub is_unit : IsCharacterUnit unit ⊎ IsEscape REFUSED_IN_LITERALS unit

-- one byte that stands for itself, or an escape
abbrev pub IsStringUnit : List ℕ → Type 0
IsStringUnit unit = ((byte : ℕ) × (unit ≡ byte ∷ []) × (¬ Contains NOT_IN_STRINGS byte)) ⊎ IsEscape REFUSED_IN_LITERALS unit

-- a string literal: any number of these between `"` and `"`, and UTF-8 as a whole. (The bytes of a character outside
-- ASCII stand for themselves, one by one, since none of them is below 128.)
pub record IsString (text : List ℕ) : Type 0 where
  pub units : List (List ℕ)
  pub parts : text ≡ 34 ∷ (flat_map (λ unit. unit) units ++ 34 ∷ [])
  pub are_units : All IsStringUnit units
  pub is_utf8 : IsUtf8 text
