-- The parts of character and string literals at the front of a text.
use Rattle.std.specs.Prelude.{◌≡◌, ℕ, ◌-◌, ◌<◌, ◌≤◌, List, ◌⊎◌, All, Contains, Option, Some, None, drop, slice_index}
use Rattle.std.specs.List.{flat_map}
use Rattle.rf_jtree.specs.Escapes.{IsEscape}
use Rattle.rf_jtree.specs.Quoted.{REFUSED_IN_LITERALS, NOT_IN_CHARACTERS, IsCharacterUnit, IsStringUnit}
use Rattle.rf_jlex.specs.EscapeFronts.{IsFrontOf}

-- the character stands for itself in a character literal, and takes one unit of sixteen bits
pub record IsPlain (character : ℕ) : Type 0 where
  pub plain : ¬ Contains NOT_IN_CHARACTERS character
  pub small : character < 0x10000

-- what stands between the quotes of a character literal
abbrev pub IsCharacterBody : List ℕ → Type 0
IsCharacterBody text = IsCharacterUnit text ⊎ IsEscape REFUSED_IN_LITERALS text

-- what stands between the quotes of a string literal
pub record IsStringBody (text : List ℕ) : Type 0 where
  pub units : List (List ℕ)
  pub parts : text ≡ flat_map (λ unit. unit) units
  pub are_units : All IsStringUnit units

-- a body at the front of a text, with the quote behind it
pub record IsClosedFront (P : List ℕ → Type 0) (quote : ℕ) (text : List ℕ) (n : ℕ) : Type 0 where
  pub front : IsFrontOf P text n
  pub closed : slice_index text n ≡ quote

-- a front that is such a text, and the only one that may have the quote behind it; `None` only where no front has it
abbrev pub GivesCharacterBody : List ℕ → Option ℕ → Type 0
GivesCharacterBody text None = (n : ℕ) → IsClosedFront IsCharacterBody 39 text n → ⊥
GivesCharacterBody text (Some n) = IsFrontOf IsCharacterBody text n × ((other : ℕ) → IsClosedFront IsCharacterBody 39 text other → other ≡ n)

-- a unit of a string that each closed body there goes on behind; `None` only where a closed body has no unit
pub record IsStringStep (text : List ℕ) (n : ℕ) : Type 0 where
  pub some : 0 < n
  pub front : IsFrontOf IsStringUnit text n
  pub goes_on : (end : ℕ) → IsClosedFront IsStringBody 34 text end → (n ≤ end) × IsClosedFront IsStringBody 34 (drop n text) (end - n)

abbrev pub GivesStringStep : List ℕ → Option ℕ → Type 0
GivesStringStep text None = (end : ℕ) → IsClosedFront IsStringBody 34 text end → end ≡ 0
GivesStringStep text (Some n) = IsStringStep text n

-- a front that is the body of a string, and the only one that may have the quote behind it
pub record IsOnlyStringBody (text : List ℕ) (n : ℕ) : Type 0 where
  pub front : IsFrontOf IsStringBody text n
  pub only : (other : ℕ) → IsClosedFront IsStringBody 34 text other → other ≡ n
