-- What the scans of a comment look for.
use Rattle.std.specs.Prelude.{◌≡◌, ℕ, ◌+◌, ◌≤◌, List, ◌∷◌, length, Option, Some, None, not, slice_index}
use Rattle.std.specs.List.{take_while}
use Rattle.std.specs.Str.{IsUtf8}
use Rattle.rf_jtree.specs.Trivia.{is_line_end, REFUSED_IN_COMMENTS, BeginsWithEscape, EscapesAreAllowed}

-- how many bytes stand before the end of the line
abbrev pub line_length : List ℕ → ℕ
line_length text = length (take_while (λ byte. not (is_line_end byte)) text)

-- `*/` stands at this byte
pub record EndsAt (body : List ℕ) (at : ℕ) : Type 0 where
  pub star : slice_index body at ≡ 42
  pub slash : slice_index body (at + 1) ≡ 47

-- the first `*/` stands at this byte, and `None` exactly where there is none
abbrev pub GivesFirstEnd : List ℕ → Option ℕ → Type 0
GivesFirstEnd body None = (at : ℕ) → EndsAt body at → ⊥
GivesFirstEnd body (Some at) = EndsAt body at × ((other : ℕ) → EndsAt body other → at ≤ other)

-- where the text begins with `\u`, it begins with an escape that may stand in a comment
abbrev pub AllowsEscape : List ℕ → Type 0
AllowsEscape text = (rest : List ℕ) → text ≡ 92 ∷ 117 ∷ rest → BeginsWithEscape REFUSED_IN_COMMENTS text

-- the bytes may be those of a comment
pub record IsReadable (comment : List ℕ) : Type 0 where
  pub is_utf8 : IsUtf8 comment
  pub escapes : EscapesAreAllowed comment
