-- White space and comments (JLS 3.3, 3.6, 3.7).
use Rattle.std.specs.Prelude.{◌≡◌, ℕ, ◌%◌, Bool, not, ◌||◌, ◌==◌, List, [], ◌∷◌, ◌++◌, Contains, codes}
use Rattle.std.specs.List.{AllPass, suffix_len}
use Rattle.std.specs.Str.{IsUtf8}
use Rattle.rf_jtree.specs.Escapes.{IsUnicodeEscape}

-- space, tab, form feed, CR and LF, one at a time (JLS 3.6)
abbrev pub WHITE_SPACE : List ℕ
WHITE_SPACE = 32 ∷ 9 ∷ 12 ∷ 13 ∷ 10 ∷ []

pub record IsWhiteSpace (text : List ℕ) : Type 0 where
  pub byte : ℕ
  pub parts : text ≡ byte ∷ []
  pub is_white : Contains WHITE_SPACE byte

-- the end of a line: CR or LF (JLS 3.4)
abbrev pub is_line_end : ℕ → Bool
is_line_end byte = (byte == 13) || (byte == 10)

-- the codes that no escape of a comment may have: LF, CR, `*` and `/`, since an escape stands for the character
-- before the comment is looked at (JLS 3.3)
abbrev pub REFUSED_IN_COMMENTS : List ℕ
REFUSED_IN_COMMENTS = 0x000A ∷ 0x000D ∷ 0x002A ∷ 0x002F ∷ []

-- how many backslashes stand at the end
abbrev pub trailing_backslashes : List ℕ → ℕ
trailing_backslashes text = suffix_len (λ byte. byte == 92) text

-- an escape begins at the front of the text
pub record BeginsWithEscape (refused text : List ℕ) : Type 0 where
  pub escape : List ℕ
  pub rest : List ℕ
  pub parts : text ≡ escape ++ rest
  pub is_escape : IsUnicodeEscape refused escape

-- a backslash before `u` that an even number of backslashes stands before begins an escape (JLS 3.3)
abbrev pub EscapesAreAllowed : List ℕ → Type 0
EscapesAreAllowed text = (front rest : List ℕ) → text ≡ front ++ (92 ∷ 117 ∷ rest) → trailing_backslashes front % 2 ≡ 0 → BeginsWithEscape REFUSED_IN_COMMENTS (92 ∷ 117 ∷ rest)

-- `//` and what follows on the line (JLS 3.7)
pub record IsLineComment (text : List ℕ) : Type 0 where
  pub body : List ℕ
  pub parts : text ≡ codes "//" ++ body
  pub one_line : AllPass (λ byte. not (is_line_end byte)) body
  pub is_utf8 : IsUtf8 text
  pub escapes : EscapesAreAllowed text

-- `/*` up to the next `*/` (JLS 3.7)
pub record IsBlockComment (text : List ℕ) : Type 0 where
  pub body : List ℕ
  pub parts : text ≡ codes "/*" ++ (body ++ codes "*/")
  pub next_end : (front rest : List ℕ) → body ++ codes "*/" ≡ front ++ (codes "*/" ++ rest) → rest ≡ []
  pub is_utf8 : IsUtf8 text
  pub escapes : EscapesAreAllowed text
