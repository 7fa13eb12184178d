-- The tokens of a rule file.
use Rattle.std.specs.Prelude.{ℕ, zero, suc, ◌+◌, List, [], ◌∷◌, ◌==◌, if◌then◌else◌}
use Rattle.rf_rlex.specs.declared.fronts.Front.{Front}
use Rattle.rf_rlex.specs.declared.fronts.Front.TheVariants.{Skip, Token, Nothing}
use Rattle.rf_rlex.specs.declared.tokens.Placed.{Placed}
use Rattle.rf_rlex.specs.declared.tokens.Tok.{Tok}
use Rattle.rf_rlex.specs.declared.tokens.Tok.TheVariants.{Bad}
use Rattle.rf_rlex.specs.Fronts.{front}

abbrev pub placed : Tok → ℕ → Placed
placed tok line = record { tok = tok; line = line }

-- a line feed ends a line; none stands inside a comment, a word, a text or a sign
abbrev pub line_behind : ℕ → ℕ → ℕ
line_behind line byte = if byte == 10 then line + 1 else line

-- the tokens where a piece begins with a byte on a line; `behind` has those behind so many further bytes
abbrev pub begun : Front → ℕ → ℕ → (ℕ → ℕ → List Placed) → List Placed
begun (Skip n) byte line behind = behind n (line_behind line byte)
begun (Token tok n) byte line behind = placed tok line ∷ behind n line
begun Nothing byte line behind = placed Bad line ∷ []

-- the tokens of a text of which the first n bytes belong to a piece that is under way
abbrev pub tokens_from : List ℕ → ℕ → ℕ → List Placed
tokens_from [] n line = []
tokens_from (byte ∷ bytes) (suc n) line = tokens_from bytes n line
tokens_from (byte ∷ bytes) zero line =
    begun (front (byte ∷ bytes)) byte line (tokens_from bytes)

-- the tokens of a rule file, up to the first place at which none begins
unfoldable pub tokens_of : List ℕ → List Placed
tokens_of bytes = tokens_from bytes 0 1
