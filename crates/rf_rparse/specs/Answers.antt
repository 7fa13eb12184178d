-- What the reader answers.
use Rattle.std.specs.Prelude.{◌≡◌, ◌==◌, ◌+◌, ℕ, List, [], ◌∷◌, map, Option, Some, None, slice_get, if◌then◌else◌, Result, Ok, Err}
use Rattle.std.specs.Str.{IsUtf8}
use Rattle.rf_rlex.specs.declared.tokens.Placed.{Placed}
use Rattle.rf_rlex.specs.Lexed.{tokens_of}
use Rattle.rf_rtree.specs.declared.items.RuleProg.{RuleProg}
use Rattle.rf_rtree.specs.Readings.{Reading, IsFault}
use Rattle.rf_rtree.specs.Tokens.{Tok}
use Rattle.rf_rparse.specs.declared.reader.Answer.{Answer}
use Rattle.rf_rparse.specs.declared.reader.Answer.TheVariants.{Program, Fault}
use Rattle.rf_rparse.specs.declared.reader.RuleErr.{RuleErr}
use Rattle.rf_rparse.specs.declared.reader.RuleErr.TheVariants.{Syntax, Memory}
use Rattle.rf_rparse.specs.Words.{shown}

-- the one program that the tokens read to, or the place of the first one that can't go on
abbrev pub IsAnswer : List Tok → Answer → Type 0
IsAnswer toks (Program prog) = Reading toks prog
IsAnswer toks (Fault at) = IsFault toks at

-- one more than the number of line feeds
abbrev pub last_line : List ℕ → ℕ
last_line [] = 1
last_line (byte ∷ bytes) = if byte == 10 then last_line bytes + 1 else last_line bytes

abbrev pub line_or : Option Placed → ℕ → ℕ
line_or (Some tok) last = tok.line
line_or None last = last

-- the line of the token at a place; where there is none, the last line
abbrev pub line_of : List Placed → ℕ → List ℕ → ℕ
line_of toks at bytes = line_or (slice_get toks at) (last_line bytes)

-- the tokens of a file as the grammar has them
abbrev pub words_of : List ℕ → List Tok
words_of bytes = map shown (tokens_of bytes)

-- a file that isn't UTF-8 has no reading
abbrev pub Reads : List ℕ → RuleProg → Type 0
Reads bytes prog = IsUtf8 bytes × Reading (words_of bytes) prog

-- the place of the first token that can't go on is on the line
abbrev pub IsFaultOn : List ℕ → ℕ → Type 0
IsFaultOn bytes line = (at : ℕ) × IsFault (words_of bytes) at × (line ≡ line_of (tokens_of bytes) at bytes)

-- the line that is told of a file without a reading: the first where it isn't UTF-8
pub record IsSyntax (bytes : List ℕ) (line : ℕ) : Type 0 where
  pub unread : (prog : RuleProg) → Reads bytes prog → ⊥
  pub no_text : (IsUtf8 bytes → ⊥) → line ≡ 1
  pub text : IsUtf8 bytes → IsFaultOn bytes line

abbrev pub IsParsed : List ℕ → Result RuleProg RuleErr → Type 0
IsParsed bytes (Ok prog) = Reads bytes prog
IsParsed bytes (Err (Syntax line)) = IsSyntax bytes line
IsParsed bytes (Err Memory) = Unit {0}
