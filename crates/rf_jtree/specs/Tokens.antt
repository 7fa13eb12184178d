-- The tokens of a text (JLS 3.2, 3.5): trivia and tokens, each the longest match at its offset.
use Rattle.std.specs.Prelude.{◌≡◌, ℕ, ◌<◌, ◌≤◌, Bool, true, false, ◌||◌, List, [], ◌∷◌, ◌++◌, Some, length, drop, nat_eq, codes}
use Rattle.std.specs.List.{starts_with, flat_map}
use Rattle.rf_jtree.specs.declared.tokens.Tok.{Tok}
use Rattle.rf_jtree.specs.declared.tokens.Toks.{Toks}
use Rattle.rf_jtree.specs.declared.tokens.TokKind.{TokKind}
use Rattle.rf_jtree.specs.declared.tokens.TokKind.TheVariants as kind
use Rattle.rf_jtree.specs.Identifiers.{IsWord, word_kind}
use Rattle.rf_jtree.specs.Numbers.{IsInteger, IsLongInteger, IsFloat, IsDouble}
use Rattle.rf_jtree.specs.Operators.{operator_of}
use Rattle.rf_jtree.specs.Quoted.{IsCharacter, IsString}
use Rattle.rf_jtree.specs.Trivia.{IsWhiteSpace, IsLineComment, IsBlockComment, is_line_end}

-- the sorts of pieces that a text is cut into: three of trivia, and those of tokens
pub data Sort : Type 0 where
  WhiteSpace : Sort
  LineComment : Sort
  BlockComment : Sort
  Token : TokKind → Sort

-- a text is a token of this kind. A word is of the kind that it spells.
abbrev pub IsToken : TokKind → List ℕ → Type 0
IsToken kind.Ident text = IsWord text × (word_kind text ≡ kind.Ident)
IsToken (kind.Key word) text = IsWord text × (word_kind text ≡ kind.Key word)
IsToken kind.True text = IsWord text × (word_kind text ≡ kind.True)
IsToken kind.False text = IsWord text × (word_kind text ≡ kind.False)
IsToken kind.Null text = IsWord text × (word_kind text ≡ kind.Null)
IsToken kind.Int text = IsInteger text
IsToken kind.Long text = IsLongInteger text
IsToken kind.Float text = IsFloat text
IsToken kind.Double text = IsDouble text
IsToken kind.Char text = IsCharacter text
IsToken kind.Str text = IsString text
IsToken (kind.Op op) text = operator_of text ≡ Some op

-- a text is a piece of this sort
abbrev pub IsPiece : Sort → List ℕ → Type 0
IsPiece WhiteSpace text = IsWhiteSpace text
IsPiece LineComment text = IsLineComment text
IsPiece BlockComment text = IsBlockComment text
IsPiece (Token kind) text = IsToken kind text

-- a line comment goes on to the end of its line, which CR, LF or the end of the file is
abbrev pub IsAtLineEnd : List ℕ → Type 0
IsAtLineEnd [] = Unit {0}
IsAtLineEnd (byte ∷ bytes) = is_line_end byte ≡ true

-- `//` and `/*` begin a comment, and nothing else
abbrev pub begins_comment : List ℕ → Bool
begins_comment text = starts_with nat_eq text (codes "//") || starts_with nat_eq text (codes "/*")

-- what a piece asks of what is behind it
abbrev pub MayStand : Sort → List ℕ → List ℕ → Type 0
MayStand WhiteSpace text rest = Unit {0}
MayStand LineComment text rest = IsAtLineEnd rest
MayStand BlockComment text rest = Unit {0}
MayStand (Token kind) text rest = begins_comment (text ++ rest) ≡ false

-- the text begins with a piece of this sort, and goes on with the rest
pub record Matches (text : List ℕ) (sort : Sort) (piece rest : List ℕ) : Type 0 where
  pub parts : text ≡ piece ++ rest
  pub is_piece : IsPiece sort piece
  pub may_stand : MayStand sort piece rest

-- and no piece that the text begins with is longer
pub record IsLongest (text : List ℕ) (sort : Sort) (piece rest : List ℕ) : Type 0 where
  pub matches : Matches text sort piece rest
  pub longest : (other : Sort) (longer more : List ℕ) → Matches text other longer more → length longer ≤ length piece

-- the text begins with no piece
abbrev pub HasNoPiece : List ℕ → Type 0
HasNoPiece text = (sort : Sort) (piece rest : List ℕ) → Matches text sort piece rest → ⊥

-- trivia
abbrev pub is_trivia : Sort → Bool
is_trivia WhiteSpace = true
is_trivia LineComment = true
is_trivia BlockComment = true
is_trivia (Token kind) = false

-- the text begins with these pieces of trivia, which together are the lead, and goes on with the rest
abbrev pub CutsTrivia : List ℕ → List (Sort × List ℕ) → List ℕ → List ℕ → Type 0
CutsTrivia text [] lead rest = (lead ≡ []) × (text ≡ rest)
CutsTrivia text (piece ∷ pieces) lead rest =
    (more after : List ℕ) × (is_trivia piece.0 ≡ true) × IsLongest text piece.0 piece.1 more × CutsTrivia more pieces after rest × (lead ≡ piece.1 ++ after)

pub record Skips (text lead rest : List ℕ) : Type 0 where
  pub pieces : List (Sort × List ℕ)
  pub cut : CutsTrivia text pieces lead rest

-- the text is these tokens, each behind its lead, and then the rest
abbrev pub CutsTokens : List ℕ → List Tok → List ℕ → Type 0
CutsTokens text [] rest = text ≡ rest
CutsTokens text (tok ∷ toks) rest =
    (more after : List ℕ) × Skips text tok.lead more × IsLongest more (Token tok.kind) tok.text after × CutsTokens after toks rest

-- the token list of a text: its tokens, each the longest match behind its lead, and the tail, which is trivia
pub record AreTokens (text : List ℕ) (toks : Toks) : Type 0 where
  pub cut : CutsTokens text toks.list toks.tail
  pub tail : Skips toks.tail toks.tail []

-- the bytes of a token list: each lead and text in order, then the tail
abbrev pub tok_bytes : Tok → List ℕ
tok_bytes tok = tok.lead ++ tok.text

abbrev pub toks_bytes : Toks → List ℕ
toks_bytes toks = flat_map tok_bytes toks.list ++ toks.tail

-- the fault of a text without a token list: the end of the longest front that longest match cuts into whole pieces
pub record IsFault (text : List ℕ) (offset : ℕ) : Type 0 where
  pub toks : List Tok
  pub after : List ℕ
  pub lead : List ℕ
  pub cut : CutsTokens text toks after
  pub skipped : Skips after lead (drop offset text)
  pub none : HasNoPiece (drop offset text)
  pub within : offset < length text
