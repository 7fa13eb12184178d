-- The longest piece at the front of a text.
use Rattle.std.specs.Prelude.{◌≡◌, ℕ, ◌≤◌, List, length, take, drop, Option, Some, None}
use Rattle.rf_jtree.specs.Tokens as tokens
use Rattle.rf_jtree.specs.Tokens.{IsLongest, HasNoPiece}
use Rattle.rf_jtree.specs.declared.tokens.TokKind.TheVariants as kind
use Rattle.rf_jtree.specs.declared.operators.Op.{Op}
use Rattle.rf_jlex.specs.Fronts.{IsFront}
use Rattle.rf_jlex.specs.declared.pieces.Sort.{Sort}
use Rattle.rf_jlex.specs.declared.pieces.Sort.TheVariants.{WhiteSpace, LineComment, BlockComment, Token}
use Rattle.rf_jlex.specs.declared.pieces.Piece.{Piece}

-- what the code's sort stands for
abbrev pub sort_of : Sort → tokens.Sort
sort_of WhiteSpace = tokens.WhiteSpace
sort_of LineComment = tokens.LineComment
sort_of BlockComment = tokens.BlockComment
sort_of (Token kind) = tokens.Token kind

-- the piece that longest match cuts off, and `None` exactly where the text begins with none
abbrev pub GivesPiece : List ℕ → Option Piece → Type 0
GivesPiece text None = HasNoPiece text
GivesPiece text (Some piece) = (piece.length ≤ length text) × IsLongest text (sort_of piece.sort) (take piece.length text) (drop piece.length text)

-- each piece that the text may begin with is a separator or an operator
abbrev pub HasOnlyOperators : List ℕ → Type 0
HasOnlyOperators text = (sort : tokens.Sort) (n : ℕ) → IsFront sort text n → (op : Op) × (sort ≡ tokens.Token (kind.Op op))
