-- What a token is, by its kind alone: one of the separators, operators and keywords by name, an identifier, or a literal.
use Rattle.std.specs.Prelude.{◌≡◌, ◌==◌, List, Bool, true, false}
use Rattle.std.specs.List.{list_any}
use Rattle.rf_jtree.specs.declared.operators.Op.{Op}
use Rattle.rf_jtree.specs.declared.tokens.Tok.{Tok}
use Rattle.rf_jtree.specs.declared.tokens.TokKind.{TokKind}
use Rattle.rf_jtree.specs.declared.tokens.TokKind.TheVariants as kind
use Rattle.rf_jtree.specs.declared.words.Kw.{Kw}
use Rattle.rf_jtree.specs.declared.operator_names.TheConstants.{LEFT_PAREN, RIGHT_PAREN, LEFT_BRACE, RIGHT_BRACE, LEFT_BRACKET, RIGHT_BRACKET}

-- this separator or operator
abbrev pub IsOp : Op → Tok → Type 0
IsOp op tok = tok.kind ≡ kind.Op op

-- this keyword
abbrev pub IsKey : Kw → Tok → Type 0
IsKey word tok = tok.kind ≡ kind.Key word

-- an identifier (JLS 3.8)
abbrev pub IsIdent : Tok → Type 0
IsIdent tok = tok.kind ≡ kind.Ident

-- a string (JLS 3.10.5)
abbrev pub IsStr : Tok → Type 0
IsStr tok = tok.kind ≡ kind.Str

-- a pair of parentheses, brackets or braces
abbrev pub AreParens : Tok → Tok → Type 0
AreParens left right = IsOp LEFT_PAREN left × IsOp RIGHT_PAREN right

abbrev pub AreBrackets : Tok → Tok → Type 0
AreBrackets left right = IsOp LEFT_BRACKET left × IsOp RIGHT_BRACKET right

abbrev pub AreBraces : Tok → Tok → Type 0
AreBraces left right = IsOp LEFT_BRACE left × IsOp RIGHT_BRACE right

-- one of these separators and operators
abbrev pub has_op : List Op → Op → Bool
has_op ops op = list_any (λ other. other.0 == op.0) ops

abbrev is_op_kind : List Op → TokKind → Bool
is_op_kind ops (kind.Op op) = has_op ops op
is_op_kind ops kind = false

abbrev pub is_op_of : List Op → Tok → Bool
is_op_of ops tok = is_op_kind ops tok.kind

-- one of these keywords
abbrev pub has_key : List Kw → Kw → Bool
has_key words word = list_any (λ other. other.0 == word.0) words

abbrev is_key_kind : List Kw → TokKind → Bool
is_key_kind words (kind.Key word) = has_key words word
is_key_kind words kind = false

abbrev pub is_key_of : List Kw → Tok → Bool
is_key_of words tok = is_key_kind words tok.kind

-- a literal (JLS 3.10)
abbrev is_literal_kind : TokKind → Bool
is_literal_kind kind.Ident = false
is_literal_kind (kind.Key word) = false
is_literal_kind kind.Int = true
is_literal_kind kind.Long = true
is_literal_kind kind.Float = true
is_literal_kind kind.Double = true
is_literal_kind kind.Char = true
is_literal_kind kind.Str = true
is_literal_kind kind.True = true
is_literal_kind kind.False = true
is_literal_kind kind.Null = true
is_literal_kind (kind.Op op) = false

abbrev pub is_literal : Tok → Bool
is_literal tok = is_literal_kind tok.kind
