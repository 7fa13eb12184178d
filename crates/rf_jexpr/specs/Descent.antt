-- The readers of whole expressions: those of each room from those of the room below it.
use Rattle.std.specs.Prelude.{ℕ, zero, suc, ◌+◌, nat_le, List, [], ◌∷◌, Some, None, Bool, true, false, ◌&&◌, if◌then◌else◌}
use Rattle.rf_jtree.specs.declared.tokens.Tok.{Tok}
use Rattle.rf_jtree.specs.declared.levels.TheConstants.{OR_OR_LEVEL, COMPARISON_LEVEL}
use Rattle.rf_jtree.specs.declared.operator_names.TheConstants.{LEFT_PAREN, RIGHT_PAREN, LEFT_BRACE, QUESTION, COLON, ASSIGNMENTS, PREFIXES, SUFFIXES}
use Rattle.rf_jtree.specs.declared.keyword_names.TheConstants.{INSTANCEOF}
use Rattle.rf_jtree.specs.ExprFits.{begins_operand}
use Rattle.rf_jtree.specs.ExprTrees.{ExprTree, Assign, Cond, Binary, Instance, Unary, Cast, Postfix, Name, Field, Super, Index, NoArgs, InitTree, Expression, Braced, expr_depth}
use Rattle.rf_jtree.specs.Kinds.{is_op_of}
use Rattle.rf_jtree.specs.Levels.{binary_level, expr_level}
use Rattle.rf_jtree.specs.NameTrees.{TypeBaseTree, Prim, Named, TypeUseTree}
use Rattle.rf_jexpr.specs.NameReads.{type_use}
use Rattle.rf_jexpr.specs.PartReads.{Parsers, braces}
use Rattle.rf_jexpr.specs.PrimaryReads.{primary, creation}
use Rattle.rf_jexpr.specs.Reads.{Reads, ◌>>=◌, or_else, when, is_op, is_key, begins, token, chain}

-- `++` or `--` behind an operand (JLS 15.14)
unfoldable pub step : ℕ → ExprTree → Reads ExprTree
step m operand toks = when (nat_le (expr_depth operand) m) (token (is_op_of SUFFIXES) toks >>= λ op. Some (Postfix operand op.0, op.1))

unfoldable pub postfix : ℕ → Parsers → Reads ExprTree
postfix m p toks = primary m p toks >>= λ operand. chain (step m) (suc m) operand.0 operand.1

-- a prefix operator and its operand (JLS 15.15)
unfoldable pub prefixed : Parsers → Reads ExprTree
prefixed p toks = do
  op ← token (is_op_of PREFIXES) toks
  operand ← p.unary op.1
  Some (Unary op.0 operand.0, operand.1)

-- A type in parentheses is a cast where it is a primitive type without brackets, and else where such an operand follows
-- (JLS 15.16).
unfoldable pub is_primitive : TypeUseTree → Bool
is_primitive used_type = is_bare used_type.base used_type.dims.list
  where
    is_bare : TypeBaseTree → List (Tok × Tok) → Bool
    is_bare (Prim word) [] = true
    is_bare (Prim word) (pair ∷ pairs) = false
    is_bare (Named class) pairs = false

unfoldable pub casts : TypeUseTree → List Tok → Bool
casts used_type toks = if is_primitive used_type then true else begins begins_operand toks

unfoldable pub cast : Parsers → Reads ExprTree
cast p toks = do
  left ← token (is_op LEFT_PAREN) toks
  used_type ← type_use left.1
  right ← token (is_op RIGHT_PAREN) used_type.1
  operand ← when (casts used_type.0 right.1) (p.unary right.1)
  Some (Cast left.0 used_type.0 right.0 operand.0, operand.1)

unfoldable pub unary : ℕ → Parsers → Reads ExprTree
unary m p toks = if begins (is_op_of PREFIXES) toks then prefixed p toks else or_else (cast p toks) (postfix m p toks)

-- a binary operator that takes the expression in hand for its left operand (JLS 15.17 to 15.24)
unfoldable pub takes_left : (least : ℕ) → ExprTree → Tok → Bool
takes_left least left op = nat_le least (binary_level op) && nat_le (binary_level op) (expr_level left)

unfoldable pub operation : Parsers → (least : ℕ) → ExprTree → Reads ExprTree
operation p least left toks = do
  op ← token (takes_left least left) toks
  right ← p.binary (binary_level op.0 + 1) op.1
  Some (Binary left op.0 right.0, right.1)

-- `instanceof` and its type (JLS 15.20.2)
unfoldable pub instance : (least : ℕ) → ExprTree → Reads ExprTree
instance least operand toks = do
  word ← when (nat_le least COMPARISON_LEVEL && nat_le COMPARISON_LEVEL (expr_level operand)) (token (is_key INSTANCEOF) toks)
  used_type ← type_use word.1
  Some (Instance operand word.0 used_type.0, used_type.1)

unfoldable pub operator : ℕ → Parsers → (least : ℕ) → ExprTree → Reads ExprTree
operator m p least left toks =
    when (nat_le (expr_depth left) m) (if begins (is_key INSTANCEOF) toks then instance least left toks else operation p least left toks)

-- binary operators of this level and tighter ones: those of one level group to the left
unfoldable pub binary : ℕ → Parsers → (least : ℕ) → Reads ExprTree
binary m p least toks = unary m p toks >>= λ first. chain (operator m p least) (suc m) first.0 first.1

-- `? then : other` behind a test (JLS 15.25)
unfoldable pub choice : ℕ → Parsers → ExprTree → Reads ExprTree
choice m p test toks = do
  mark ← when (nat_le (expr_depth test) m) (token (is_op QUESTION) toks)
  first ← p.expr mark.1
  colon ← token (is_op COLON) first.1
  other ← p.conditional colon.1
  Some (Cond test mark.0 first.0 colon.0 other.0, other.1)

unfoldable pub conditional : ℕ → Parsers → Reads ExprTree
conditional m p toks = binary m p OR_OR_LEVEL toks >>= λ test. or_else (choice m p test.0 test.1) (Some test)

-- a name, a field or an item of an array (JLS 15.26)
unfoldable pub is_left_side : ExprTree → Bool
is_left_side (Name found) = true
is_left_side (Field operand dot id) = true
is_left_side (Super word dot id NoArgs) = true
is_left_side (Index operand left index right) = true
is_left_side expr = false

-- an assignment operator and its value behind a left side (JLS 15.26)
unfoldable pub assignment : ℕ → Parsers → ExprTree → Reads ExprTree
assignment m p left toks = do
  op ← when (is_left_side left && nat_le (expr_depth left) m) (token (is_op_of ASSIGNMENTS) toks)
  operand ← p.expr op.1
  Some (Assign left op.0 operand.0, operand.1)

unfoldable pub expr : ℕ → Parsers → Reads ExprTree
expr m p toks = conditional m p toks >>= λ left. or_else (assignment m p left.0 left.1) (Some left)

-- what a variable or an item begins with (JLS 8.3, 10.6)
unfoldable pub init : ℕ → Parsers → Reads InitTree
init m p toks =
    if begins (is_op LEFT_BRACE) toks then (braces p toks >>= λ items. Some (Braced items.0, items.1))
    else (expr m p toks >>= λ operand. Some (Expression operand.0, operand.1))

-- those of no room, which read nothing, and those of one more
unfoldable pub nothing : Parsers
nothing = record { expr = λ toks. None; conditional = λ toks. None; binary = λ least toks. None; unary = λ toks. None; init = λ toks. None }

unfoldable pub with_room : ℕ → Parsers → Parsers
with_room m p = record { expr = expr m p; conditional = conditional m p; binary = binary m p; unary = unary m p; init = init m p }

unfoldable pub parsers : ℕ → Parsers
parsers zero = nothing
parsers (suc m) = with_room m (parsers m)

-- a creation no deeper than the room
unfoldable pub creations : ℕ → Reads ExprTree
creations zero toks = None
creations (suc m) toks = creation (parsers m) toks
