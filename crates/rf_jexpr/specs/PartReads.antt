-- The readers of expressions by the levels at which they bind, all of one room, and with them those of the parts of an
-- expression that stand in brackets of their own.
use Rattle.std.specs.Prelude.{ℕ, Some}
use Rattle.rf_jtree.specs.declared.tokens.Tok.{Tok}
use Rattle.rf_jtree.specs.declared.operator_names.TheConstants.{LEFT_PAREN, RIGHT_PAREN, LEFT_BRACE, RIGHT_BRACE, LEFT_BRACKET, RIGHT_BRACKET, COMMA}
use Rattle.rf_jtree.specs.ExprTrees.{ExprTree, Paren, ArgsTree, Args, InitTree, BracesTree, Braces}
use Rattle.rf_jmake.specs.ExprMade.{exprs_of, inits_of}
use Rattle.rf_jexpr.specs.Reads.{Reads, ◌>>=◌, is_op, token, optional, separated}

-- For one room, the longest expression that is no deeper than it: any one; one that is no assignment; one that binds at
-- this level at least, for a binary operator's operands; the operand of a prefix operator; and what an item begins with.
pub record Parsers : Type 0 where
  pub expr : Reads ExprTree
  pub conditional : Reads ExprTree
  pub binary : ℕ → Reads ExprTree
  pub unary : Reads ExprTree
  pub init : Reads InitTree

-- In what follows `p` has the room that is left for parts.

-- an expression in parentheses (JLS 15.8.5)
unfoldable pub paren : Parsers → Reads ExprTree
paren p toks = do
  left ← token (is_op LEFT_PAREN) toks
  operand ← p.expr left.1
  right ← token (is_op RIGHT_PAREN) operand.1
  Some (Paren left.0 operand.0 right.0, right.1)

-- arguments in parentheses (JLS 15.12)
unfoldable pub args : Parsers → Reads ArgsTree
args p toks = do
  left ← token (is_op LEFT_PAREN) toks
  list ← optional (separated COMMA p.expr) left.1
  right ← token (is_op RIGHT_PAREN) list.1
  Some (Args left.0 (exprs_of list.0) right.0, right.1)

-- an expression in brackets: a size, or an index (JLS 15.10, 15.13)
unfoldable pub sized : Parsers → Reads (Tok × ExprTree × Tok)
sized p toks = do
  left ← token (is_op LEFT_BRACKET) toks
  operand ← p.expr left.1
  right ← token (is_op RIGHT_BRACKET) operand.1
  Some ((left.0, operand.0, right.0), right.1)

-- items in braces, with a comma behind the last one or without (JLS 10.6)
unfoldable pub braces : Parsers → Reads BracesTree
braces p toks = do
  left ← token (is_op LEFT_BRACE) toks
  items ← optional (separated COMMA p.init) left.1
  comma ← optional (token (is_op COMMA)) items.1
  right ← token (is_op RIGHT_BRACE) comma.1
  Some (Braces left.0 (inits_of items.0) comma.0 right.0, right.1)
