-- The readers of statements in braces, and of the parts that several forms of statement have.
use Rattle.std.specs.Prelude.{List, Option, Some, None, if◌then◌else◌}
use Rattle.rf_jtree.specs.declared.tokens.Tok.{Tok}
use Rattle.rf_jtree.specs.declared.words.Kw.{Kw}
use Rattle.rf_jtree.specs.declared.operator_names.TheConstants.{LEFT_PAREN, RIGHT_PAREN, LEFT_BRACE, RIGHT_BRACE, SEMICOLON, COLON, COMMA}
use Rattle.rf_jtree.specs.declared.keyword_names.TheConstants.{CATCH, FINAL}
use Rattle.rf_jtree.specs.ExprTrees.{ExprTree, ExprsTree, NoExprs}
use Rattle.rf_jtree.specs.NameTrees.{NameTree, ModTree, TypeUseTree}
use Rattle.rf_jtree.specs.StmtShown.{stmts_tree}
use Rattle.rf_jtree.specs.StmtTrees.{ForFirstTree, StmtTree, BlockTree, Braces, StmtsTree}
use Rattle.rf_jexpr.specs.NameReads.{name}
use Rattle.rf_jmake.specs.ExprMade.{exprs_of}
use Rattle.rf_jexpr.specs.PartReads.{Parsers}
use Rattle.rf_jexpr.specs.Reads.{Reads, ◌>>=◌, when, is_op, is_key, is_ident, begins, token, optional, many, separated}
use Rattle.rf_jexpr.specs.Stops.{begins_expr}
use Rattle.rf_jstmt.specs.StmtTests.{are_statement_exprs}

-- For one room, the statement that stands there and is no deeper than it: any one but a local declaration, and any one
-- that may stand among statements.
pub record StmtParsers : Type 0 where
  pub stmt : Reads StmtTree
  pub block_stmt : Reads StmtTree

-- In what follows `p` and `s` have the room that is left for parts.

-- statements, as many as stand there
unfoldable pub stmts : StmtParsers → Reads StmtsTree
stmts s toks = many s.block_stmt toks >>= λ list. Some (stmts_tree list.0, list.1)

-- statements in braces (JLS 14.2)
unfoldable pub block : StmtParsers → Reads BlockTree
block s toks = do
  left ← token (is_op LEFT_BRACE) toks
  list ← stmts s left.1
  right ← token (is_op RIGHT_BRACE) list.1
  Some (Braces left.0 list.0 right.0, right.1)

-- a keyword with an expression in parentheses behind it
pub record Head : Type 0 where
  pub word : Tok
  pub left : Tok
  pub expression : ExprTree
  pub right : Tok

unfoldable pub head : Parsers → Kw → Reads Head
head p key toks = do
  word ← token (is_key key) toks
  left ← token (is_op LEFT_PAREN) word.1
  expression ← p.expr left.1
  right ← token (is_op RIGHT_PAREN) expression.1
  Some (record { word = word.0; left = left.0; expression = expression.0; right = right.0 }, right.1)

-- an expression where one begins
unfoldable pub optional_expr : Parsers → Reads (Option ExprTree)
optional_expr p toks = if begins begins_expr toks then (p.expr toks >>= λ expression. Some (Some expression.0, expression.1)) else Some (None, toks)

-- expressions that stand as statements, where one begins (JLS 14.14.1)
unfoldable pub some_exprs : Parsers → Reads ExprsTree
some_exprs p toks = do
  list ← separated COMMA p.expr toks
  when (are_statement_exprs (exprs_of (Some list.0))) (Some (exprs_of (Some list.0), list.1))

unfoldable pub statement_exprs : Parsers → Reads ExprsTree
statement_exprs p toks = if begins begins_expr toks then some_exprs p toks else Some (NoExprs, toks)

-- a basic `for` up to its body, read from behind its first part (JLS 14.14.1)
pub record ForHead : Type 0 where
  pub word : Tok
  pub left : Tok
  pub first : ForFirstTree
  pub semi1 : Tok
  pub test : Option ExprTree
  pub semi2 : Tok
  pub last : ExprsTree
  pub right : Tok

-- what of it stands behind its first part
pub record ForRest : Type 0 where
  pub semi1 : Tok
  pub test : Option ExprTree
  pub semi2 : Tok
  pub last : ExprsTree
  pub right : Tok

unfoldable pub for_rest : Parsers → Reads ForRest
for_rest p toks = do
  semi1 ← token (is_op SEMICOLON) toks
  test ← optional_expr p semi1.1
  semi2 ← token (is_op SEMICOLON) test.1
  last ← statement_exprs p semi2.1
  right ← token (is_op RIGHT_PAREN) last.1
  Some (record { semi1 = semi1.0; test = test.0; semi2 = semi2.0; last = last.0; right = right.0 }, right.1)

unfoldable pub for_head : Parsers → Tok → Tok → ForFirstTree → Reads ForHead
for_head p word left first toks = do
  rest ← for_rest p toks
  Some (record { word = word; left = left; first = first; semi1 = rest.0.semi1; test = rest.0.test; semi2 = rest.0.semi2; last = rest.0.last; right = rest.0.right }, rest.1)

-- a `for` over what an expression gives, up to its body, read from behind its type (JLS 14.14.2)
pub record EachHead : Type 0 where
  pub word : Tok
  pub left : Tok
  pub mods : List ModTree
  pub used_type : TypeUseTree
  pub id : Tok
  pub colon : Tok
  pub over : ExprTree
  pub right : Tok

-- what of it stands behind its type
pub record EachRest : Type 0 where
  pub id : Tok
  pub colon : Tok
  pub over : ExprTree
  pub right : Tok

unfoldable pub each_rest : Parsers → Reads EachRest
each_rest p toks = do
  id ← token is_ident toks
  colon ← token (is_op COLON) id.1
  over ← p.expr colon.1
  right ← token (is_op RIGHT_PAREN) over.1
  Some (record { id = id.0; colon = colon.0; over = over.0; right = right.0 }, right.1)

unfoldable pub each_head : Parsers → Tok → Tok → List ModTree → TypeUseTree → Reads EachHead
each_head p word left mods used_type toks = do
  rest ← each_rest p toks
  Some (record { word = word; left = left; mods = mods; used_type = used_type; id = rest.0.id; colon = rest.0.colon; over = rest.0.over; right = rest.0.right }, rest.1)

-- a catch clause up to its block (JLS 14.20)
pub record CatchHead : Type 0 where
  pub word : Tok
  pub left : Tok
  pub fixed : Option Tok
  pub used_type : NameTree
  pub id : Tok
  pub right : Tok

unfoldable pub catch_head : Reads CatchHead
catch_head toks = do
  word ← token (is_key CATCH) toks
  left ← token (is_op LEFT_PAREN) word.1
  fixed ← optional (token (is_key FINAL)) left.1
  used_type ← name fixed.1
  id ← token is_ident used_type.1
  right ← token (is_op RIGHT_PAREN) id.1
  Some (record { word = word.0; left = left.0; fixed = fixed.0; used_type = used_type.0; id = id.0; right = right.0 }, right.1)
