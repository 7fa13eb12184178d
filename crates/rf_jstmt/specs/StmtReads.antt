-- The readers of statements: those of each room from those of the room below it.
use Rattle.std.specs.Prelude.{ℕ, zero, suc, List, Some, None, Bool, true, false, not, ◌||◌, if◌then◌else◌}
use Rattle.rf_jtree.specs.declared.tokens.Tok.{Tok}
use Rattle.rf_jtree.specs.declared.operator_names.TheConstants.{LEFT_PAREN, LEFT_BRACE, RIGHT_BRACE, SEMICOLON, COLON}
use Rattle.rf_jtree.specs.declared.keyword_names.TheConstants.{ASSERT, BREAK, CASE, CONTINUE, DEFAULT, DO, ELSE, FINALLY, FOR, IF, RETURN, SWITCH, SYNCHRONIZED, THROW, TRY, WHILE}
use Rattle.rf_jtree.specs.NameTrees.{ModTree, TypeUseTree}
use Rattle.rf_jtree.specs.StmtFits.{ends_open}
use Rattle.rf_jtree.specs.StmtShown.{groups_tree, catches_tree}
use Rattle.rf_jtree.specs.StmtTrees.{ForFirstTree, StmtTree, Block, Empty, Label, Expression, If, While, Do, For, Each, Switch, Jump, Return, Throw, Sync, Assert, Try}
use Rattle.rf_jtree.specs.StmtTrees.{OtherTree, NoOther, Other, GroupTree, Group, CatchTree, Catch, CatchesTree, NoCatches, Catches, LastTree, NoLast, Last}
use Rattle.rf_jexpr.specs.Descent.{parsers}
use Rattle.rf_jexpr.specs.NameReads.{type_use}
use Rattle.rf_jexpr.specs.PartReads.{Parsers}
use Rattle.rf_jexpr.specs.Reads.{Reads, ◌>>=◌, when, is_op, is_key, is_ident, begins, token, optional, many, behind}
use Rattle.rf_jexpr.specs.Stops.{begins_expr}
use Rattle.rf_jstmt.specs.StmtParts.{StmtParsers, stmts, block, head, statement_exprs, optional_expr, for_head, each_head, catch_head}
use Rattle.rf_jstmt.specs.StmtTests.{is_statement_expr}
use Rattle.rf_jmods.specs.ModReads.{variable_mods}
use Rattle.rf_jstmt.specs.VarReads.{local_vars, local, begins_local, begins_label}

-- In what follows `p` and `s` have the room that is left for parts, and so the statement that is read has one more.

-- ---- without a keyword

unfoldable pub block_alone : StmtParsers → Reads StmtTree
block_alone s toks = block s toks >>= λ braces. Some (Block braces.0, braces.1)

-- `;` (JLS 14.6)
unfoldable pub empty : Reads StmtTree
empty toks = token (is_op SEMICOLON) toks >>= λ semi. Some (Empty semi.0, semi.1)

-- `id: body` (JLS 14.7)
unfoldable pub labeled : StmtParsers → Reads StmtTree
labeled s toks = do
  id ← token is_ident toks
  colon ← token (is_op COLON) id.1
  body ← s.stmt colon.1
  Some (Label id.0 colon.0 body.0, body.1)

-- an expression and `;` (JLS 14.8)
unfoldable pub expression_stmt : Parsers → Reads StmtTree
expression_stmt p toks = do
  found ← p.expr toks
  semi ← when (is_statement_expr found.0) (token (is_op SEMICOLON) found.1)
  Some (Expression found.0 semi.0, semi.1)

-- ---- with one

-- An `else` belongs to the nearest `if` (JLS 14.5, 14.9).
unfoldable pub other_part : StmtParsers → Reads OtherTree
other_part s toks = do
  word ← token (is_key ELSE) toks
  body ← s.stmt word.1
  Some (Other word.0 body.0, body.1)

unfoldable pub other : StmtParsers → StmtTree → Reads OtherTree
other s first toks = if begins (is_key ELSE) toks then when (not (ends_open first)) (other_part s toks) else Some (NoOther, toks)

-- `if (..) first`, with an `else` or without (JLS 14.9)
unfoldable pub if_stmt : Parsers → StmtParsers → Reads StmtTree
if_stmt p s toks = do
  test ← head p IF toks
  first ← s.stmt test.1
  last ← other s first.0 first.1
  Some (If test.0.word test.0.left test.0.expression test.0.right first.0 last.0, last.1)

-- `while (..) body` (JLS 14.12)
unfoldable pub while_stmt : Parsers → StmtParsers → Reads StmtTree
while_stmt p s toks = do
  test ← head p WHILE toks
  body ← s.stmt test.1
  Some (While test.0.word test.0.left test.0.expression test.0.right body.0, body.1)

-- `do body while (..);` (JLS 14.13)
unfoldable pub do_stmt : Parsers → StmtParsers → Reads StmtTree
do_stmt p s toks = do
  word ← token (is_key DO) toks
  body ← s.stmt word.1
  test ← head p WHILE body.1
  semi ← token (is_op SEMICOLON) test.1
  Some (Do word.0 body.0 test.0.word test.0.left test.0.expression test.0.right semi.0, semi.1)

-- `; test; last) body` of a `for` (JLS 14.14.1)
unfoldable pub basic_for : Parsers → StmtParsers → Tok → Tok → ForFirstTree → Reads StmtTree
basic_for p s word left first toks = do
  head ← for_head p word left first toks
  body ← s.stmt head.1
  Some (For head.0.word head.0.left head.0.first head.0.semi1 head.0.test head.0.semi2 head.0.last head.0.right body.0, body.1)

-- `x : over) body` of a `for` (JLS 14.14.2)
unfoldable pub each_for : Parsers → StmtParsers → Tok → Tok → List ModTree → TypeUseTree → Reads StmtTree
each_for p s word left mods used_type toks = do
  head ← each_head p word left mods used_type toks
  body ← s.stmt head.1
  Some (Each head.0.word head.0.left head.0.mods head.0.used_type head.0.id head.0.colon head.0.over head.0.right body.0, body.1)

-- a `for` with a declaration: of one variable before `:`, or of any number
unfoldable pub local_for : Parsers → StmtParsers → Tok → Tok → Reads StmtTree
local_for p s word left toks = do
  mods ← variable_mods toks
  used_type ← type_use mods.1
  if begins_label used_type.1 then each_for p s word left mods.0 used_type.0 used_type.1
      else (local_vars p mods.0 used_type.0 used_type.1 >>= λ vars. basic_for p s word left (ForFirstTree.Local vars.0) vars.1)

unfoldable pub for_stmt : Parsers → StmtParsers → Reads StmtTree
for_stmt p s toks = do
  word ← token (is_key FOR) toks
  left ← token (is_op LEFT_PAREN) word.1
  if begins_local left.1 then local_for p s word.0 left.0 left.1
      else (statement_exprs p left.1 >>= λ first. basic_for p s word.0 left.0 (ForFirstTree.Exprs first.0) first.1)

-- `case value:` or `default:` with the statements up to the next one (JLS 14.11)
unfoldable pub case_group : Parsers → StmtParsers → Reads GroupTree
case_group p s toks = do
  word ← token (is_key CASE) toks
  label ← p.expr word.1
  colon ← token (is_op COLON) label.1
  body ← stmts s colon.1
  Some (Group word.0 (Some label.0) colon.0 body.0, body.1)

unfoldable pub default_group : StmtParsers → Reads GroupTree
default_group s toks = do
  word ← token (is_key DEFAULT) toks
  colon ← token (is_op COLON) word.1
  body ← stmts s colon.1
  Some (Group word.0 None colon.0 body.0, body.1)

unfoldable pub group : Parsers → StmtParsers → Reads GroupTree
group p s toks = if begins (is_key CASE) toks then case_group p s toks else default_group s toks

-- `switch (..) {..}` (JLS 14.11)
unfoldable pub switch_stmt : Parsers → StmtParsers → Reads StmtTree
switch_stmt p s toks = do
  on ← head p SWITCH toks
  brace ← token (is_op LEFT_BRACE) on.1
  groups ← many (group p s) brace.1
  end ← token (is_op RIGHT_BRACE) groups.1
  Some (Switch on.0.word on.0.left on.0.expression on.0.right brace.0 (groups_tree groups.0) end.0, end.1)

-- `break` or `continue`, with a label or without (JLS 14.15, 14.16)
unfoldable pub jumps : Tok → Bool
jumps tok = is_key BREAK tok || is_key CONTINUE tok

unfoldable pub jump : Reads StmtTree
jump toks = do
  word ← token jumps toks
  label ← optional (token is_ident) word.1
  semi ← token (is_op SEMICOLON) label.1
  Some (Jump word.0 label.0 semi.0, semi.1)

-- `return` (JLS 14.17)
unfoldable pub return_stmt : Parsers → Reads StmtTree
return_stmt p toks = do
  word ← token (is_key RETURN) toks
  found ← optional_expr p word.1
  semi ← token (is_op SEMICOLON) found.1
  Some (Return word.0 found.0 semi.0, semi.1)

-- `throw` (JLS 14.18)
unfoldable pub throw_stmt : Parsers → Reads StmtTree
throw_stmt p toks = do
  word ← token (is_key THROW) toks
  found ← p.expr word.1
  semi ← token (is_op SEMICOLON) found.1
  Some (Throw word.0 found.0 semi.0, semi.1)

-- `synchronized (..) {..}` (JLS 14.19)
unfoldable pub sync_stmt : Parsers → StmtParsers → Reads StmtTree
sync_stmt p s toks = do
  on ← head p SYNCHRONIZED toks
  body ← block s on.1
  Some (Sync on.0.word on.0.left on.0.expression on.0.right body.0, body.1)

-- `assert`, with a second expression or without (JLS 14.10)
unfoldable pub assert_stmt : Parsers → Reads StmtTree
assert_stmt p toks = do
  word ← token (is_key ASSERT) toks
  test ← p.expr word.1
  message ← optional (behind (is_op COLON) p.expr) test.1
  semi ← token (is_op SEMICOLON) message.1
  Some (Assert word.0 test.0 message.0 semi.0, semi.1)

-- a catch clause (JLS 14.20)
unfoldable pub catch_part : StmtParsers → Reads CatchTree
catch_part s toks = do
  head ← catch_head toks
  body ← block s head.1
  Some (Catch head.0.word head.0.left head.0.fixed head.0.used_type head.0.id head.0.right body.0, body.1)

-- `finally` and its block, where it stands (JLS 14.20.2)
unfoldable pub last_part : StmtParsers → Reads LastTree
last_part s toks = do
  word ← token (is_key FINALLY) toks
  body ← block s word.1
  Some (Last word.0 body.0, body.1)

unfoldable pub last : StmtParsers → Reads LastTree
last s toks = if begins (is_key FINALLY) toks then last_part s toks else Some (NoLast, toks)

-- a `try` with one of its other parts at least (JLS 14.20)
unfoldable pub has_part : CatchesTree → LastTree → Bool
has_part NoCatches NoLast = false
has_part NoCatches (Last word body) = true
has_part (Catches first rest) last = true

unfoldable pub try_stmt : StmtParsers → Reads StmtTree
try_stmt s toks = do
  word ← token (is_key TRY) toks
  body ← block s word.1
  catches ← many (catch_part s) body.1
  end ← last s catches.1
  when (has_part (catches_tree catches.0) end.0) (Some (Try word.0 body.0 (catches_tree catches.0) end.0, end.1))

-- ---- all of them, by the first token

unfoldable pub by_word : Parsers → StmtParsers → Reads StmtTree
by_word p s toks =
    if begins (is_op LEFT_BRACE) toks then block_alone s toks
    else (if begins (is_op SEMICOLON) toks then empty toks
    else (if begins (is_key IF) toks then if_stmt p s toks
    else (if begins (is_key WHILE) toks then while_stmt p s toks
    else (if begins (is_key DO) toks then do_stmt p s toks
    else (if begins (is_key FOR) toks then for_stmt p s toks
    else (if begins (is_key SWITCH) toks then switch_stmt p s toks
    else (if begins (is_key RETURN) toks then return_stmt p toks
    else (if begins (is_key THROW) toks then throw_stmt p toks
    else (if begins (is_key SYNCHRONIZED) toks then sync_stmt p s toks
    else (if begins (is_key ASSERT) toks then assert_stmt p toks
    else (if begins (is_key TRY) toks then try_stmt s toks
    else jump toks)))))))))))

unfoldable pub stmt : Parsers → StmtParsers → Reads StmtTree
stmt p s toks = if begins begins_expr toks then (if begins_label toks then labeled s toks else expression_stmt p toks) else by_word p s toks

-- a local declaration and `;` (JLS 14.4)
unfoldable pub local_stmt : Parsers → Reads StmtTree
local_stmt p toks = do
  found ← local p toks
  semi ← token (is_op SEMICOLON) found.1
  Some (StmtTree.Local found.0 semi.0, semi.1)

unfoldable pub block_stmt : Parsers → StmtParsers → Reads StmtTree
block_stmt p s toks = if begins_local toks then local_stmt p toks else stmt p s toks

-- those of no room, which read nothing, and those of one more
unfoldable pub no_stmts : StmtParsers
no_stmts = record { stmt = λ toks. None; block_stmt = λ toks. None }

unfoldable pub with_stmt_room : Parsers → StmtParsers → StmtParsers
with_stmt_room p s = record { stmt = stmt p s; block_stmt = block_stmt p s }

unfoldable pub stmt_parsers : ℕ → StmtParsers
stmt_parsers zero = no_stmts
stmt_parsers (suc m) = with_stmt_room (parsers m) (stmt_parsers m)

-- a block that is a statement of its own, no deeper than this
unfoldable pub whole_block : ℕ → Reads StmtTree
whole_block zero toks = None
whole_block (suc m) toks = block_alone (stmt_parsers m) toks
