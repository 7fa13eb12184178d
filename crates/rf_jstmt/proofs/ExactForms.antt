-- Statements without lists are read where they stand.
use Rattle.std.proofs.Common.{◌≡◌, ℕ, suc, ◌≤◌, List, ◌∷◌, ◌++◌, Option, Some, None, Bool, true, false, not, IsTrue, IfSome, ◌⊎◌, inl, inr, refl, ◌∙◌, arith, append_assoc}
use Rattle.rf_jtree.specs.declared.tokens.Tok.{Tok}
use Rattle.rf_jtree.specs.declared.levels.TheConstants.{ASSIGNMENT_LEVEL}
use Rattle.rf_jtree.specs.declared.operator_names.TheConstants.{SEMICOLON, COLON}
use Rattle.rf_jtree.specs.declared.keyword_names.TheConstants.{ASSERT, BREAK, CONTINUE, DO, ELSE, IF, RETURN, SYNCHRONIZED, THROW, WHILE}
use Rattle.rf_jtree.specs.ExprTrees.{ExprTree, expr_yield, expr_depth}
use Rattle.rf_jtree.specs.Kinds.{IsOp, IsKey, IsIdent}
use Rattle.rf_jtree.specs.NameTrees.{option_yield, tok_yield, behind_yield, option_depth}
use Rattle.rf_jtree.specs.StmtFits.{EndsOpen, ends_open, IsNearestIf, MessageFits, StmtFits, OtherFits, BlockFits}
use Rattle.rf_jtree.specs.StmtTrees.{StmtTree, Block, Empty, Label, Expression, If, While, Do, Jump, Return, Throw, Sync, Assert, OtherTree, NoOther, Other, BlockTree, stmt_yield, other_yield, block_yield, stmt_depth, other_depth, block_depth}
use Rattle.rf_jexpr.specs.PartReads.{Parsers}
use Rattle.rf_jexpr.specs.Reads.{is_op, is_key, is_ident, begins, token, optional, behind}
use Rattle.rf_jexpr.proofs.LoopLemmas.{behind-exact}
use Rattle.rf_jexpr.specs.Stops.{Stops}
use Rattle.rf_jexpr.proofs.SoundParts.{Good}
use Rattle.rf_jexpr.proofs.StopLemmas.{stops_colon, stops_semicolon}
use Rattle.rf_jexpr.proofs.Tools.{bind-Some, bind-None, if-true, if-false, when-true, token-at, token-other, optional-Some, optional-None, IsOp-is_op, IsKey-is_key, IsIdent-is_ident}
use Rattle.rf_jstmt.specs.StmtParts.{StmtParsers}
use Rattle.rf_jstmt.specs.StmtReads.{block_alone, empty, labeled, expression_stmt, other_part, other, if_stmt, while_stmt, do_stmt, jumps, jump, return_stmt, throw_stmt, sync_stmt, assert_stmt, stmt}
use Rattle.rf_jstmt.specs.StmtStops.{goes_on, other_goes_on, Over, may_go_on}
use Rattle.rf_jstmt.specs.StmtTests.{is_statement_expr}
use Rattle.rf_jstmt.proofs.Dispatch.{to_empty, to_label, to_expression, to_if, to_while, to_do, to_break, to_continue, to_return, to_throw, to_sync, to_assert}
use Rattle.rf_jstmt.proofs.ExactParts.{AreExactStmts, block-exact, expr-exact, head-exact, semi_ends_expr, optional_expr-exact}
use Rattle.rf_jstmt.proofs.ExactVars.{AreExact, is_label}
use Rattle.rf_jstmt.proofs.Over.{over_calm, over_else, begins_neither}
use Rattle.rf_jstmt.proofs.SoundForms.{GoodMessage}
use Rattle.rf_jmods.proofs.ModTestLemmas.{first_true, second_true}
use Rattle.rf_jstmt.proofs.TestLemmas.{Is-is_statement_expr}

-- ---- what ends parts

while_calm : (tok : Tok) (rest : List Tok) → IsKey WHILE tok → begins may_go_on (tok ∷ rest) ≡ false
unfolding begins may_go_on is_key
while_calm tok rest h = rw h refl

semi_no_ident : (tok : Tok) (rest : List Tok) → IsOp SEMICOLON tok → begins is_ident (tok ∷ rest) ≡ false
unfolding begins is_ident
semi_no_ident tok rest h = rw h refl

semi_no_colon : (tok : Tok) (rest : List Tok) → IsOp SEMICOLON tok → begins (is_op COLON) (tok ∷ rest) ≡ false
unfolding begins is_op
semi_no_colon tok rest h = rw h refl

closed_true : (stmt : StmtTree) → ¬ (EndsOpen stmt) → IsTrue (not (ends_open stmt))
closed_true stmt h = by_test (ends_open stmt) h
  where
    by_test : (test : Bool) → ¬ (IsTrue test) → IsTrue (not test)
    by_test true h = absurd (h refl)
    by_test false h = refl

message_good : (room : ℕ) (found : Option (Tok × ExprTree)) → IfSome found MessageFits → option_depth (λ (part : Tok × ExprTree). expr_depth part.1) found ≤ room → IfSome found (GoodMessage room)
message_good room None fit shallow = tt
message_good room (Some message) fit shallow = (fit.0, record { fits = fit.1; binds = omega arith; shallow = shallow })

message_stops : (found : Option (Tok × ExprTree)) (semi : Tok) (rest : List Tok) → IfSome found MessageFits → IsOp SEMICOLON semi → Stops ASSIGNMENT_LEVEL (option_yield (behind_yield expr_yield) found ++ semi ∷ rest)
message_stops None semi rest fit is = stops_semicolon semi rest is
message_stops (Some message) semi rest fit is = stops_colon message.0 _ fit.0

jumps_on : (word : Tok) → (IsKey BREAK word) ⊎ (IsKey CONTINUE word) → IsTrue (jumps word)
unfolding jumps
jumps_on word is = elim is [ inl one ↦ first_true (is_key BREAK word) _ (IsKey-is_key BREAK word one) | inr another ↦ second_true (is_key BREAK word) _ (IsKey-is_key CONTINUE word another) ]

-- ---- one room from the room below it

module _ (m : ℕ) (p : Parsers) (s : StmtParsers) (exprs : AreExact m p) (stmts : AreExactStmts m s) where
  -- `t` is read by the reader of statements of this room
  abbrev pub IsReadWhere : StmtTree → Type 0
  IsReadWhere t = (rest : List Tok) → StmtFits t → stmt_depth t ≤ suc m → Over t rest → stmt p s (stmt_yield t ++ rest) ≡ Some (t, rest)

  pub block_alone-exact : (braces : BlockTree) (rest : List Tok) → BlockFits braces → block_depth braces ≤ m → block_alone s (block_yield braces ++ rest) ≡ Some (Block braces, rest)
  unfolding block_alone
  block_alone-exact braces rest fit shallow = bind-Some _ _ _ _ (block-exact m s stmts braces rest (record { fits = fit; shallow = shallow }) tt) refl

  pub empty-exact : (semi : Tok) → IsReadWhere (Empty semi)
  unfolding empty
  empty-exact semi rest fit shallow over = to_empty p s semi rest fit ∙ bind-Some _ _ _ _ (token-at (is_op SEMICOLON) semi rest (IsOp-is_op SEMICOLON semi fit)) refl

  pub labeled-exact : (id colon : Tok) (body : StmtTree) → IsReadWhere (Label id colon body)
  unfolding labeled
  labeled-exact id colon body rest fit shallow over =
      to_label p s id _ fit.0.id_is (is_label id colon _ fit.0.id_is fit.0.colon_is)
      ∙ bind-Some _ _ _ _ (token-at is_ident id _ (IsIdent-is_ident id fit.0.id_is))
      (bind-Some _ _ _ _ (token-at (is_op COLON) colon _ (IsOp-is_op COLON colon fit.0.colon_is))
      (bind-Some _ _ _ _ (stmts.stmt body rest (record { fits = fit.1; no_local = fit.0.no_local; shallow = omega arith }) over) refl))

  pub expression_stmt-exact : (found : ExprTree) (semi : Tok) → IsReadWhere (Expression found semi)
  unfolding expression_stmt
  expression_stmt-exact found semi rest fit shallow over =
      rw append_assoc
      (to_expression p s found (semi ∷ rest) fit.1 fit.0.statement
      ∙ bind-Some _ _ _ _ (expr-exact m p exprs found (semi ∷ rest) fit.1 (omega arith) (stops_semicolon semi rest fit.0.semi_is))
      (bind-Some _ _ _ _ (when-true (is_statement_expr found) _ (Is-is_statement_expr found fit.0.statement) ∙ token-at (is_op SEMICOLON) semi rest (IsOp-is_op SEMICOLON semi fit.0.semi_is)) refl))

  -- ---- `if`

  other-exact : (first : StmtTree) (end : OtherTree) (rest : List Tok) → OtherFits end → IsNearestIf first end → other_depth end ≤ m → begins (λ tok. other_goes_on end (goes_on first tok) tok) rest ≡ false → other s first (other_yield end ++ rest) ≡ Some (end, rest)
  unfolding other other_part begins
  other-exact first NoOther rest fit nearest shallow over = if-false _ _ _ (begins_neither (is_key ELSE) (goes_on first) rest over).0
  other-exact first (Other word body) rest fit nearest shallow over =
      if-true _ _ _ (IsKey-is_key ELSE word fit.0)
      ∙ when-true (not (ends_open first)) _ (closed_true first nearest)
      ∙ bind-Some _ _ _ _ (token-at (is_key ELSE) word _ (IsKey-is_key ELSE word fit.0))
      (bind-Some _ _ _ _ (stmts.stmt body rest (record { fits = fit.2; no_local = fit.1; shallow = shallow }) over) refl)

  first_over : (first : StmtTree) (end : OtherTree) (rest : List Tok) → OtherFits end → IsNearestIf first end → begins (λ tok. other_goes_on end (goes_on first tok) tok) rest ≡ false → Over first (other_yield end ++ rest)
  first_over first NoOther rest fit nearest over = (begins_neither (is_key ELSE) (goes_on first) rest over).1
  first_over first (Other word body) rest fit nearest over = over_else first word _ nearest fit.0

  pub if_stmt-exact : (word left : Tok) (test : ExprTree) (right : Tok) (first : StmtTree) (end : OtherTree) → IsReadWhere (If word left test right first end)
  unfolding if_stmt
  if_stmt-exact word left test right first end rest fit shallow over =
      rw (append_assoc, append_assoc)
      (to_if p s word _ fit.0.head.word_is
      ∙ bind-Some _ _ _ _ (head-exact m p exprs IF word left test right _ fit.0.head fit.1 (omega arith))
      (bind-Some _ _ _ _ (stmts.stmt first _ (record { fits = fit.2; no_local = fit.0.no_local; shallow = omega arith }) (first_over first end rest fit.3 fit.0.nearest over))
      (bind-Some _ _ _ _ (other-exact first end rest fit.3 fit.0.nearest (omega arith) over) refl)))

  -- ---- loops

  pub while_stmt-exact : (word left : Tok) (test : ExprTree) (right : Tok) (body : StmtTree) → IsReadWhere (While word left test right body)
  unfolding while_stmt
  while_stmt-exact word left test right body rest fit shallow over =
      rw append_assoc
      (to_while p s word _ fit.0.head.word_is
      ∙ bind-Some _ _ _ _ (head-exact m p exprs WHILE word left test right _ fit.0.head fit.1 (omega arith))
      (bind-Some _ _ _ _ (stmts.stmt body rest (record { fits = fit.2; no_local = fit.0.no_local; shallow = omega arith }) over) refl))

  pub do_stmt-exact : (word : Tok) (body : StmtTree) (until left : Tok) (test : ExprTree) (right semi : Tok) → IsReadWhere (Do word body until left test right semi)
  unfolding do_stmt
  do_stmt-exact word body until left test right semi rest fit shallow over =
      rw (append_assoc, append_assoc)
      (to_do p s word _ fit.0.word_is
      ∙ bind-Some _ _ _ _ (token-at (is_key DO) word _ (IsKey-is_key DO word fit.0.word_is))
      (bind-Some _ _ _ _ (stmts.stmt body _ (record { fits = fit.1; no_local = fit.0.no_local; shallow = omega arith }) (over_calm body _ (while_calm until _ fit.0.until_is.word_is)))
      (bind-Some _ _ _ _ (head-exact m p exprs WHILE until left test right _ fit.0.until_is fit.2 (omega arith))
      (bind-Some _ _ _ _ (token-at (is_op SEMICOLON) semi rest (IsOp-is_op SEMICOLON semi fit.0.semi_is)) refl))))

  -- ---- statements that end with `;`

  label-exact : (label : Option Tok) (semi : Tok) (rest : List Tok) → IfSome label IsIdent → IsOp SEMICOLON semi → optional (token is_ident) (option_yield tok_yield label ++ semi ∷ rest) ≡ Some (label, semi ∷ rest)
  label-exact None semi rest fit is = optional-None _ _ (token-other is_ident (semi ∷ rest) (semi_no_ident semi rest is))
  label-exact (Some id) semi rest fit is = optional-Some _ _ _ _ (token-at is_ident id _ (IsIdent-is_ident id fit))

  to_jump : (word : Tok) (toks : List Tok) → (IsKey BREAK word) ⊎ (IsKey CONTINUE word) → stmt p s (word ∷ toks) ≡ jump (word ∷ toks)
  to_jump word toks is = elim is [ inl one ↦ to_break p s word toks one | inr another ↦ to_continue p s word toks another ]

  pub jump-exact : (word : Tok) (label : Option Tok) (semi : Tok) → IsReadWhere (Jump word label semi)
  unfolding jump
  jump-exact word label semi rest fit shallow over =
      rw append_assoc
      (to_jump word _ fit.word_is
      ∙ bind-Some _ _ _ _ (token-at jumps word _ (jumps_on word fit.word_is))
      (bind-Some _ _ _ _ (label-exact label semi rest fit.label_is fit.semi_is)
      (bind-Some _ _ _ _ (token-at (is_op SEMICOLON) semi rest (IsOp-is_op SEMICOLON semi fit.semi_is)) refl)))

  pub return_stmt-exact : (word : Tok) (found : Option ExprTree) (semi : Tok) → IsReadWhere (Return word found semi)
  unfolding return_stmt
  return_stmt-exact word found semi rest fit shallow over =
      rw append_assoc
      (to_return p s word _ fit.0.word_is
      ∙ bind-Some _ _ _ _ (token-at (is_key RETURN) word _ (IsKey-is_key RETURN word fit.0.word_is))
      (bind-Some _ _ _ _ (optional_expr-exact m p exprs found semi rest (record { fits = fit.1; shallow = omega arith }) (semi_ends_expr semi rest fit.0.semi_is))
      (bind-Some _ _ _ _ (token-at (is_op SEMICOLON) semi rest (IsOp-is_op SEMICOLON semi fit.0.semi_is)) refl)))

  pub throw_stmt-exact : (word : Tok) (found : ExprTree) (semi : Tok) → IsReadWhere (Throw word found semi)
  unfolding throw_stmt
  throw_stmt-exact word found semi rest fit shallow over =
      rw append_assoc
      (to_throw p s word _ fit.0.word_is
      ∙ bind-Some _ _ _ _ (token-at (is_key THROW) word _ (IsKey-is_key THROW word fit.0.word_is))
      (bind-Some _ _ _ _ (expr-exact m p exprs found (semi ∷ rest) fit.1 (omega arith) (stops_semicolon semi rest fit.0.semi_is))
      (bind-Some _ _ _ _ (token-at (is_op SEMICOLON) semi rest (IsOp-is_op SEMICOLON semi fit.0.semi_is)) refl)))

  message-exact : (found : Option (Tok × ExprTree)) (semi : Tok) (rest : List Tok) → IfSome found (GoodMessage m) → IsOp SEMICOLON semi → optional (behind (is_op COLON) p.expr) (option_yield (behind_yield expr_yield) found ++ semi ∷ rest) ≡ Some (found, semi ∷ rest)
  unfolding behind
  message-exact None semi rest good is = optional-None _ _ (bind-None _ _ (token-other (is_op COLON) (semi ∷ rest) (semi_no_colon semi rest is)))
  message-exact (Some message) semi rest good is =
      optional-Some _ _ message (semi ∷ rest) (behind-exact (Good ASSIGNMENT_LEVEL m) (Stops ASSIGNMENT_LEVEL) expr_yield COLON p.expr exprs.expr message (semi ∷ rest) good (stops_semicolon semi rest is))

  pub assert_stmt-exact : (word : Tok) (test : ExprTree) (message : Option (Tok × ExprTree)) (semi : Tok) → IsReadWhere (Assert word test message semi)
  unfolding assert_stmt
  assert_stmt-exact word test message semi rest fit shallow over =
      rw (append_assoc, append_assoc)
      (to_assert p s word _ fit.0.word_is
      ∙ bind-Some _ _ _ _ (token-at (is_key ASSERT) word _ (IsKey-is_key ASSERT word fit.0.word_is))
      (bind-Some _ _ _ _ (expr-exact m p exprs test _ fit.1 (omega arith) (message_stops message semi rest fit.2 fit.0.semi_is))
      (bind-Some _ _ _ _ (message-exact message semi rest (message_good m message fit.2 (omega arith)) fit.0.semi_is)
      (bind-Some _ _ _ _ (token-at (is_op SEMICOLON) semi rest (IsOp-is_op SEMICOLON semi fit.0.semi_is)) refl))))

  -- ---- `synchronized`

  pub sync_stmt-exact : (word left : Tok) (on : ExprTree) (right : Tok) (body : BlockTree) → IsReadWhere (Sync word left on right body)
  unfolding sync_stmt
  sync_stmt-exact word left on right body rest fit shallow over =
      rw append_assoc
      (to_sync p s word _ fit.0.word_is
      ∙ bind-Some _ _ _ _ (head-exact m p exprs SYNCHRONIZED word left on right _ fit.0 fit.1 (omega arith))
      (bind-Some _ _ _ _ (block-exact m s stmts body rest (record { fits = fit.2; shallow = omega arith }) tt) refl))
