-- Which form of statement is read, by the tokens that stand there.
use Rattle.std.proofs.Common.{◌≡◌, ◌==◌, List, [], ◌∷◌, ◌++◌, Some, None, false, ◌&&◌, ◌||◌, IsTrue, refl, ap, ◌∙◌, sym}
use Rattle.rf_jtree.specs.declared.operators.Op.{Op}
use Rattle.rf_jtree.specs.declared.tokens.Tok.{Tok}
use Rattle.rf_jtree.specs.declared.tokens.TokKind.{TokKind}
use Rattle.rf_jtree.specs.declared.tokens.TokKind.TheVariants as kind
use Rattle.rf_jtree.specs.declared.words.Kw.{Kw}
use Rattle.rf_jtree.specs.declared.operator_names.TheConstants.{LEFT_BRACE, RIGHT_BRACE, SEMICOLON, COLON, AT, DOT, LEFT_BRACKET}
use Rattle.rf_jtree.specs.declared.keyword_names.TheConstants.{ASSERT, BREAK, CASE, CONTINUE, DEFAULT, DO, FINAL, FOR, IF, RETURN, SWITCH, SYNCHRONIZED, THROW, TRY, WHILE, PRIMITIVES, OPERAND_WORDS}
use Rattle.rf_jfit.specs.ExprFirst.{expr_first}
use Rattle.rf_jtree.specs.ExprFits.{ExprFits, IsNoName}
use Rattle.rf_jtree.specs.ExprTrees.{ExprTree, Name, expr_yield}
use Rattle.rf_jtree.specs.Kinds.{IsOp, IsKey, IsIdent, is_key_of, has_key}
use Rattle.rf_jtree.specs.StmtFits.{IsStatementExpr}
use Rattle.rf_jexpr.specs.NameReads.{name, primitive, named_type, type_base, type_use}
use Rattle.rf_jexpr.specs.PartReads.{Parsers}
use Rattle.rf_jexpr.specs.Reads.{and_then, when, is_op, is_key, is_ident, begins, token, separated}
use Rattle.rf_jexpr.specs.Stops.{begins_expr}
use Rattle.rf_jexpr.proofs.CallNames.{alone, alone-fits}
use Rattle.rf_jexpr.proofs.NoTypeLemmas.{bare, bare-read}
use Rattle.rf_jexpr.proofs.CompleteNames.{no_brackets}
use Rattle.rf_jexpr.proofs.First.{begins_first, expr_first-begins}
use Rattle.rf_jexpr.proofs.StopLemmas.{weaker, false_or}
use Rattle.rf_jexpr.proofs.Tools.{both, holds, fails, whether, missing, there, perhaps, bind-None, if-true, if-false, token-other, is_op-IsOp, is_key-IsKey, is_ident-IsIdent}
use Rattle.rf_jstmt.specs.StmtParts.{StmtParsers}
use Rattle.rf_jstmt.specs.StmtReads.{block_alone, empty, labeled, expression_stmt, if_stmt, while_stmt, do_stmt, for_stmt, switch_stmt, jumps, jump, return_stmt, throw_stmt, sync_stmt, assert_stmt, try_stmt, by_word, stmt, block_stmt}
use Rattle.rf_jstmt.specs.StmtStops.{EndsStmts}
use Rattle.rf_jstmt.specs.VarReads.{marks_local, ends_before, begins_local, begins_label}
use Rattle.rf_jstmt.proofs.Declares.{ends_type, NoDeclaration, no_declaration}
use Rattle.rf_jmods.proofs.ExactMods.{apart_key}
use Rattle.rf_jstmt.proofs.Over.{by_brace, by_case, by_default, ends_with, begins_neither}
use Rattle.rf_jstmt.proofs.StmtFirst.{begins_with_expr}

-- ---- no local declaration

no_type : (tok : Tok) (rest : List Tok) → is_ident tok ≡ false → is_key_of PRIMITIVES tok ≡ false → type_use (tok ∷ rest) ≡ None
unfolding type_use type_base primitive named_type name separated begins
no_type tok rest no_ident no_word = bind-None _ _ (if-false _ _ _ no_word ∙ bind-None _ _ (bind-None _ _ (bind-None _ _ (token-other is_ident (tok ∷ rest) no_ident))))

no_local : (tok : Tok) (rest : List Tok) → marks_local tok ≡ false → is_ident tok ≡ false → is_key_of PRIMITIVES tok ≡ false → begins_local (tok ∷ rest) ≡ false
unfolding begins_local begins ends_before
no_local tok rest no_mark no_ident no_word = false_or _ _ no_mark (ap (λ found. ends_before is_ident found) (no_type tok rest no_ident no_word))

pub key_no_local : (word : Kw) → (word.0 == FINAL.0) ≡ false → has_key PRIMITIVES word ≡ false → (tok : Tok) (rest : List Tok) → IsKey word tok → begins_local (tok ∷ rest) ≡ false
unfolding marks_local is_key is_op is_ident
key_no_local word no_final no_word tok rest h = no_local tok rest (rw h (false_or _ _ no_final no_word)) (rw h refl) (rw h no_word)

pub op_no_local : (op : Op) → (op.0 == AT.0) ≡ false → (tok : Tok) (rest : List Tok) → IsOp op tok → begins_local (tok ∷ rest) ≡ false
unfolding marks_local is_key is_op is_ident
op_no_local op no_at tok rest h = no_local tok rest (rw h (false_or _ _ no_at refl)) (rw h refl) (rw h refl)

-- ---- labels

colon_no_op : (tok : Tok) (rest : List Tok) → IsOp COLON tok → (begins (is_op DOT) (tok ∷ rest) ≡ false) × (begins (is_op LEFT_BRACKET) (tok ∷ rest) ≡ false)
unfolding begins is_op
colon_no_op tok rest h = (rw h refl, rw h refl)

label_type : (id : Tok) (rest : List Tok) → IsIdent id → IsTrue (begins (is_op COLON) rest) → type_use (id ∷ rest) ≡ Some (bare (alone id), rest)
unfolding begins alone
label_type id [] is h = cc
label_type id (colon ∷ rest) is h = let colon_is = is_op-IsOp COLON colon h in let no_op = colon_no_op colon rest colon_is in bare-read (alone id) (colon ∷ rest) (alone-fits id is) no_op.0 (no_brackets (colon ∷ rest) no_op.1)

pub label_no_local : (id colon : Tok) (rest : List Tok) → IsIdent id → IsOp COLON colon → begins_local (id ∷ colon ∷ rest) ≡ false
unfolding begins_local begins marks_local ends_before is_key is_op is_ident
label_no_local id colon rest id_is colon_is = false_or _ _ (rw id_is refl) (ap (λ found. ends_before is_ident found) (label_type id (colon ∷ rest) id_is (rw colon_is refl)) ∙ rw colon_is refl)

-- ---- expressions that stand as statements

final_no_expr : (tok : Tok) → IsKey FINAL tok → begins_expr tok ≡ false
unfolding begins_expr
final_no_expr tok h = rw h refl

at_no_expr : (tok : Tok) → IsOp AT tok → begins_expr tok ≡ false
unfolding begins_expr
at_no_expr tok h = rw h refl

primitive_no_expr : (tok : Tok) → IsTrue (is_key_of PRIMITIVES tok) → begins_expr tok ≡ false
unfolding begins_expr
primitive_no_expr tok h = by_kind tok.kind refl
  where
    by_kind : (k : TokKind) → tok.kind ≡ k → begins_expr tok ≡ false
    by_kind (kind.Key found) e = rw e (apart_key (λ word. has_key OPERAND_WORDS word || false) PRIMITIVES refl found (rw e at h))
    by_kind other e = absurd (cc (rw e at h))

expr_no_mark : (tok : Tok) → IsTrue (begins_expr tok) → marks_local tok ≡ false
unfolding marks_local
expr_no_mark tok h =
    false_or (is_key FINAL tok) _ (weaker (is_key FINAL tok) false (λ is. sym (final_no_expr tok (is_key-IsKey FINAL tok is)) ∙ h) refl)
    (false_or (is_op AT tok) _ (weaker (is_op AT tok) false (λ is. sym (at_no_expr tok (is_op-IsOp AT tok is)) ∙ h) refl)
    (weaker (is_key_of PRIMITIVES tok) false (λ is. sym (primitive_no_expr tok is) ∙ h) refl))

statement_no_name : (expr : ExprTree) → IsStatementExpr expr → IsNoName expr
statement_no_name (Name found) h = h
statement_no_name expr h = tt

no_ident_behind : (toks : List Tok) → NoDeclaration toks → ends_before is_ident (type_use toks) ≡ false
unfolding ends_before ends_type
no_ident_behind toks none = elim (perhaps (type_use toks)) [
  | missing e ↦ ap (λ found. ends_before is_ident found) e
  | there y e ↦ ap (λ found. ends_before is_ident found) e ∙ (begins_neither is_ident (is_op COLON) y.1 (none y e)).0
]

pub expr_no_local : (expression : ExprTree) (rest : List Tok) → ExprFits expression → IsStatementExpr expression → begins_local (expr_yield expression ++ rest) ≡ false
unfolding begins_local
expr_no_local expression rest fit is =
    false_or _ _ (begins_first marks_local expression rest ∙ expr_no_mark (expr_first expression) (expr_first-begins expression fit)) (no_ident_behind _ (no_declaration expression rest fit (statement_no_name expression is)))

no_label : (toks : List Tok) → NoDeclaration toks → begins_label toks ≡ false
unfolding begins_label ends_type
no_label [] none = refl
no_label (id ∷ rest) none = elim (whether (is_ident id && begins (is_op COLON) rest)) [
  | fails no_more ↦ no_more
  | holds is ↦
      let parts = both (is_ident id) (begins (is_op COLON) rest) is in
      let no_colon = (begins_neither is_ident (is_op COLON) rest (none (bare (alone id), rest) (label_type id rest (is_ident-IsIdent id parts.0) parts.1))).1 in
      absurd (cc (parts.1, no_colon))
]

expr_no_label : (expression : ExprTree) (rest : List Tok) → ExprFits expression → IsStatementExpr expression → begins_label (expr_yield expression ++ rest) ≡ false
expr_no_label expression rest fit is = no_label _ (no_declaration expression rest fit (statement_no_name expression is))

-- ---- the form that is read

module _ (p : Parsers) (s : StmtParsers) where
  pub to_block : (tok : Tok) (rest : List Tok) → IsOp LEFT_BRACE tok → stmt p s (tok ∷ rest) ≡ block_alone s (tok ∷ rest)
  unfolding stmt by_word begins begins_expr is_op is_key
  to_block tok rest h = rw h refl

  pub to_empty : (tok : Tok) (rest : List Tok) → IsOp SEMICOLON tok → stmt p s (tok ∷ rest) ≡ empty (tok ∷ rest)
  unfolding stmt by_word begins begins_expr is_op is_key
  to_empty tok rest h = rw h refl

  pub to_label : (id : Tok) (rest : List Tok) → IsIdent id → IsTrue (begins_label (id ∷ rest)) → stmt p s (id ∷ rest) ≡ labeled s (id ∷ rest)
  unfolding stmt begins begins_expr
  to_label id rest h label = if-true _ _ _ first ∙ if-true _ _ _ label
    where
      first : IsTrue (begins_expr id)
      first = rw h refl

  pub to_expression : (expr : ExprTree) (rest : List Tok) → ExprFits expr → IsStatementExpr expr → stmt p s (expr_yield expr ++ rest) ≡ expression_stmt p (expr_yield expr ++ rest)
  unfolding stmt
  to_expression expr rest fit is = if-true _ _ _ (begins_with_expr expr rest fit) ∙ if-false _ _ _ (expr_no_label expr rest fit is)

  pub to_if : (tok : Tok) (rest : List Tok) → IsKey IF tok → stmt p s (tok ∷ rest) ≡ if_stmt p s (tok ∷ rest)
  unfolding stmt by_word begins begins_expr is_op is_key
  to_if tok rest h = rw h refl

  pub to_while : (tok : Tok) (rest : List Tok) → IsKey WHILE tok → stmt p s (tok ∷ rest) ≡ while_stmt p s (tok ∷ rest)
  unfolding stmt by_word begins begins_expr is_op is_key
  to_while tok rest h = rw h refl

  pub to_do : (tok : Tok) (rest : List Tok) → IsKey DO tok → stmt p s (tok ∷ rest) ≡ do_stmt p s (tok ∷ rest)
  unfolding stmt by_word begins begins_expr is_op is_key
  to_do tok rest h = rw h refl

  pub to_for : (tok : Tok) (rest : List Tok) → IsKey FOR tok → stmt p s (tok ∷ rest) ≡ for_stmt p s (tok ∷ rest)
  unfolding stmt by_word begins begins_expr is_op is_key
  to_for tok rest h = rw h refl

  pub to_switch : (tok : Tok) (rest : List Tok) → IsKey SWITCH tok → stmt p s (tok ∷ rest) ≡ switch_stmt p s (tok ∷ rest)
  unfolding stmt by_word begins begins_expr is_op is_key
  to_switch tok rest h = rw h refl

  pub to_break : (tok : Tok) (rest : List Tok) → IsKey BREAK tok → stmt p s (tok ∷ rest) ≡ jump (tok ∷ rest)
  unfolding stmt by_word begins begins_expr is_op is_key
  to_break tok rest h = rw h refl

  pub to_continue : (tok : Tok) (rest : List Tok) → IsKey CONTINUE tok → stmt p s (tok ∷ rest) ≡ jump (tok ∷ rest)
  unfolding stmt by_word begins begins_expr is_op is_key
  to_continue tok rest h = rw h refl

  pub to_return : (tok : Tok) (rest : List Tok) → IsKey RETURN tok → stmt p s (tok ∷ rest) ≡ return_stmt p (tok ∷ rest)
  unfolding stmt by_word begins begins_expr is_op is_key
  to_return tok rest h = rw h refl

  pub to_throw : (tok : Tok) (rest : List Tok) → IsKey THROW tok → stmt p s (tok ∷ rest) ≡ throw_stmt p (tok ∷ rest)
  unfolding stmt by_word begins begins_expr is_op is_key
  to_throw tok rest h = rw h refl

  pub to_sync : (tok : Tok) (rest : List Tok) → IsKey SYNCHRONIZED tok → stmt p s (tok ∷ rest) ≡ sync_stmt p s (tok ∷ rest)
  unfolding stmt by_word begins begins_expr is_op is_key
  to_sync tok rest h = rw h refl

  pub to_assert : (tok : Tok) (rest : List Tok) → IsKey ASSERT tok → stmt p s (tok ∷ rest) ≡ assert_stmt p (tok ∷ rest)
  unfolding stmt by_word begins begins_expr is_op is_key
  to_assert tok rest h = rw h refl

  pub to_try : (tok : Tok) (rest : List Tok) → IsKey TRY tok → stmt p s (tok ∷ rest) ≡ try_stmt s (tok ∷ rest)
  unfolding stmt by_word begins begins_expr is_op is_key
  to_try tok rest h = rw h refl

  -- ---- none, where statements end

  no_brace : (tok : Tok) (rest : List Tok) → IsOp RIGHT_BRACE tok → stmt p s (tok ∷ rest) ≡ None
  unfolding stmt by_word begins begins_expr is_op is_key jump jumps token when and_then
  no_brace tok rest h = rw h refl

  no_case : (tok : Tok) (rest : List Tok) → IsKey CASE tok → stmt p s (tok ∷ rest) ≡ None
  unfolding stmt by_word begins begins_expr is_op is_key jump jumps token when and_then
  no_case tok rest h = rw h refl

  no_default : (tok : Tok) (rest : List Tok) → IsKey DEFAULT tok → stmt p s (tok ∷ rest) ≡ None
  unfolding stmt by_word begins begins_expr is_op is_key jump jumps token when and_then
  no_default tok rest h = rw h refl

  pub no_stmt : (rest : List Tok) → EndsStmts rest → block_stmt p s rest ≡ None
  unfolding begins block_stmt
  no_stmt [] h = cc
  no_stmt (tok ∷ rest) h = elim (ends_with tok h) [
    | by_brace is ↦ if-false _ _ _ (op_no_local RIGHT_BRACE refl tok rest is) ∙ no_brace tok rest is
    | by_case is ↦ if-false _ _ _ (key_no_local CASE refl refl tok rest is) ∙ no_case tok rest is
    | by_default is ↦ if-false _ _ _ (key_no_local DEFAULT refl refl tok rest is) ∙ no_default tok rest is
  ]
