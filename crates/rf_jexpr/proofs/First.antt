-- The tokens that expressions begin with.
use Rattle.std.proofs.Common.{◌≡◌, ◌<◌, List, ◌++◌, Bool, true, false, not, ◌&&◌, ◌||◌, IsTrue, refl, ◌∙◌, sym, arith}
use Rattle.rf_jtree.specs.declared.operators.Op.{Op}
use Rattle.rf_jtree.specs.declared.tokens.Tok.{Tok}
use Rattle.rf_jtree.specs.declared.tokens.TokKind.{TokKind}
use Rattle.rf_jtree.specs.declared.tokens.TokKind.TheVariants as kind
use Rattle.rf_jtree.specs.declared.levels.TheConstants.{PRIMARY_LEVEL, POSTFIX_LEVEL, UNARY_LEVEL}
use Rattle.rf_jtree.specs.declared.operator_names.TheConstants.{LEFT_PAREN, LEFT_BRACE, RIGHT_BRACKET, PREFIXES}
use Rattle.rf_jtree.specs.declared.keyword_names.TheConstants.{NEW, SUPER, THIS}
use Rattle.rf_jfit.specs.ExprFirst.{expr_first, on_first}
use Rattle.rf_jtree.specs.ExprFits.{ExprFits, OnFits, begins_operand}
use Rattle.rf_jtree.specs.ExprTrees.{ExprTree, Assign, Cond, Binary, Instance, Unary, Cast, Postfix, Lit, This, Paren, Name, Call, Field, Super, New, Index, NewArray, NewInit}
use Rattle.rf_jtree.specs.ExprTrees.{OnTree, NoOn, On, expr_yield}
use Rattle.rf_jtree.specs.Kinds.{IsOp, IsKey, IsIdent, is_op_of, is_literal}
use Rattle.rf_jtree.specs.Levels.{BindsAt, binary_level}
use Rattle.rf_jfit.proofs.ExprFirstLemmas.{expr_begins}
use Rattle.rf_jexpr.specs.Reads.{is_op, begins}
use Rattle.rf_jexpr.specs.Stops.{begins_expr}
use Rattle.rf_jexpr.proofs.Sound.{binary_level_small}
use Rattle.rf_jexpr.proofs.StopLemmas.{not_true, weaker}
use Rattle.rf_jexpr.proofs.Tools.{both, is_op-IsOp}

true_or : (one other : Bool) → IsTrue one → IsTrue (one || other)
true_or true other h = refl
true_or false other h = cc

or_other : (one other : Bool) → IsTrue other → IsTrue (one || other)
or_other true other h = refl
or_other false other h = h

-- what a primary expression begins with: an operand without an operator before it
unfoldable pub begins_primary : Tok → Bool
begins_primary tok = begins_operand tok && not (is_op_of PREFIXES tok)

-- ---- by what the token is

literal_primary : (tok : Tok) → IsTrue (is_literal tok) → IsTrue (begins_primary tok)
unfolding begins_primary
literal_primary tok h = by_kind tok.kind refl
  where
    by_kind : (k : TokKind) → tok.kind ≡ k → IsTrue (begins_operand tok && not (is_op_of PREFIXES tok))
    by_kind kind.Ident e = absurd (cc (rw e at h))
    by_kind (kind.Key word) e = absurd (cc (rw e at h))
    by_kind (kind.Op op) e = absurd (cc (rw e at h))
    by_kind other e = rw e refl

ident_primary : (tok : Tok) → IsIdent tok → IsTrue (begins_primary tok)
unfolding begins_primary
ident_primary tok h = rw h refl

this_primary : (tok : Tok) → IsKey THIS tok → IsTrue (begins_primary tok)
unfolding begins_primary
this_primary tok h = rw h refl

super_primary : (tok : Tok) → IsKey SUPER tok → IsTrue (begins_primary tok)
unfolding begins_primary
super_primary tok h = rw h refl

new_primary : (tok : Tok) → IsKey NEW tok → IsTrue (begins_primary tok)
unfolding begins_primary
new_primary tok h = rw h refl

paren_primary : (tok : Tok) → IsOp LEFT_PAREN tok → IsTrue (begins_primary tok)
unfolding begins_primary
paren_primary tok h = rw h refl

primary_begins : (tok : Tok) → IsTrue (begins_primary tok) → IsTrue (begins_expr tok)
unfolding begins_primary begins_expr
primary_begins tok h = true_or (begins_operand tok) (is_op_of PREFIXES tok) (both _ _ h).0

prefix_begins : (tok : Tok) → IsTrue (is_op_of PREFIXES tok) → IsTrue (begins_expr tok)
unfolding begins_expr
prefix_begins tok h = or_other (begins_operand tok) (is_op_of PREFIXES tok) h

paren_begins : (tok : Tok) → IsOp LEFT_PAREN tok → IsTrue (begins_expr tok)
paren_begins tok h = primary_begins tok (paren_primary tok h)

-- ---- trees

mutual
  pub expr_first-begins : (expr : ExprTree) → ExprFits expr → IsTrue (begins_expr (expr_first expr))
  expr_first-begins (Assign left op operand) fit = expr_first-begins left fit.1
  expr_first-begins (Cond test mark first colon other) fit = expr_first-begins test fit.1
  expr_first-begins (Binary left op right) fit = expr_first-begins left fit.1
  expr_first-begins (Instance operand word used_type) fit = expr_first-begins operand fit.1
  expr_first-begins (Unary op operand) fit = prefix_begins op fit.0.op_is
  expr_first-begins (Cast left used_type right operand) fit = paren_begins left fit.0.parens.0
  expr_first-begins (Postfix operand op) fit = expr_first-begins operand fit.1
  expr_first-begins (Lit tok) fit = primary_begins tok (literal_primary tok fit)
  expr_first-begins (This tok) fit = primary_begins tok (this_primary tok fit)
  expr_first-begins (Paren left operand right) fit = paren_begins left fit.0.0
  expr_first-begins (Name name) fit = primary_begins name.ids.first (ident_primary name.ids.first fit.0)
  expr_first-begins (Call on id args) fit = on_first-begins on id fit.0 fit.1
  expr_first-begins (Field operand dot id) fit = expr_first-begins operand fit.1
  expr_first-begins (Super word dot id args) fit = primary_begins word (super_primary word fit.0.word_is)
  expr_first-begins (New word name args) fit = primary_begins word (new_primary word fit.0)
  expr_first-begins (Index operand left index right) fit = expr_first-begins operand fit.1
  expr_first-begins (NewArray word base sizes dims) fit = primary_begins word (new_primary word fit.0)
  expr_first-begins (NewInit word base dims init) fit = primary_begins word (new_primary word fit.0)

  on_first-begins : (on : OnTree) (id : Tok) → OnFits on → IsIdent id → IsTrue (begins_expr (on_first on id))
  on_first-begins NoOn id fit is = primary_begins id (ident_primary id is)
  on_first-begins (On operand dot) id fit is = expr_first-begins operand fit.1

-- a binary operator binds less than a unary one
pub binary_level_less : (tok : Tok) → binary_level tok < UNARY_LEVEL
binary_level_less tok = let small = binary_level_small tok in omega arith

pub primary_binds : (expr : ExprTree) → BindsAt PRIMARY_LEVEL expr → BindsAt POSTFIX_LEVEL expr
primary_binds expr h = omega arith

-- an expression that binds as tightly as `x++`
mutual
  pub primary_first : (expr : ExprTree) → ExprFits expr → BindsAt POSTFIX_LEVEL expr → IsTrue (begins_primary (expr_first expr))
  primary_first (Assign left op operand) fit binds = absurd (omega arith)
  primary_first (Cond test mark first colon other) fit binds = absurd (omega arith)
  primary_first (Binary left op right) fit binds = let less = binary_level_less op in absurd (omega arith)
  primary_first (Instance operand word used_type) fit binds = absurd (omega arith)
  primary_first (Unary op operand) fit binds = absurd (omega arith)
  primary_first (Cast left used_type right operand) fit binds = absurd (omega arith)
  primary_first (Postfix operand op) fit binds = primary_first operand fit.1 fit.0.operand_binds
  primary_first (Lit tok) fit binds = literal_primary tok fit
  primary_first (This tok) fit binds = this_primary tok fit
  primary_first (Paren left operand right) fit binds = paren_primary left fit.0.0
  primary_first (Name name) fit binds = ident_primary name.ids.first fit.0
  primary_first (Call on id args) fit binds = on_primary on id fit.0 fit.1
  primary_first (Field operand dot id) fit binds = primary_first operand fit.1 (primary_binds operand fit.0.primary)
  primary_first (Super word dot id args) fit binds = super_primary word fit.0.word_is
  primary_first (New word name args) fit binds = new_primary word fit.0
  primary_first (Index operand left index right) fit binds = primary_first operand fit.1 (primary_binds operand fit.0.primary)
  primary_first (NewArray word base sizes dims) fit binds = new_primary word fit.0
  primary_first (NewInit word base dims init) fit binds = new_primary word fit.0

  on_primary : (on : OnTree) (id : Tok) → OnFits on → IsIdent id → IsTrue (begins_primary (on_first on id))
  on_primary NoOn id fit is = ident_primary id is
  on_primary (On operand dot) id fit is = primary_first operand fit.1 (primary_binds operand fit.0.primary)

-- ---- and the tokens of trees

pub begins_first : (test : Tok → Bool) (expr : ExprTree) (rest : List Tok) → begins test (expr_yield expr ++ rest) ≡ test (expr_first expr)
unfolding begins
begins_first test expr rest = rw (expr_begins expr).parts refl

pub begins_no_prefix : (expr : ExprTree) (rest : List Tok) → ExprFits expr → BindsAt POSTFIX_LEVEL expr → begins (is_op_of PREFIXES) (expr_yield expr ++ rest) ≡ false
unfolding begins_primary
begins_no_prefix expr rest fit binds = begins_first (is_op_of PREFIXES) expr rest ∙ not_true _ (both _ _ (primary_first expr fit binds)).1

-- none of the operators that no expression begins with
begins_other : (op : Op) → ((tok : Tok) → IsOp op tok → begins_expr tok ≡ false) → (expr : ExprTree) (rest : List Tok) → ExprFits expr → begins (is_op op) (expr_yield expr ++ rest) ≡ false
begins_other op none expr rest fit =
    begins_first (is_op op) expr rest ∙ weaker (is_op op (expr_first expr)) false (λ is. sym (none (expr_first expr) (is_op-IsOp op (expr_first expr) is)) ∙ expr_first-begins expr fit) refl

pub begins_no_brace : (expr : ExprTree) (rest : List Tok) → ExprFits expr → begins (is_op LEFT_BRACE) (expr_yield expr ++ rest) ≡ false
unfolding begins_expr
begins_no_brace = begins_other LEFT_BRACE (λ tok is. rw is refl)

pub begins_no_bracket : (expr : ExprTree) (rest : List Tok) → ExprFits expr → begins (is_op RIGHT_BRACKET) (expr_yield expr ++ rest) ≡ false
unfolding begins_expr
begins_no_bracket = begins_other RIGHT_BRACKET (λ tok is. rw is refl)
