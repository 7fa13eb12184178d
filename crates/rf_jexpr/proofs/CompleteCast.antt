-- No cast is read where a primary expression stands, or `++` behind one.
use Rattle.std.proofs.Common.{◌≡◌, ℕ, List, [], ◌∷◌, ◌++◌, Option, Some, None, false, IsTrue, length, refl, ap, ◌∙◌, sym, subst, arith, append_assoc, le_refl}
use Rattle.rf_jtree.specs.declared.operators.Op.{Op}
use Rattle.rf_jtree.specs.declared.tokens.Tok.{Tok}
use Rattle.rf_jtree.specs.declared.levels.TheConstants.{POSTFIX_LEVEL}
use Rattle.rf_jtree.specs.declared.operator_names.TheConstants.{LEFT_PAREN, RIGHT_PAREN, LEFT_BRACKET, DOT, ASSIGNMENTS, SUFFIXES, OPERAND_OPERATORS}
use Rattle.rf_jtree.specs.declared.keyword_names.TheConstants.{NEW, SUPER, THIS}
use Rattle.rf_jtree.specs.declared.words.Kw.{Kw}
use Rattle.rf_jtree.specs.ExprFits.{ExprFits, begins_operand}
use Rattle.rf_jtree.specs.ExprTrees.{ExprTree, Assign, Cond, Binary, Instance, Unary, Cast, Postfix, Lit, This, Paren, Name, Call, Field, Super, New, Index, NewArray, NewInit}
use Rattle.rf_jtree.specs.ExprTrees.{NoOn, On, expr_yield, args_yield}
use Rattle.rf_jtree.specs.Kinds.{IsOp, IsKey, IsIdent, AreParens, is_op_of, has_op, is_literal}
use Rattle.rf_jtree.specs.Levels.{BindsAt}
use Rattle.rf_jtree.specs.NameFits.{NameFits}
use Rattle.rf_jtree.specs.NameTrees.{NameTree, name_yield}
use Rattle.rf_jexpr.specs.Descent.{is_primitive, casts, cast}
use Rattle.rf_jexpr.specs.NameReads.{type_use}
use Rattle.rf_jexpr.specs.PartReads.{Parsers}
use Rattle.rf_jexpr.specs.Reads.{◌>>=◌, when, is_op, begins}
use Rattle.rf_jexpr.proofs.CallNames.{dotted-tokens, item-tokens}
use Rattle.rf_jexpr.proofs.CompleteNames.{no_brackets}
use Rattle.rf_jexpr.proofs.CompleteParts.{AreComplete, reads-same}
use Rattle.rf_jexpr.proofs.CompletePrimary.{op_other}
use Rattle.rf_jexpr.proofs.First.{primary_binds, binary_level_less}
use Rattle.rf_jexpr.proofs.NoTypeLemmas.{NoTypeBefore, PassedByNone, no_type_before, bare, bare-read}
use Rattle.rf_jexpr.proofs.StopLemmas.{apart_tok, no_op, of_kind, weaker}
use Rattle.rf_jexpr.proofs.Tools.{bind-Some, bind-None, missing, there, perhaps, when-false, token-at, token-other, is_op-IsOp, IsOp-is_op}
use Rattle.rf_jexpr.proofs.Within.{Within, within-Some, within-None, within-bind, within-when}

-- ---- an expression in parentheses is no cast

-- A cast takes no primary expression, unless it is a name in parentheses and an operand follows.
abbrev pub NoOperandBehind : ExprTree → List Tok → Type 0
NoOperandBehind (Paren left operand right) rest = begins begins_operand rest ≡ false
NoOperandBehind expr rest = Unit {0}

pub no_operand_behind : (expr : ExprTree) (rest : List Tok) → begins begins_operand rest ≡ false → NoOperandBehind expr rest
no_operand_behind (Paren left operand right) rest h = h
no_operand_behind expr rest h = tt

op_no_operand : (op : Op) (tok : Tok) (rest : List Tok) → has_op OPERAND_OPERATORS op ≡ false → IsOp op tok → begins begins_operand (tok ∷ rest) ≡ false
unfolding begins of_kind
op_no_operand op tok rest h is = rw is h

suffix_no_operand : (tok : Tok) (rest : List Tok) → IsTrue (is_op_of SUFFIXES tok) → begins begins_operand (tok ∷ rest) ≡ false
unfolding begins of_kind
suffix_no_operand tok rest h = apart_tok (λ k. begins_operand (of_kind k)) SUFFIXES refl tok h

key_no_paren : (word : Kw) (tok : Tok) (rest : List Tok) → IsKey word tok → begins (is_op LEFT_PAREN) (tok ∷ rest) ≡ false
unfolding begins is_op
key_no_paren word tok rest h = rw h refl

ident_no_paren : (tok : Tok) (rest : List Tok) → IsIdent tok → begins (is_op LEFT_PAREN) (tok ∷ rest) ≡ false
unfolding begins is_op
ident_no_paren tok rest h = rw h refl

literal_no_paren : (tok : Tok) (rest : List Tok) → IsTrue (is_literal tok) → begins (is_op LEFT_PAREN) (tok ∷ rest) ≡ false
unfolding begins
literal_no_paren tok rest h = weaker (is_op LEFT_PAREN tok) false (λ is. sym (none is) ∙ h) refl
  where
    none : IsTrue (is_op LEFT_PAREN tok) → is_literal tok ≡ false
    none is = rw (is_op-IsOp LEFT_PAREN tok is) refl

parens_passed : PassedByNone (is_op RIGHT_PAREN)
unfolding is_op of_kind
parens_passed = record {
  binary = λ tok h. no_op RIGHT_PAREN refl tok h;
  assignment = λ tok h. apart_tok (λ k. is_op RIGHT_PAREN (of_kind k)) ASSIGNMENTS refl tok h;
  suffix = λ tok h. apart_tok (λ k. is_op RIGHT_PAREN (of_kind k)) SUFFIXES refl tok h;
  instance = λ tok h. rw h refl;
  question = λ tok h. rw h refl;
  left_paren = λ tok h. rw h refl;
  left_bracket = λ tok h. rw h refl;
}

module _ (m : ℕ) (p : Parsers) (c : AreComplete m p) where
  not_open : (toks : List Tok) → begins (is_op LEFT_PAREN) toks ≡ false → cast p toks ≡ None
  unfolding cast
  not_open toks h = bind-None _ _ (token-other (is_op LEFT_PAREN) toks h)

  no_type_inside : (left : Tok) (toks : List Tok) → IsOp LEFT_PAREN left → NoTypeBefore (is_op RIGHT_PAREN) toks → cast p (left ∷ toks) ≡ None
  unfolding cast
  no_type_inside left toks is none =
      bind-Some _ _ _ _ (token-at (is_op LEFT_PAREN) left toks (IsOp-is_op LEFT_PAREN left is)) (elim (perhaps (type_use toks)) [
        | missing found ↦ bind-None _ _ found
        | there y found ↦ bind-Some _ _ _ _ found (bind-None _ _ (token-other (is_op RIGHT_PAREN) y.1 (none y found)))
      ])

  -- a name in parentheses
  name_inside : (left : Tok) (found : NameTree) (right : Tok) (rest : List Tok) → AreParens left right → NameFits found → (z : Option (ExprTree × List Tok))
      → (when (begins begins_operand rest) (p.unary rest) >>= λ operand. Some (Cast left (bare found) right operand.0, operand.1)) ≡ z → cast p (left ∷ (name_yield found ++ right ∷ rest)) ≡ z
  unfolding cast casts is_primitive bare
  name_inside left found right rest parens fit z h =
      bind-Some _ _ _ _ (token-at (is_op LEFT_PAREN) left _ (IsOp-is_op LEFT_PAREN left parens.0))
      (bind-Some _ _ _ _ (bare-read found (right ∷ rest) fit (op_other RIGHT_PAREN DOT right rest refl parens.1) (no_brackets (right ∷ rest) (op_other RIGHT_PAREN LEFT_BRACKET right rest refl parens.1)))
      (bind-Some _ _ _ _ (token-at (is_op RIGHT_PAREN) right rest (IsOp-is_op RIGHT_PAREN right parens.1)) h))

  paren_no_cast : (left : Tok) (operand : ExprTree) (right : Tok) (rest : List Tok) → AreParens left right → ExprFits operand → begins begins_operand rest ≡ false → cast p (left ∷ (expr_yield operand ++ right ∷ rest)) ≡ None
  paren_no_cast left (Name found) right rest parens fit none = name_inside left found right rest parens fit None (bind-None _ _ (when-false _ _ none))
  paren_no_cast left operand right rest parens fit none = no_type_inside left _ parens.0 (no_type_before (is_op RIGHT_PAREN) parens_passed operand (right ∷ rest) fit tt)

  paren_within : (left : Tok) (operand : ExprTree) (right : Tok) (rest : List Tok) → AreParens left right → ExprFits operand → Within (length rest) (cast p (left ∷ (expr_yield operand ++ right ∷ rest)))
  paren_within left (Name found) right rest parens fit =
      let n = length rest in
      let within = within-bind n (when (begins begins_operand rest) (p.unary rest)) (λ operand. Some (Cast left (bare found) right operand.0, operand.1)) (within-when n _ _ (c.bounded.unary n rest (le_refl n))) (λ operand k. within-Some n _ k) in
      subst (Within n) (sym (name_inside left found right rest parens fit _ refl)) within
  paren_within left operand right rest parens fit = within-None _ _ (no_type_inside left _ parens.0 (no_type_before (is_op RIGHT_PAREN) parens_passed operand (right ∷ rest) fit tt))

  paren_tokens : (left : Tok) (operand : ExprTree) (right : Tok) (rest : List Tok) → expr_yield (Paren left operand right) ++ rest ≡ left ∷ (expr_yield operand ++ right ∷ rest)
  paren_tokens left operand right rest = ap (λ others. left ∷ others) (append_assoc (expr_yield operand) (right ∷ []) rest)

  pub no_cast : (expr : ExprTree) (rest : List Tok) → ExprFits expr → BindsAt POSTFIX_LEVEL expr → NoOperandBehind expr rest → cast p (expr_yield expr ++ rest) ≡ None
  no_cast (Assign left op operand) rest fit binds none = absurd (omega arith)
  no_cast (Cond test mark first colon other) rest fit binds none = absurd (omega arith)
  no_cast (Binary left op right) rest fit binds none = let less = binary_level_less op in absurd (omega arith)
  no_cast (Instance operand word used_type) rest fit binds none = absurd (omega arith)
  no_cast (Unary op operand) rest fit binds none = absurd (omega arith)
  no_cast (Cast left used_type right operand) rest fit binds none = absurd (omega arith)
  no_cast (Postfix operand op) rest fit binds none =
      reads-same (cast p) (append_assoc (expr_yield operand) (op ∷ []) rest) (no_cast operand (op ∷ rest) fit.1 fit.0.operand_binds (no_operand_behind operand (op ∷ rest) (suffix_no_operand op rest fit.0.op_is)))
  no_cast (Lit tok) rest fit binds none = not_open _ (literal_no_paren tok rest fit)
  no_cast (This tok) rest fit binds none = not_open _ (key_no_paren THIS tok rest fit)
  no_cast (Paren left operand right) rest fit binds none = reads-same (cast p) (paren_tokens left operand right rest) (paren_no_cast left operand right rest fit.0 fit.1 none)
  no_cast (Name found) rest fit binds none = not_open _ (ident_no_paren found.ids.first _ fit.0)
  no_cast (Call NoOn id list) rest fit binds none = not_open _ (ident_no_paren id _ fit.1)
  no_cast (Call (On operand dot) id list) rest fit binds none =
      reads-same (cast p) (dotted-tokens (expr_yield operand) dot id (args_yield list) rest) (no_cast operand _ fit.0.1 (primary_binds operand fit.0.0.primary) (no_operand_behind operand _ (op_no_operand DOT dot _ refl fit.0.0.dot_is)))
  no_cast (Field operand dot id) rest fit binds none =
      reads-same (cast p) (append_assoc (expr_yield operand) (dot ∷ id ∷ []) rest) (no_cast operand _ fit.1 (primary_binds operand fit.0.primary) (no_operand_behind operand _ (op_no_operand DOT dot _ refl fit.0.dot_is)))
  no_cast (Super word dot id list) rest fit binds none = not_open _ (key_no_paren SUPER word _ fit.0.word_is)
  no_cast (New word class list) rest fit binds none = not_open _ (key_no_paren NEW word _ fit.0)
  no_cast (Index operand left index right) rest fit binds none =
      reads-same (cast p) (item-tokens (expr_yield operand) left (expr_yield index) right rest) (no_cast operand _ fit.1 (primary_binds operand fit.0.primary) (no_operand_behind operand _ (op_no_operand LEFT_BRACKET left _ refl fit.0.brackets.0)))
  no_cast (NewArray word base sizes bracket_pairs) rest fit binds none = not_open _ (key_no_paren NEW word _ fit.0)
  no_cast (NewInit word base bracket_pairs items) rest fit binds none = not_open _ (key_no_paren NEW word _ fit.0)

  pub cast_within : (expr : ExprTree) (rest : List Tok) → ExprFits expr → BindsAt POSTFIX_LEVEL expr → Within (length rest) (cast p (expr_yield expr ++ rest))
  cast_within (Paren left operand right) rest fit binds = subst (λ (toks : List Tok). Within (length rest) (cast p toks)) (sym (paren_tokens left operand right rest)) (paren_within left operand right rest fit.0 fit.1)
  cast_within expr rest fit binds = within-None _ _ (no_cast expr rest fit binds tt)
