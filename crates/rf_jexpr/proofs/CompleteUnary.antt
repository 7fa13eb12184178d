-- Casts, prefix operators and `++` or `--` behind an operand are read where they stand.
use Rattle.std.proofs.Common.{◌≡◌, ℕ, suc, ◌≤◌, List, [], ◌∷◌, ◌++◌, Option, Some, None, false, IsTrue, length, refl, ap, ◌∙◌, sym, subst, arith, append_assoc, le_refl}
use Rattle.std.proofs.lemmas.Bool.{le-leb}
use Rattle.rf_jtree.specs.declared.tokens.Tok.{Tok}
use Rattle.rf_jtree.specs.declared.levels.TheConstants.{UNARY_LEVEL, POSTFIX_LEVEL, PRIMARY_LEVEL}
use Rattle.rf_jtree.specs.declared.operator_names.TheConstants.{LEFT_PAREN, RIGHT_PAREN, LEFT_BRACKET, DOT, PREFIXES, SUFFIXES}
use Rattle.rf_jtree.specs.ExprFits.{ExprFits, IsCast, CastTakes, BeginsOperand, begins_operand}
use Rattle.rf_jtree.specs.ExprTrees.{ExprTree, Binary, Unary, Cast, Postfix, expr_yield, expr_depth}
use Rattle.rf_jtree.specs.Kinds.{IsOp, AreParens, is_op_of}
use Rattle.rf_jtree.specs.Levels.{BindsAt}
use Rattle.rf_jtree.specs.NameFits.{TypeFits}
use Rattle.rf_jtree.specs.NameTrees.{TypeBaseTree, Prim, Named, TypeUseTree, type_yield}
use Rattle.rf_jexpr.specs.Descent.{step, postfix, prefixed, is_primitive, casts, cast, unary}
use Rattle.rf_jexpr.specs.PartReads.{Parsers}
use Rattle.rf_jexpr.specs.Reads.{◌>>=◌, or_else, is_op, begins}
use Rattle.rf_jexpr.specs.Stops.{Stops}
use Rattle.rf_jexpr.proofs.Bounded.{step-bounded}
use Rattle.rf_jexpr.proofs.CompleteCast.{no_cast, cast_within, no_operand_behind}
use Rattle.rf_jexpr.proofs.CompleteFirst.{when-None}
use Rattle.rf_jexpr.proofs.CompleteNames.{no_brackets, type_use-exact}
use Rattle.rf_jexpr.proofs.CompleteParts.{AreComplete, reads-same}
use Rattle.rf_jexpr.proofs.CompletePrimary.{OverAll, op_other, primary-exact, primary-far}
use Rattle.rf_jexpr.proofs.First.{binary_level_less, begins_no_prefix}
use Rattle.rf_jexpr.proofs.SoundParts.{Good}
use Rattle.rf_jexpr.proofs.Standing.{Stands, stands_first, stands_turn, stands_over, stands_far}
use Rattle.rf_jexpr.proofs.StopLemmas.{stopped, apart_tok, of_kind, weaker}
use Rattle.rf_jexpr.proofs.Tools.{bind-Some, bind-None, else-Some, else-None, when-true, if-true, if-false, token-at, token-other, is_op-IsOp, IsOp-is_op}
use Rattle.rf_jexpr.proofs.Within.{Reaches, reaches-Some, reaches-bind, reaches-else, reaches-chain}

-- ---- levels

abbrev IsNoPostfix : ExprTree → Type 0
IsNoPostfix (Postfix operand op) = ⊥
IsNoPostfix expr = Unit {0}

primary_level : (expr : ExprTree) → IsNoPostfix expr → BindsAt POSTFIX_LEVEL expr → BindsAt PRIMARY_LEVEL expr
primary_level (Postfix operand op) other binds = absurd other
primary_level (Binary left op right) other binds = let less = binary_level_less op in absurd (omega arith)
primary_level expr other binds = omega arith

abbrev IsNoUnary : ExprTree → Type 0
IsNoUnary (Unary op operand) = ⊥
IsNoUnary (Cast left used_type right operand) = ⊥
IsNoUnary expr = Unit {0}

postfix_level : (expr : ExprTree) → IsNoUnary expr → BindsAt UNARY_LEVEL expr → BindsAt POSTFIX_LEVEL expr
postfix_level (Unary op operand) other binds = absurd other
postfix_level (Cast left used_type right operand) other binds = absurd other
postfix_level (Binary left op right) other binds = let less = binary_level_less op in absurd (omega arith)
postfix_level expr other binds = omega arith

-- ---- `++` and `--`

-- A `++` or `--` ends each primary expression.
suffix_over : (op : Tok) (rest : List Tok) → IsTrue (is_op_of SUFFIXES op) → OverAll (op ∷ rest)
unfolding begins is_op of_kind
suffix_over op rest h = record {
  dot = apart_tok (λ k. is_op DOT (of_kind k)) SUFFIXES refl op h;
  bracket = apart_tok (λ k. is_op LEFT_BRACKET (of_kind k)) SUFFIXES refl op h;
  paren = apart_tok (λ k. is_op LEFT_PAREN (of_kind k)) SUFFIXES refl op h;
}

-- An operand begins with a `(`.
no_operand_no_paren : (rest : List Tok) → begins begins_operand rest ≡ false → begins (is_op LEFT_PAREN) rest ≡ false
unfolding begins
no_operand_no_paren [] h = refl
no_operand_no_paren (tok ∷ rest) h = weaker (is_op LEFT_PAREN tok) (begins_operand tok) (λ is. opens (is_op-IsOp LEFT_PAREN tok is)) h
  where
    opens : IsOp LEFT_PAREN tok → IsTrue (begins_operand tok)
    opens is = rw is refl

stops_over : (level : ℕ) (rest : List Tok) → Stops level rest → OverAll rest
stops_over level rest stops = let s = stopped level rest stops in record { dot = s.dot; bracket = s.bracket; paren = no_operand_no_paren rest s.operand }

module _ (m : ℕ) (p : Parsers) (c : AreComplete m p) where
  abbrev StandsAt : ExprTree → List Tok → Type 0
  StandsAt = Stands m (postfix m p) (step m)

  step_turn : (operand : ExprTree) (op : Tok) (rest : List Tok) → expr_depth operand ≤ m → IsTrue (is_op_of SUFFIXES op) → step m operand (op ∷ rest) ≡ Some (Postfix operand op, rest)
  unfolding step
  step_turn operand op rest shallow is = when-true _ _ (le-leb (expr_depth operand) m shallow) ∙ bind-Some _ _ _ _ (token-at (is_op_of SUFFIXES) op rest is) refl

  no_step : (operand : ExprTree) (rest : List Tok) → begins (is_op_of SUFFIXES) rest ≡ false → step m operand rest ≡ None
  unfolding step
  no_step operand rest h = when-None _ _ (bind-None _ _ (token-other (is_op_of SUFFIXES) rest h))

  at_primary : (expr : ExprTree) (rest : List Tok) → ExprFits expr → BindsAt PRIMARY_LEVEL expr → expr_depth expr ≤ suc m → OverAll rest → StandsAt expr rest
  unfolding postfix
  at_primary expr rest fit binds shallow all = stands_first m (postfix m p) (step m) expr rest (bind-Some _ _ _ _ (primary-exact m p c expr rest fit binds shallow all) refl)

  -- what ends a primary expression
  abbrev Over : ExprTree → List Tok → Type 0
  Over (Postfix operand op) rest = Unit {0}
  Over expr rest = OverAll rest

  over : (expr : ExprTree) (rest : List Tok) → OverAll rest → Over expr rest
  over (Postfix operand op) rest all = tt
  over expr rest all = all

  stands : (expr : ExprTree) (rest : List Tok) → ExprFits expr → BindsAt POSTFIX_LEVEL expr → expr_depth expr ≤ suc m → Over expr rest → StandsAt expr rest
  stands (Postfix operand op) rest fit binds shallow all =
      stands_turn m (postfix m p) (step m) operand (Postfix operand op) (op ∷ rest) rest
      (stands operand (op ∷ rest) fit.1 fit.0.operand_binds (omega arith) (over operand (op ∷ rest) (suffix_over op rest fit.0.op_is))) (omega arith) (omega arith)
      (append_assoc (expr_yield operand) (op ∷ []) rest) (step_turn operand op rest (omega arith) fit.0.op_is)
  stands (Binary left op right) rest fit binds shallow all = let less = binary_level_less op in absurd (omega arith)
  stands expr rest fit binds shallow all = at_primary expr rest fit (primary_level expr tt binds) shallow all

  postfix-exact : (expr : ExprTree) (rest : List Tok) → ExprFits expr → BindsAt POSTFIX_LEVEL expr → expr_depth expr ≤ suc m → OverAll rest → begins (is_op_of SUFFIXES) rest ≡ false → postfix m p (expr_yield expr ++ rest) ≡ Some (expr, rest)
  postfix-exact expr rest fit binds shallow all none = stands_over m (postfix m p) (step m) expr rest (stands expr rest fit binds shallow (over expr rest all)) (no_step expr rest none)

  primary_reach : (expr : ExprTree) (rest : List Tok) → ExprFits expr → BindsAt PRIMARY_LEVEL expr → expr_depth expr ≤ suc m → Reaches (length rest) (postfix m p (expr_yield expr ++ rest))
  unfolding postfix
  primary_reach expr rest fit binds shallow =
      reaches-bind (length rest) _ _ (primary-far m p c expr rest fit binds shallow) (λ operand k. reaches-chain (step m) (step-bounded p c.bounded m) (suc m) (length rest) operand.0 operand.1 k)

  postfix-far : (expr : ExprTree) (rest : List Tok) → ExprFits expr → BindsAt POSTFIX_LEVEL expr → expr_depth expr ≤ suc m → Reaches (length rest) (postfix m p (expr_yield expr ++ rest))
  postfix-far (Postfix operand op) rest fit binds shallow =
      stands_far m (postfix m p) (step m) (step-bounded p c.bounded m) (Postfix operand op) rest (length rest) (stands (Postfix operand op) rest fit binds shallow tt) (le_refl (length rest))
  postfix-far (Binary left op right) rest fit binds shallow = let less = binary_level_less op in absurd (omega arith)
  postfix-far expr rest fit binds shallow = primary_reach expr rest fit (primary_level expr tt binds) shallow

  -- ---- prefix operators

  prefix_read : (op : Tok) (toks : List Tok) → IsTrue (is_op_of PREFIXES op) → (z : Option (ExprTree × List Tok)) → (p.unary toks >>= λ operand. Some (Unary op operand.0, operand.1)) ≡ z → unary m p (op ∷ toks) ≡ z
  unfolding unary prefixed begins
  prefix_read op toks is z h = if-true _ _ _ is ∙ bind-Some _ _ _ _ (token-at (is_op_of PREFIXES) op toks is) h

  -- ---- casts

  paren_no_prefix : (left : Tok) (toks : List Tok) → IsOp LEFT_PAREN left → begins (is_op_of PREFIXES) (left ∷ toks) ≡ false
  unfolding begins
  paren_no_prefix left toks is = rw is refl

  operand_begins : (operand rest : List Tok) → BeginsOperand operand → IsTrue (begins begins_operand (operand ++ rest))
  unfolding begins
  operand_begins [] rest h = absurd h
  operand_begins (tok ∷ operand) rest h = h

  casts_so : (base : TypeBaseTree) (pairs : List (Tok × Tok)) (operand rest : List Tok) → CastTakes base pairs operand → IsTrue (casts (record { base = base; dims = record { list = pairs } }) (operand ++ rest))
  unfolding casts is_primitive
  casts_so (Prim tok) [] operand rest h = refl
  casts_so (Prim tok) (pair ∷ pairs) operand rest h = operand_begins operand rest h
  casts_so (Named found) [] operand rest h = operand_begins operand rest h
  casts_so (Named found) (pair ∷ pairs) operand rest h = operand_begins operand rest h

  cast_read : (left : Tok) (used_type : TypeUseTree) (right : Tok) (toks : List Tok) → AreParens left right → TypeFits used_type → IsTrue (casts used_type toks) → (z : Option (ExprTree × List Tok))
      → (p.unary toks >>= λ operand. Some (Cast left used_type right operand.0, operand.1)) ≡ z → cast p (left ∷ (type_yield used_type ++ right ∷ toks)) ≡ z
  unfolding cast
  cast_read left used_type right toks parens fit is z h =
      bind-Some _ _ _ _ (token-at (is_op LEFT_PAREN) left _ (IsOp-is_op LEFT_PAREN left parens.0))
      (bind-Some _ _ _ _ (type_use-exact used_type (right ∷ toks) fit (op_other RIGHT_PAREN DOT right toks refl parens.1, no_brackets (right ∷ toks) (op_other RIGHT_PAREN LEFT_BRACKET right toks refl parens.1)))
      (bind-Some _ _ _ _ (token-at (is_op RIGHT_PAREN) right toks (IsOp-is_op RIGHT_PAREN right parens.1)) (ap (λ found. found >>= λ operand. Some (Cast left used_type right operand.0, operand.1)) (when-true _ (p.unary toks) is) ∙ h)))

  cast_tokens : (left : Tok) (used_type : TypeUseTree) (right : Tok) (operand : ExprTree) (rest : List Tok) → expr_yield (Cast left used_type right operand) ++ rest ≡ left ∷ (type_yield used_type ++ right ∷ (expr_yield operand ++ rest))
  cast_tokens left used_type right operand rest = ap (λ others. left ∷ others) (append_assoc (type_yield used_type) (right ∷ expr_yield operand) rest)

  paren_first : (left : Tok) (toks : List Tok) → IsOp LEFT_PAREN left → unary m p (left ∷ toks) ≡ or_else (cast p (left ∷ toks)) (postfix m p (left ∷ toks))
  unfolding unary
  paren_first left toks is = if-false _ _ _ (paren_no_prefix left toks is)

  -- ---- the reader

  good_unary : (operand : ExprTree) → ExprFits operand → BindsAt UNARY_LEVEL operand → expr_depth operand ≤ m → Good UNARY_LEVEL m operand
  good_unary operand fit binds shallow = record { fits = fit; binds = binds; shallow = shallow }

  no_operator : (expr : ExprTree) (rest : List Tok) → ExprFits expr → BindsAt POSTFIX_LEVEL expr → unary m p (expr_yield expr ++ rest) ≡ or_else (cast p (expr_yield expr ++ rest)) (postfix m p (expr_yield expr ++ rest))
  unfolding unary
  no_operator expr rest fit binds = if-false _ _ _ (begins_no_prefix expr rest fit binds)

  postfix_read : (expr : ExprTree) (rest : List Tok) → ExprFits expr → BindsAt POSTFIX_LEVEL expr → expr_depth expr ≤ suc m → Stops UNARY_LEVEL rest → unary m p (expr_yield expr ++ rest) ≡ Some (expr, rest)
  postfix_read expr rest fit binds shallow stops =
      let s = stopped UNARY_LEVEL rest stops in
      no_operator expr rest fit binds ∙ else-None _ _ (no_cast m p c expr rest fit binds (no_operand_behind expr rest s.operand)) ∙ postfix-exact expr rest fit binds shallow (stops_over UNARY_LEVEL rest stops) s.suffix

  pub unary-exact : (expr : ExprTree) (rest : List Tok) → ExprFits expr → BindsAt UNARY_LEVEL expr → expr_depth expr ≤ suc m → Stops UNARY_LEVEL rest → unary m p (expr_yield expr ++ rest) ≡ Some (expr, rest)
  unary-exact (Unary op operand) rest fit binds shallow stops = prefix_read op _ fit.0.op_is _ (bind-Some _ _ _ _ (c.unary.exact operand rest (good_unary operand fit.1 fit.0.operand_binds (omega arith)) stops) refl)
  unary-exact (Cast left used_type right operand) rest fit binds shallow stops =
      reads-same (unary m p) (cast_tokens left used_type right operand rest) (paren_first left _ fit.0.parens.0 ∙
      else-Some _ _ _ (cast_read left used_type right _ fit.0.parens fit.1 (casts_so used_type.base used_type.dims.list (expr_yield operand) rest fit.0.takes) _
      (bind-Some _ _ _ _ (c.unary.exact operand rest (good_unary operand fit.2 fit.0.operand_binds (omega arith)) stops) refl)))
  unary-exact (Binary left op right) rest fit binds shallow stops = let less = binary_level_less op in absurd (omega arith)
  unary-exact expr rest fit binds shallow stops = postfix_read expr rest fit (postfix_level expr tt binds) shallow stops

  postfix_reach : (expr : ExprTree) (rest : List Tok) → ExprFits expr → BindsAt POSTFIX_LEVEL expr → expr_depth expr ≤ suc m → Reaches (length rest) (unary m p (expr_yield expr ++ rest))
  postfix_reach expr rest fit binds shallow =
      subst (Reaches (length rest)) (sym (no_operator expr rest fit binds)) (reaches-else (length rest) _ _ (cast_within m p c expr rest fit binds) (postfix-far expr rest fit binds shallow))

  prefix_reach : (op : Tok) (operand : ExprTree) (rest : List Tok) → IsTrue (is_op_of PREFIXES op) → Reaches (length rest) (p.unary (expr_yield operand ++ rest)) → Reaches (length rest) (unary m p (op ∷ (expr_yield operand ++ rest)))
  prefix_reach op operand rest is far = reaches-Some (length rest) _ (Unary op far.to.0, far.to.1) (prefix_read op _ is _ (bind-Some _ _ _ _ far.reads refl)) far.left

  cast_reach : (left : Tok) (used_type : TypeUseTree) (right : Tok) (operand : ExprTree) (rest : List Tok) → IsCast left used_type right operand → TypeFits used_type → Reaches (length rest) (p.unary (expr_yield operand ++ rest)) → Reaches (length rest) (unary m p (expr_yield (Cast left used_type right operand) ++ rest))
  cast_reach left used_type right operand rest is fit far =
      reaches-Some (length rest) _ (Cast left used_type right far.to.0, far.to.1) (reads-same (unary m p) (cast_tokens left used_type right operand rest) (paren_first left _ is.parens.0 ∙
      else-Some _ _ _ (cast_read left used_type right _ is.parens fit (casts_so used_type.base used_type.dims.list (expr_yield operand) rest is.takes) _ (bind-Some _ _ _ _ far.reads refl)))) far.left

  pub unary-far : (expr : ExprTree) (rest : List Tok) → ExprFits expr → BindsAt UNARY_LEVEL expr → expr_depth expr ≤ suc m → Reaches (length rest) (unary m p (expr_yield expr ++ rest))
  unary-far (Unary op operand) rest fit binds shallow = prefix_reach op operand rest fit.0.op_is (c.unary.far operand rest (good_unary operand fit.1 fit.0.operand_binds (omega arith)))
  unary-far (Cast left used_type right operand) rest fit binds shallow = cast_reach left used_type right operand rest fit.0 fit.1 (c.unary.far operand rest (good_unary operand fit.2 fit.0.operand_binds (omega arith)))
  unary-far (Binary left op right) rest fit binds shallow = let less = binary_level_less op in absurd (omega arith)
  unary-far expr rest fit binds shallow = postfix_reach expr rest fit (postfix_level expr tt binds) shallow
