-- An expression isn't taken for a type with a certain token behind it, as a `)` or an identifier, unless it is a name alone.
use Rattle.std.proofs.Common.{◌≡◌, ◌≤◌, ◌||◌, List, [], ◌∷◌, ◌++◌, Some, None, Bool, false, IsTrue, refl, ◌∙◌, sym, subst, append_assoc}
use Rattle.rf_jtree.specs.declared.operators.Op.{Op}
use Rattle.rf_jtree.specs.declared.tokens.Tok.{Tok}
use Rattle.rf_jtree.specs.declared.tokens.TokKind.{TokKind}
use Rattle.rf_jtree.specs.declared.tokens.TokKind.TheVariants as kind
use Rattle.rf_jtree.specs.declared.words.Kw.{Kw}
use Rattle.rf_jtree.specs.declared.levels.TheConstants.{OR_OR_LEVEL}
use Rattle.rf_jtree.specs.declared.operator_names.TheConstants.{LEFT_PAREN, LEFT_BRACKET, RIGHT_BRACKET, DOT, QUESTION, ASSIGNMENTS, PREFIXES, SUFFIXES}
use Rattle.rf_jtree.specs.declared.keyword_names.TheConstants.{INSTANCEOF, NEW, SUPER, THIS, PRIMITIVES}
use Rattle.rf_jtree.specs.ExprFits.{ExprFits, ArgsFit, IsNoName}
use Rattle.rf_jtree.specs.ExprTrees.{ExprTree, Assign, Cond, Binary, Instance, Unary, Cast, Postfix, Lit, This, Paren, Name, Call, Field, Super, New, Index, NewArray, NewInit}
use Rattle.rf_jtree.specs.ExprTrees.{NoOn, On, ArgsTree, Args, expr_yield, args_yield}
use Rattle.rf_jtree.specs.Kinds.{IsOp, IsKey, IsIdent, is_op_of, is_key_of, has_key, is_literal}
use Rattle.rf_jtree.specs.Levels.{binary_level}
use Rattle.rf_jtree.specs.NameFits.{NameFits}
use Rattle.rf_jtree.specs.NameTrees.{NameTree, Named, TypeUseTree, name_yield}
use Rattle.rf_jexpr.specs.NameReads.{name, brackets, primitive, named_type, type_base, type_use}
use Rattle.rf_jexpr.specs.Reads.{is_op, is_ident, begins, separated}
use Rattle.rf_jexpr.proofs.CallNames.{with_member, alone, member-fits, member-tokens, dotted-tokens, item-tokens, alone-fits}
use Rattle.rf_jexpr.proofs.CompleteNames.{type_use-exact, no_brackets}
use Rattle.rf_jexpr.proofs.First.{begins_no_bracket}
use Rattle.rf_jexpr.proofs.StopLemmas.{no_op, apart_tok, of_kind, weaker, false_or, or_false}
use Rattle.rf_jexpr.proofs.Tools.{bind-Some, bind-None, if-false, token-at, token-other, IsOp-is_op, is_ident-IsIdent}

-- no type with a token behind it that passes the test begins so
abbrev pub NoTypeBefore : (Tok → Bool) → List Tok → Type 0
NoTypeBefore stop toks = (y : TypeUseTree × List Tok) → type_use toks ≡ Some y → begins stop y.1 ≡ false

-- a test that no token passes with which an expression goes on
pub record PassedByNone (stop : Tok → Bool) : Type 0 where
  pub binary : (tok : Tok) → OR_OR_LEVEL ≤ binary_level tok → stop tok ≡ false
  pub assignment : (tok : Tok) → IsTrue (is_op_of ASSIGNMENTS tok) → stop tok ≡ false
  pub suffix : (tok : Tok) → IsTrue (is_op_of SUFFIXES tok) → stop tok ≡ false
  pub instance : (tok : Tok) → IsKey INSTANCEOF tok → stop tok ≡ false
  pub question : (tok : Tok) → IsOp QUESTION tok → stop tok ≡ false
  pub left_paren : (tok : Tok) → IsOp LEFT_PAREN tok → stop tok ≡ false
  pub left_bracket : (tok : Tok) → IsOp LEFT_BRACKET tok → stop tok ≡ false

-- the use of a name as a type, without brackets
unfoldable pub bare : NameTree → TypeUseTree
bare found = record { base = Named found; dims = record { list = [] } }

pub bare-read : (found : NameTree) (rest : List Tok) → NameFits found → begins (is_op DOT) rest ≡ false → brackets rest ≡ None → type_use (name_yield found ++ rest) ≡ Some (bare found, rest)
unfolding bare
bare-read found rest fit no_dot none =
    let same : (name_yield found ++ []) ++ rest ≡ name_yield found ++ rest = append_assoc (name_yield found) [] rest in
    subst (λ (toks : List Tok). type_use toks ≡ Some (bare found, rest)) same (type_use-exact (bare found) rest (fit, tt) (no_dot, none))

literal_no_ident : (tok : Tok) → IsTrue (is_literal tok) → is_ident tok ≡ false
literal_no_ident tok h = weaker (is_ident tok) false (λ is. sym (none is) ∙ h) refl
  where
    none : IsTrue (is_ident tok) → is_literal tok ≡ false
    none is = rw (is_ident-IsIdent tok is) refl

literal_no_word : (words : List Kw) (tok : Tok) → IsTrue (is_literal tok) → is_key_of words tok ≡ false
literal_no_word words tok h = by_kind tok.kind refl
  where
    by_kind : (k : TokKind) → tok.kind ≡ k → is_key_of words tok ≡ false
    by_kind (kind.Key word) e = absurd (cc (rw e at h))
    by_kind other e = rw e refl

-- what a type goes on with
unfoldable longer : Tok → Bool
longer tok = is_op DOT tok || is_op LEFT_BRACKET tok

module _ (stop : Tok → Bool) (passed : PassedByNone stop) where
  same_tokens : {one other : List Tok} → one ≡ other → NoTypeBefore stop other → NoTypeBefore stop one
  same_tokens same h = subst (NoTypeBefore stop) (sym same) h

  by_name : (found : NameTree) (rest : List Tok) → NameFits found → begins (is_op DOT) rest ≡ false → brackets rest ≡ None → begins stop rest ≡ false → NoTypeBefore stop (name_yield found ++ rest)
  by_name found rest fit no_dot none no_stop y h =
      let read = bare-read found rest fit no_dot none in
      let same : rest ≡ y.1 = cc in
      subst (λ (toks : List Tok). begins stop toks ≡ false) same no_stop

  -- no type begins so
  no_type : (tok : Tok) (rest : List Tok) → is_ident tok ≡ false → is_key_of PRIMITIVES tok ≡ false → NoTypeBefore stop (tok ∷ rest)
  unfolding type_use type_base primitive named_type name separated begins
  no_type tok rest no_ident no_word y h =
      let none : type_use (tok ∷ rest) ≡ None = bind-None _ _ (if-false _ _ _ no_word ∙ bind-None _ _ (bind-None _ _ (bind-None _ _ (token-other is_ident (tok ∷ rest) no_ident)))) in
      absurd (cc)

  op_no_type : (op : Op) (tok : Tok) (rest : List Tok) → IsOp op tok → NoTypeBefore stop (tok ∷ rest)
  unfolding is_ident
  op_no_type op tok rest h = no_type tok rest (rw h refl) (rw h refl)

  key_no_type : (word : Kw) (tok : Tok) (rest : List Tok) → has_key PRIMITIVES word ≡ false → IsKey word tok → NoTypeBefore stop (tok ∷ rest)
  unfolding is_ident
  key_no_type word tok rest none h = no_type tok rest (rw h refl) (rw h none)

  prefix_no_type : (tok : Tok) (rest : List Tok) → IsTrue (is_op_of PREFIXES tok) → NoTypeBefore stop (tok ∷ rest)
  prefix_no_type tok rest h = by_kind tok.kind refl
    where
      by_kind : (k : TokKind) → tok.kind ≡ k → NoTypeBefore stop (tok ∷ rest)
      by_kind (kind.Op op) e = op_no_type op tok rest e
      by_kind other e = absurd (cc (rw e at h))

  literal_no_type : (tok : Tok) (rest : List Tok) → IsTrue (is_literal tok) → NoTypeBefore stop (tok ∷ rest)
  literal_no_type tok rest h = no_type tok rest (literal_no_ident tok h) (literal_no_word PRIMITIVES tok h)

  -- ---- what ends a type, and doesn't pass the test

  abbrev Ends : Tok → Type 0
  Ends tok = (longer tok ≡ false) × (stop tok ≡ false)

  binary_ends : (tok : Tok) → OR_OR_LEVEL ≤ binary_level tok → Ends tok
  unfolding longer
  binary_ends tok h = (false_or _ _ (no_op DOT refl tok h) (no_op LEFT_BRACKET refl tok h), passed.binary tok h)

  assignment_ends : (tok : Tok) → IsTrue (is_op_of ASSIGNMENTS tok) → Ends tok
  unfolding longer is_op of_kind
  assignment_ends tok h = (apart_tok (λ k. longer (of_kind k)) ASSIGNMENTS refl tok h, passed.assignment tok h)

  suffix_ends : (tok : Tok) → IsTrue (is_op_of SUFFIXES tok) → Ends tok
  unfolding longer is_op of_kind
  suffix_ends tok h = (apart_tok (λ k. longer (of_kind k)) SUFFIXES refl tok h, passed.suffix tok h)

  instance_ends : (tok : Tok) → IsKey INSTANCEOF tok → Ends tok
  unfolding longer is_op
  instance_ends tok h = (rw h refl, passed.instance tok h)

  question_ends : (tok : Tok) → IsOp QUESTION tok → Ends tok
  unfolding longer is_op
  question_ends tok h = (rw h refl, passed.question tok h)

  paren_ends : (tok : Tok) → IsOp LEFT_PAREN tok → Ends tok
  unfolding longer is_op
  paren_ends tok h = (rw h refl, passed.left_paren tok h)

  before : (found : NameTree) (tok : Tok) (rest : List Tok) → NameFits found → Ends tok → NoTypeBefore stop (name_yield found ++ tok ∷ rest)
  unfolding longer begins
  before found tok rest fit stops =
      let more = or_false _ _ stops.0 in
      by_name found (tok ∷ rest) fit more.0 (no_brackets (tok ∷ rest) more.1) stops.1

  -- a left operand before such a token
  operand_before : (left : ExprTree) (tok : Tok) (rest : List Tok) → ExprFits left → Ends tok → (IsNoName left → NoTypeBefore stop (expr_yield left ++ tok ∷ rest)) → NoTypeBefore stop (expr_yield left ++ tok ∷ rest)
  operand_before (Name found) tok rest fit stops otherwise = before found tok rest fit stops
  operand_before left tok rest fit stops otherwise = otherwise tt

  -- an item of an expression
  item_before : (operand : ExprTree) (left : Tok) (index : ExprTree) (rest : List Tok) → ExprFits operand → IsOp LEFT_BRACKET left → ExprFits index
      → (IsNoName operand → NoTypeBefore stop (expr_yield operand ++ left ∷ (expr_yield index ++ rest))) → NoTypeBefore stop (expr_yield operand ++ left ∷ (expr_yield index ++ rest))
  unfolding begins is_op brackets
  item_before (Name found) left index rest fit is inner otherwise =
      by_name found (left ∷ (expr_yield index ++ rest)) fit (rw is refl)
      (bind-Some _ _ _ _ (token-at (is_op LEFT_BRACKET) left (expr_yield index ++ rest) (IsOp-is_op LEFT_BRACKET left is)) (bind-None _ _ (token-other (is_op RIGHT_BRACKET) _ (begins_no_bracket index rest inner)))) (passed.left_bracket left is)
  item_before operand left index rest fit is inner otherwise = otherwise tt

  args_before : (found : NameTree) (args : ArgsTree) (rest : List Tok) → NameFits found → ArgsFit args → NoTypeBefore stop (name_yield found ++ (args_yield args ++ rest))
  args_before found (Args left list right) rest fit args_fit = before found left _ fit (paren_ends left args_fit.0.0)

  method_before : (id : Tok) (args : ArgsTree) (rest : List Tok) → IsIdent id → ArgsFit args → NoTypeBefore stop (id ∷ (args_yield args ++ rest))
  unfolding alone
  method_before id args rest is fit = args_before (alone id) args rest (alone-fits id is) fit

  -- a call of a method of an expression
  called_before : (operand : ExprTree) (dot id : Tok) (args : ArgsTree) (rest : List Tok) → ExprFits operand → IsOp DOT dot → IsIdent id → ArgsFit args
      → (IsNoName operand → NoTypeBefore stop (expr_yield operand ++ dot ∷ id ∷ (args_yield args ++ rest))) → NoTypeBefore stop (((expr_yield operand ++ dot ∷ []) ++ id ∷ args_yield args) ++ rest)
  called_before (Name found) dot id args rest fit dot_is id_is args_fit otherwise =
      same_tokens (member-tokens found dot id (args_yield args) rest) (args_before (with_member found dot id) args rest (member-fits found dot id fit dot_is id_is) args_fit)
  called_before operand dot id args rest fit dot_is id_is args_fit otherwise = same_tokens (dotted-tokens (expr_yield operand) dot id (args_yield args) rest) (otherwise tt)

  -- ---- expressions

  -- an operand, and a token behind it that ends a type
  behind_operand : (left : ExprTree) (op : Tok) (more rest : List Tok) → ExprFits left → Ends op → (IsNoName left → NoTypeBefore stop (expr_yield left ++ op ∷ (more ++ rest))) → NoTypeBefore stop ((expr_yield left ++ op ∷ more) ++ rest)
  behind_operand left op more rest fit stops otherwise = same_tokens (append_assoc (expr_yield left) (op ∷ more) rest) (operand_before left op (more ++ rest) fit stops otherwise)

  pub no_type_before : (expr : ExprTree) (rest : List Tok) → ExprFits expr → IsNoName expr → NoTypeBefore stop (expr_yield expr ++ rest)
  no_type_before (Assign left op operand) rest fit not_name = behind_operand left op _ rest fit.1 (assignment_ends op fit.0.op_is) (no_type_before left _ fit.1)
  no_type_before (Cond test mark first colon other) rest fit not_name = behind_operand test mark _ rest fit.1 (question_ends mark fit.0.mark_is) (no_type_before test _ fit.1)
  no_type_before (Binary left op right) rest fit not_name = behind_operand left op _ rest fit.1 (binary_ends op fit.0.op_is) (no_type_before left _ fit.1)
  no_type_before (Instance operand word used_type) rest fit not_name = behind_operand operand word _ rest fit.1 (instance_ends word fit.0.word_is) (no_type_before operand _ fit.1)
  no_type_before (Unary op operand) rest fit not_name = prefix_no_type op _ fit.0.op_is
  no_type_before (Cast left used_type right operand) rest fit not_name = op_no_type LEFT_PAREN left _ fit.0.parens.0
  no_type_before (Postfix operand op) rest fit not_name = behind_operand operand op _ rest fit.1 (suffix_ends op fit.0.op_is) (no_type_before operand _ fit.1)
  no_type_before (Lit tok) rest fit not_name = literal_no_type tok _ fit
  no_type_before (This tok) rest fit not_name = key_no_type THIS tok _ refl fit
  no_type_before (Paren left operand right) rest fit not_name = op_no_type LEFT_PAREN left _ fit.0.0
  no_type_before (Name found) rest fit not_name = absurd not_name
  no_type_before (Call NoOn id args) rest fit not_name = method_before id args rest fit.1 fit.2
  no_type_before (Call (On operand dot) id args) rest fit not_name = called_before operand dot id args rest fit.0.1 fit.0.0.dot_is fit.1 fit.2 (no_type_before operand _ fit.0.1)
  no_type_before (Field operand dot id) rest fit not_name = same_tokens (append_assoc (expr_yield operand) (dot ∷ id ∷ []) rest) (no_type_before operand _ fit.1 fit.0.no_name)
  no_type_before (Super word dot id args) rest fit not_name = key_no_type SUPER word _ refl fit.0.word_is
  no_type_before (New word class args) rest fit not_name = key_no_type NEW word _ refl fit.0
  no_type_before (Index operand left index right) rest fit not_name =
      same_tokens (item-tokens (expr_yield operand) left (expr_yield index) right rest) (item_before operand left index (right ∷ rest) fit.1 fit.0.brackets.0 fit.2 (no_type_before operand _ fit.1))
  no_type_before (NewArray word base sizes bracket_pairs) rest fit not_name = key_no_type NEW word _ refl fit.0
  no_type_before (NewInit word base bracket_pairs init) rest fit not_name = key_no_type NEW word _ refl fit.0
