-- Each reader of expressions leaves no more than it was given.
use Rattle.std.proofs.Common.{ℕ, suc, List, [], ◌∷◌, None, refl}
use Rattle.rf_jtree.specs.declared.tokens.Tok.{Tok}
use Rattle.rf_jtree.specs.declared.operator_names.TheConstants.{LEFT_PAREN, RIGHT_PAREN, LEFT_BRACE, RIGHT_BRACE, LEFT_BRACKET, RIGHT_BRACKET, COMMA, DOT, QUESTION, COLON, ASSIGNMENTS, PREFIXES, SUFFIXES}
use Rattle.rf_jtree.specs.declared.keyword_names.TheConstants.{NEW, SUPER, THIS, INSTANCEOF, PRIMITIVES}
use Rattle.rf_jtree.specs.ExprTrees.{ExprTree}
use Rattle.rf_jtree.specs.Kinds.{is_op_of, is_key_of, is_literal}
use Rattle.rf_jtree.specs.NameTrees.{TypeBaseTree, Prim, Named}
use Rattle.rf_jexpr.specs.Descent.{step, postfix, prefixed, cast, unary, takes_left, operation, instance, operator, binary, choice, conditional, assignment, expr, init, nothing, with_room}
use Rattle.rf_jexpr.specs.NameReads.{name, brackets, dims, primitive, named_type, type_base, type_use}
use Rattle.rf_jexpr.specs.PartReads.{Parsers, paren, args, sized, braces}
use Rattle.rf_jexpr.specs.PrimaryReads.{literal, this_word, super_member, new_class, new_filled, new_array, creation, named_call, named, first_part, member_call, field, member, item, suffix, primary}
use Rattle.rf_jexpr.specs.Reads.{is_op, is_key, is_ident, token}
use Rattle.rf_jexpr.proofs.Within.{IsBounded, within-Some, within-None, within-bind, within-else, within-when, within-if, within-token, within-optional, within-many, within-separated, within-chain}

-- ---- names and types

pub name-bounded : IsBounded name
unfolding name
name-bounded n toks h = within-bind n _ _ (within-separated DOT (token is_ident) (within-token is_ident) n toks h) (λ ids k. within-Some n _ k)

pub brackets-bounded : IsBounded brackets
unfolding brackets
brackets-bounded n toks h =
    within-bind n _ _ (within-token (is_op LEFT_BRACKET) n toks h) (λ left k.
    within-bind n _ _ (within-token (is_op RIGHT_BRACKET) n left.1 k) (λ right l. within-Some n _ l))

pub dims-bounded : IsBounded dims
unfolding dims
dims-bounded n toks h = within-bind n _ _ (within-many brackets brackets-bounded n toks h) (λ pairs k. within-Some n _ k)

pub type_base-bounded : IsBounded type_base
unfolding type_base primitive named_type
type_base-bounded n toks h =
    within-if n _ _ _ (within-bind n _ _ (within-token (is_key_of PRIMITIVES) n toks h) (λ word k. within-Some n _ k)) (within-bind n _ _ (name-bounded n toks h) (λ found k. within-Some n _ k))

pub type_use-bounded : IsBounded type_use
unfolding type_use
type_use-bounded n toks h =
    within-bind n _ _ (type_base-bounded n toks h) (λ base k. within-bind n _ _ (dims-bounded n base.1 k) (λ bracket_pairs l. within-Some n _ l))

-- ---- parts

-- those of a room do so
pub record AreBounded (p : Parsers) : Type 0 where
  pub expr : IsBounded p.expr
  pub conditional : IsBounded p.conditional
  pub binary : (least : ℕ) → IsBounded (p.binary least)
  pub unary : IsBounded p.unary
  pub init : IsBounded p.init

module _ (p : Parsers) (w : AreBounded p) where
  pub paren-bounded : IsBounded (paren p)
  unfolding paren
  paren-bounded n toks h =
      within-bind n _ _ (within-token (is_op LEFT_PAREN) n toks h) (λ left k.
      within-bind n _ _ (w.expr n left.1 k) (λ operand l.
      within-bind n _ _ (within-token (is_op RIGHT_PAREN) n operand.1 l) (λ right o. within-Some n _ o)))

  pub args-bounded : IsBounded (args p)
  unfolding args
  args-bounded n toks h =
      within-bind n _ _ (within-token (is_op LEFT_PAREN) n toks h) (λ left k.
      within-bind n _ _ (within-optional _ (within-separated COMMA p.expr w.expr) n left.1 k) (λ list l.
      within-bind n _ _ (within-token (is_op RIGHT_PAREN) n list.1 l) (λ right o. within-Some n _ o)))

  pub sized-bounded : IsBounded (sized p)
  unfolding sized
  sized-bounded n toks h =
      within-bind n _ _ (within-token (is_op LEFT_BRACKET) n toks h) (λ left k.
      within-bind n _ _ (w.expr n left.1 k) (λ operand l.
      within-bind n _ _ (within-token (is_op RIGHT_BRACKET) n operand.1 l) (λ right o. within-Some n _ o)))

  pub braces-bounded : IsBounded (braces p)
  unfolding braces
  braces-bounded n toks h =
      within-bind n _ _ (within-token (is_op LEFT_BRACE) n toks h) (λ left k.
      within-bind n _ _ (within-optional _ (within-separated COMMA p.init w.init) n left.1 k) (λ items l.
      within-bind n _ _ (within-optional _ (within-token (is_op COMMA)) n items.1 l) (λ comma o.
      within-bind n _ _ (within-token (is_op RIGHT_BRACE) n comma.1 o) (λ right q. within-Some n _ q))))

  -- ---- primary expressions

  pub super_member-bounded : IsBounded (super_member p)
  unfolding super_member
  super_member-bounded n toks h =
      within-bind n _ _ (within-token (is_key SUPER) n toks h) (λ word k.
      within-bind n _ _ (within-token (is_op DOT) n word.1 k) (λ dot l.
      within-bind n _ _ (within-token is_ident n dot.1 l) (λ id o.
      within-bind n _ _ (within-optional (args p) args-bounded n id.1 o) (λ list q. within-Some n _ q))))

  pub new_class-bounded : (word : Tok) (base : TypeBaseTree) → IsBounded (new_class p word base)
  unfolding new_class
  new_class-bounded word (Prim tok) n toks h = within-None n None refl
  new_class-bounded word (Named class) n toks h = within-bind n _ _ (args-bounded n toks h) (λ list k. within-Some n _ k)

  pub new_array-bounded : (word : Tok) (base : TypeBaseTree) (sizes : List (Tok × ExprTree × Tok)) → IsBounded (new_array p word base sizes)
  unfolding new_array new_filled
  new_array-bounded word base [] n toks h =
      within-bind n _ _ (dims-bounded n toks h) (λ bracket_pairs k.
      within-bind n _ _ (within-when n _ _ (braces-bounded n bracket_pairs.1 k)) (λ items l. within-Some n _ l))
  new_array-bounded word base (size ∷ sizes) n toks h = within-bind n _ _ (dims-bounded n toks h) (λ bracket_pairs k. within-Some n _ k)

  pub creation-bounded : IsBounded (creation p)
  unfolding creation
  creation-bounded n toks h =
      within-bind n _ _ (within-token (is_key NEW) n toks h) (λ word k.
      within-bind n _ _ (type_base-bounded n word.1 k) (λ base l.
      within-if n _ _ _ (new_class-bounded word.0 base.0 n base.1 l)
      (within-bind n _ _ (within-many (sized p) sized-bounded n base.1 l) (λ sizes o. new_array-bounded word.0 base.0 sizes.0 n sizes.1 o))))

  pub named-bounded : (m : ℕ) → IsBounded (named m p)
  unfolding named named_call
  named-bounded m n toks h =
      within-bind n _ _ (name-bounded n toks h) (λ found k.
      within-else n _ _ (within-when n _ _ (within-bind n _ _ (args-bounded n found.1 k) (λ list l. within-Some n _ l))) (within-Some n _ k))

  pub first_part-bounded : (m : ℕ) → IsBounded (first_part m p)
  unfolding first_part literal this_word
  first_part-bounded m n toks h =
      within-if n _ _ _ (within-bind n _ _ (within-token is_literal n toks h) (λ tok k. within-Some n _ k))
      (within-if n _ _ _ (within-bind n _ _ (within-token (is_key THIS) n toks h) (λ word k. within-Some n _ k))
      (within-if n _ _ _ (paren-bounded n toks h)
      (within-if n _ _ _ (super_member-bounded n toks h)
      (within-if n _ _ _ (creation-bounded n toks h) (named-bounded m n toks h)))))

  pub suffix-bounded : (m : ℕ) (on : ExprTree) → IsBounded (suffix m p on)
  unfolding suffix member member_call field item
  suffix-bounded m on n toks h = within-when n _ _ (within-if n _ _ _
      (within-bind n _ _ (within-token (is_op DOT) n toks h) (λ dot k.
      within-bind n _ _ (within-token is_ident n dot.1 k) (λ id l.
      within-else n _ _ (within-bind n _ _ (args-bounded n id.1 l) (λ list o. within-Some n _ o)) (within-when n _ _ (within-Some n _ l)))))
      (within-bind n _ _ (within-when n _ _ (sized-bounded n toks h)) (λ index k. within-Some n _ k)))

  pub primary-bounded : (m : ℕ) → IsBounded (primary m p)
  unfolding primary
  primary-bounded m n toks h = within-bind n _ _ (first_part-bounded m n toks h) (λ first k. within-chain (suffix m p) (suffix-bounded m) (suc m) first.0 n first.1 k)

  -- ---- the levels

  pub step-bounded : (m : ℕ) (operand : ExprTree) → IsBounded (step m operand)
  unfolding step
  step-bounded m operand n toks h = within-when n _ _ (within-bind n _ _ (within-token (is_op_of SUFFIXES) n toks h) (λ op k. within-Some n _ k))

  pub postfix-bounded : (m : ℕ) → IsBounded (postfix m p)
  unfolding postfix
  postfix-bounded m n toks h = within-bind n _ _ (primary-bounded m n toks h) (λ operand k. within-chain (step m) (step-bounded m) (suc m) operand.0 n operand.1 k)

  pub cast-bounded : IsBounded (cast p)
  unfolding cast
  cast-bounded n toks h =
      within-bind n _ _ (within-token (is_op LEFT_PAREN) n toks h) (λ left k.
      within-bind n _ _ (type_use-bounded n left.1 k) (λ used_type l.
      within-bind n _ _ (within-token (is_op RIGHT_PAREN) n used_type.1 l) (λ right o.
      within-bind n _ _ (within-when n _ _ (w.unary n right.1 o)) (λ operand q. within-Some n _ q))))

  pub unary-bounded : (m : ℕ) → IsBounded (unary m p)
  unfolding unary prefixed
  unary-bounded m n toks h =
      within-if n _ _ _ (within-bind n _ _ (within-token (is_op_of PREFIXES) n toks h) (λ op k. within-bind n _ _ (w.unary n op.1 k) (λ operand l. within-Some n _ l)))
      (within-else n _ _ (cast-bounded n toks h) (postfix-bounded m n toks h))

  pub operator-bounded : (m least : ℕ) (left : ExprTree) → IsBounded (operator m p least left)
  unfolding operator operation instance
  operator-bounded m least left n toks h = within-when n _ _ (within-if n _ _ _
      (within-bind n _ _ (within-when n _ _ (within-token (is_key INSTANCEOF) n toks h)) (λ word k. within-bind n _ _ (type_use-bounded n word.1 k) (λ used_type l. within-Some n _ l)))
      (within-bind n _ _ (within-token (takes_left least left) n toks h) (λ op k. within-bind n _ _ (w.binary _ n op.1 k) (λ right l. within-Some n _ l))))

  pub binary-bounded : (m least : ℕ) → IsBounded (binary m p least)
  unfolding binary
  binary-bounded m least n toks h = within-bind n _ _ (unary-bounded m n toks h) (λ first k. within-chain (operator m p least) (operator-bounded m least) (suc m) first.0 n first.1 k)

  pub choice-bounded : (m : ℕ) (test : ExprTree) → IsBounded (choice m p test)
  unfolding choice
  choice-bounded m test n toks h =
      within-bind n _ _ (within-when n _ _ (within-token (is_op QUESTION) n toks h)) (λ mark k.
      within-bind n _ _ (w.expr n mark.1 k) (λ first l.
      within-bind n _ _ (within-token (is_op COLON) n first.1 l) (λ colon o.
      within-bind n _ _ (w.conditional n colon.1 o) (λ other q. within-Some n _ q))))

  pub conditional-bounded : (m : ℕ) → IsBounded (conditional m p)
  unfolding conditional
  conditional-bounded m n toks h = within-bind n _ _ (binary-bounded m _ n toks h) (λ test k. within-else n _ _ (choice-bounded m test.0 n test.1 k) (within-Some n _ k))

  pub assignment-bounded : (m : ℕ) (left : ExprTree) → IsBounded (assignment m p left)
  unfolding assignment
  assignment-bounded m left n toks h =
      within-bind n _ _ (within-when n _ _ (within-token (is_op_of ASSIGNMENTS) n toks h)) (λ op k. within-bind n _ _ (w.expr n op.1 k) (λ operand l. within-Some n _ l))

  pub expr-bounded : (m : ℕ) → IsBounded (expr m p)
  unfolding expr
  expr-bounded m n toks h = within-bind n _ _ (conditional-bounded m n toks h) (λ left k. within-else n _ _ (assignment-bounded m left.0 n left.1 k) (within-Some n _ k))

  pub init-bounded : (m : ℕ) → IsBounded (init m p)
  unfolding init
  init-bounded m n toks h = within-if n _ _ _
      (within-bind n _ _ (braces-bounded n toks h) (λ items k. within-Some n _ k))
      (within-bind n _ _ (expr-bounded m n toks h) (λ operand k. within-Some n _ k))

pub next-bounded : (p : Parsers) → AreBounded p → (m : ℕ) → AreBounded (with_room m p)
unfolding with_room
next-bounded p w m = record { expr = expr-bounded p w m; conditional = conditional-bounded p w m; binary = binary-bounded p w m; unary = unary-bounded p w m; init = init-bounded p w m }

pub nothing-bounded : AreBounded nothing
unfolding nothing
nothing-bounded = record {
  expr = λ n toks h. within-None n None refl;
  conditional = λ n toks h. within-None n None refl;
  binary = λ least n toks h. within-None n None refl;
  unary = λ n toks h. within-None n None refl;
  init = λ n toks h. within-None n None refl;
}
