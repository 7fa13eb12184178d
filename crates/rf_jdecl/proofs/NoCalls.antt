-- No statement begins with `this(` or `super(`.
use Rattle.std.proofs.Common.{◌≡◌, ℕ, zero, suc, List, ◌∷◌, Option, Some, None, Bool, true, false, ◌⊎◌, inl, inr, IsTrue, refl, ◌∙◌}
use Rattle.rf_jtree.specs.declared.tokens.Tok.{Tok}
use Rattle.rf_jtree.specs.declared.levels.TheConstants.{OR_OR_LEVEL}
use Rattle.rf_jtree.specs.declared.operator_names.TheConstants.{LEFT_PAREN, LEFT_BRACKET, DOT, QUESTION, ASSIGNMENTS, PREFIXES, SUFFIXES}
use Rattle.rf_jtree.specs.declared.keyword_names.TheConstants.{INSTANCEOF, SUPER, THIS}
use Rattle.rf_jtree.specs.ExprTrees.{ExprTree, This}
use Rattle.rf_jtree.specs.Kinds.{IsOp, IsKey, is_op_of, is_literal}
use Rattle.rf_jexpr.specs.Descent.{step, postfix, cast, unary, takes_left, operation, operator, binary, choice, conditional, assignment, expr, nothing, with_room, parsers}
use Rattle.rf_jexpr.specs.PartReads.{Parsers, sized}
use Rattle.rf_jexpr.specs.PrimaryReads.{this_word, super_member, first_part, item, suffix, primary}
use Rattle.rf_jexpr.specs.Reads.{when, is_op, is_key, is_ident, begins}
use Rattle.rf_jexpr.specs.Stops.{begins_expr}
use Rattle.rf_jexpr.proofs.LoopLemmas.{chain-stops}
use Rattle.rf_jexpr.proofs.Tools.{bind-Some, bind-None, else-None, when-false, if-true, if-false, token-at, token-other, IsKey-is_key}
use Rattle.rf_jstmt.specs.StmtReads.{expression_stmt, stmt, block_stmt, no_stmts, with_stmt_room, stmt_parsers}
use Rattle.rf_jstmt.specs.StmtTests.{is_statement_expr}
use Rattle.rf_jstmt.specs.VarReads.{marks_local, ends_before, begins_local, begins_label}
use Rattle.rf_jdecl.proofs.ExactHeads.{no_type}

-- a reader that reads nothing here, whether its test passes or not
no_when : {A : Type 0} (test : Bool) (result : Option A) → result ≡ None → when test result ≡ None
unfolding when
no_when true result h = h
no_when false result h = refl

-- behind `this` or `super`, a `(` goes on with no expression
module _ (m : ℕ) (p : Parsers) (word left : Tok) (more : List Tok) (is : IsOp LEFT_PAREN left) where
  no_dot : begins (is_op DOT) (left ∷ more) ≡ false
  unfolding begins is_op
  no_dot = rw is refl

  no_suffix : (found : ExprTree) → suffix m p found (left ∷ more) ≡ None
  unfolding suffix item sized begins is_op
  no_suffix found =
      let no_bracket : begins (is_op LEFT_BRACKET) (left ∷ more) ≡ false = rw is refl in
      no_when _ _ (if-false _ _ _ no_dot ∙ bind-None _ _ (no_when _ _ (bind-None _ _ (token-other (is_op LEFT_BRACKET) (left ∷ more) no_bracket))))

  no_step : (found : ExprTree) → step m found (left ∷ more) ≡ None
  unfolding step begins
  no_step found = no_when _ _ (bind-None _ _ (token-other (is_op_of SUFFIXES) (left ∷ more) (rw is refl)))

  no_operator : (found : ExprTree) → operator m p OR_OR_LEVEL found (left ∷ more) ≡ None
  unfolding operator operation takes_left begins is_key
  no_operator found =
      let no_instance : begins (is_key INSTANCEOF) (left ∷ more) ≡ false = rw is refl in
      no_when _ _ (if-false _ _ _ no_instance ∙ bind-None _ _ (token-other (takes_left OR_OR_LEVEL found) (left ∷ more) (rw is refl)))

  no_choice : (found : ExprTree) → choice m p found (left ∷ more) ≡ None
  unfolding choice begins is_op
  no_choice found = bind-None _ _ (no_when _ _ (token-other (is_op QUESTION) (left ∷ more) (rw is refl)))

  no_assignment : (found : ExprTree) → assignment m p found (left ∷ more) ≡ None
  unfolding assignment begins
  no_assignment found = bind-None _ _ (no_when _ _ (token-other (is_op_of ASSIGNMENTS) (left ∷ more) (rw is refl)))

  -- what a word with no operator before it is read as
  abbrev IsNoOther : Type 0
  IsNoOther = (begins (is_op_of PREFIXES) (word ∷ left ∷ more) ≡ false) × (begins (is_op LEFT_PAREN) (word ∷ left ∷ more) ≡ false)

  by_primary : IsNoOther → unary m p (word ∷ left ∷ more) ≡ postfix m p (word ∷ left ∷ more)
  unfolding unary cast
  by_primary none = if-false _ _ _ none.0 ∙ else-None _ _ (bind-None _ _ (token-other (is_op LEFT_PAREN) (word ∷ left ∷ more) none.1))

  -- `this` is read alone
  this_first : IsKey THIS word → first_part m p (word ∷ left ∷ more) ≡ Some (This word, left ∷ more)
  unfolding first_part this_word begins is_key
  this_first h =
      let no_literal : begins is_literal (word ∷ left ∷ more) ≡ false = rw h refl in
      let is_this : IsTrue (begins (is_key THIS) (word ∷ left ∷ more)) = rw h refl in
      if-false _ _ _ no_literal ∙ if-true _ _ _ is_this ∙ bind-Some _ _ _ _ (token-at (is_key THIS) word (left ∷ more) (IsKey-is_key THIS word h)) refl

  this_alone : IsKey THIS word → expr m p (word ∷ left ∷ more) ≡ Some (This word, left ∷ more)
  unfolding expr conditional binary postfix primary begins is_op
  this_alone h =
      let primary_read = bind-Some _ _ _ _ (this_first h) (chain-stops (suffix m p) (suc m) (This word) (left ∷ more) (no_suffix (This word))) in
      let postfix_read = bind-Some _ _ _ _ primary_read (chain-stops (step m) (suc m) (This word) (left ∷ more) (no_step (This word))) in
      let unary_read : unary m p (word ∷ left ∷ more) ≡ Some (This word, left ∷ more) = by_primary (rw h refl, rw h refl) ∙ postfix_read in
      let binary_read = bind-Some _ _ _ _ unary_read (chain-stops (operator m p OR_OR_LEVEL) (suc m) (This word) (left ∷ more) (no_operator (This word))) in
      let conditional_read = bind-Some _ _ _ _ binary_read (else-None _ _ (no_choice (This word))) in
      bind-Some _ _ _ _ conditional_read (else-None _ _ (no_assignment (This word)))

  -- and `super` not at all
  super_first : IsKey SUPER word → first_part m p (word ∷ left ∷ more) ≡ None
  unfolding first_part super_member begins is_key is_op
  super_first h =
      let no_literal : begins is_literal (word ∷ left ∷ more) ≡ false = rw h refl in
      let no_this : begins (is_key THIS) (word ∷ left ∷ more) ≡ false = rw h refl in
      let no_paren : begins (is_op LEFT_PAREN) (word ∷ left ∷ more) ≡ false = rw h refl in
      let is_super : IsTrue (begins (is_key SUPER) (word ∷ left ∷ more)) = rw h refl in
      if-false _ _ _ no_literal ∙ if-false _ _ _ no_this ∙ if-false _ _ _ no_paren ∙ if-true _ _ _ is_super ∙
      bind-Some _ _ _ _ (token-at (is_key SUPER) word (left ∷ more) (IsKey-is_key SUPER word h)) (bind-None _ _ (token-other (is_op DOT) (left ∷ more) no_dot))

  no_super : IsKey SUPER word → expr m p (word ∷ left ∷ more) ≡ None
  unfolding expr conditional binary postfix primary begins is_op
  no_super h =
      let no_unary : unary m p (word ∷ left ∷ more) ≡ None = by_primary (rw h refl, rw h refl) ∙ bind-None _ _ (bind-None _ _ (super_first h)) in
      bind-None _ _ (bind-None _ _ (bind-None _ _ no_unary))

-- ---- in each room

abbrev pub CallsCtor : Tok → Type 0
CallsCtor word = (IsKey THIS word) ⊎ (IsKey SUPER word)

no_expression_stmt : (room : ℕ) (word left : Tok) (more : List Tok) → IsOp LEFT_PAREN left → CallsCtor word → expression_stmt (parsers room) (word ∷ left ∷ more) ≡ None
unfolding expression_stmt parsers nothing with_room is_statement_expr
no_expression_stmt zero word left more is calls = bind-None _ _ refl
no_expression_stmt (suc m) word left more is (inl one) = bind-Some _ _ _ _ (this_alone m (parsers m) word left more is one) (bind-None _ _ (when-false _ _ refl))
no_expression_stmt (suc m) word left more is (inr other) = bind-None _ _ (no_super m (parsers m) word left more is other)

-- a word that is neither a type nor a label's name, and begins an expression
record BeginsExpr (word : Tok) (toks : List Tok) : Type 0 where
  no_local : begins_local (word ∷ toks) ≡ false
  is_expr : IsTrue (begins begins_expr (word ∷ toks))
  no_label : begins_label (word ∷ toks) ≡ false

by_word : (word : Tok) (toks : List Tok) → CallsCtor word → BeginsExpr word toks
unfolding begins_local begins marks_local ends_before begins_label begins_expr is_op is_key is_ident
by_word word toks (inl one) = record { no_local = rw (no_type word toks (rw one refl) (rw one refl), one) refl; is_expr = rw one refl; no_label = rw one refl }
by_word word toks (inr other) = record { no_local = rw (no_type word toks (rw other refl) (rw other refl), other) refl; is_expr = rw other refl; no_label = rw other refl }

pub no_stmt : (room : ℕ) (word left : Tok) (more : List Tok) → IsOp LEFT_PAREN left → CallsCtor word → (stmt_parsers room).block_stmt (word ∷ left ∷ more) ≡ None
unfolding stmt_parsers no_stmts with_stmt_room block_stmt stmt
no_stmt zero word left more is calls = refl
no_stmt (suc m) word left more is calls =
    let known = by_word word (left ∷ more) calls in
    if-false _ _ _ known.no_local ∙ if-true _ _ _ known.is_expr ∙ if-false _ _ _ known.no_label ∙ no_expression_stmt m word left more is calls
