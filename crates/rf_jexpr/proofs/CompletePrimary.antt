-- Primary expressions are read where they stand: their first part, and what follows it part by part.
use Rattle.std.proofs.Common.{◌≡◌, ℕ, suc, ◌≤◌, List, [], ◌∷◌, ◌++◌, Option, Some, None, false, IsTrue, ◌==◌, length, refl, ap, ◌∙◌, sym, subst, arith, append_assoc, le_refl}
use Rattle.std.proofs.lemmas.Bool.{le-leb}
use Rattle.rf_jtree.specs.declared.operators.Op.{Op}
use Rattle.rf_jtree.specs.declared.tokens.Tok.{Tok}
use Rattle.rf_jtree.specs.declared.levels.TheConstants.{ASSIGNMENT_LEVEL, PRIMARY_LEVEL}
use Rattle.rf_jtree.specs.declared.operator_names.TheConstants.{LEFT_PAREN, LEFT_BRACKET, DOT}
use Rattle.rf_jtree.specs.ExprFits.{ExprFits, ArgsFit, IsNoName, IsNoNewArray}
use Rattle.rf_jtree.specs.ExprTrees.{ExprTree, Assign, Cond, Binary, Instance, Unary, Cast, Postfix, Lit, This, Paren, Name, Call, Field, Super, New, Index, NewArray, NewInit}
use Rattle.rf_jtree.specs.ExprTrees.{NoOn, On, ArgsTree, NoArgs, SuperArgs, SizesTree, BracesTree, expr_yield, args_yield, sizes_yield, braces_yield, expr_depth, args_depth}
use Rattle.rf_jtree.specs.Kinds.{IsOp, IsIdent, AreBrackets}
use Rattle.rf_jtree.specs.Levels.{BindsAt}
use Rattle.rf_jtree.specs.declared.names.Dims.{Dims}
use Rattle.rf_jtree.specs.NameTrees.{TypeBaseTree, name_yield, base_yield, dims_yield}
use Rattle.rf_jexpr.specs.PartReads.{Parsers, sized}
use Rattle.rf_jexpr.specs.PrimaryReads.{first_part, member_call, is_no_name, field, member, is_no_new_array, item, suffix, primary}
use Rattle.rf_jexpr.specs.Reads.{or_else, is_op, is_ident, begins}
use Rattle.rf_jexpr.proofs.Bounded.{args-bounded, suffix-bounded}
use Rattle.rf_jexpr.proofs.CallNames.{member-tokens, dotted-tokens, item-tokens}
use Rattle.rf_jexpr.proofs.CompleteFirst.{named-exact, method-exact, member-exact, named-far, super_call-exact, super_field-exact, super_field-far, new-exact, filled-exact, array-exact, array-far, literal-exact, this-exact, paren_first-exact, no_args, when-None}
use Rattle.rf_jexpr.proofs.CompleteParts.{AreComplete, args-exact, sized-exact, no_size, reads-same}
use Rattle.rf_jexpr.proofs.First.{binary_level_less}
use Rattle.rf_jexpr.proofs.SoundParts.{Good, GoodArgs}
use Rattle.rf_jexpr.proofs.Standing.{Stands, stands_first, stands_turn, stands_over, stands_far, stands_turn_far}
use Rattle.rf_jexpr.proofs.Tools.{bind-Some, bind-None, else-Some, else-None, when-true, if-true, if-false, token-at, IsOp-is_op, IsIdent-is_ident}
use Rattle.rf_jexpr.proofs.Within.{Reaches, reaches-Some, reaches-bind, reaches-else, reaches-chain, within-Some, within-bind}

-- What follows goes on with no first part, and makes no arguments of this expression.
abbrev pub Over : ExprTree → List Tok → Type 0
Over (Name found) rest = (begins (is_op DOT) rest ≡ false) × (begins (is_op LEFT_PAREN) rest ≡ false)
Over (Field operand dot id) rest = begins (is_op LEFT_PAREN) rest ≡ false
Over (Super word dot id NoArgs) rest = begins (is_op LEFT_PAREN) rest ≡ false
Over (NewArray word base sizes bracket_pairs) rest = begins (is_op LEFT_BRACKET) rest ≡ false
Over expr rest = Unit {0}

-- It does so for no primary expression.
pub record OverAll (rest : List Tok) : Type 0 where
  pub dot : begins (is_op DOT) rest ≡ false
  pub bracket : begins (is_op LEFT_BRACKET) rest ≡ false
  pub paren : begins (is_op LEFT_PAREN) rest ≡ false

over : (expr : ExprTree) (rest : List Tok) → OverAll rest → Over expr rest
over (Name found) rest all = (all.dot, all.paren)
over (Field operand dot id) rest all = all.paren
over (Super word dot id NoArgs) rest all = all.paren
over (NewArray word base sizes bracket_pairs) rest all = all.bracket
over (Super word dot id (SuperArgs list)) rest all = tt
over expr rest all = tt

pub op_other : (op other : Op) (tok : Tok) (rest : List Tok) → (op.0 == other.0) ≡ false → IsOp op tok → begins (is_op other) (tok ∷ rest) ≡ false
unfolding begins is_op
op_other op other tok rest h is = rw is h

over_dot : (operand : ExprTree) (dot : Tok) (rest : List Tok) → IsNoName operand → IsOp DOT dot → Over operand (dot ∷ rest)
over_dot (Name found) dot rest no_name is = absurd no_name
over_dot (Field operand inner id) dot rest no_name is = op_other DOT LEFT_PAREN dot rest refl is
over_dot (Super word inner id NoArgs) dot rest no_name is = op_other DOT LEFT_PAREN dot rest refl is
over_dot (Super word inner id (SuperArgs list)) dot rest no_name is = tt
over_dot (NewArray word base sizes bracket_pairs) dot rest no_name is = op_other DOT LEFT_BRACKET dot rest refl is
over_dot expr dot rest no_name is = tt

over_bracket : (operand : ExprTree) (left : Tok) (rest : List Tok) → IsNoNewArray operand → IsOp LEFT_BRACKET left → Over operand (left ∷ rest)
over_bracket (Name found) left rest no_array is = (op_other LEFT_BRACKET DOT left rest refl is, op_other LEFT_BRACKET LEFT_PAREN left rest refl is)
over_bracket (Field operand inner id) left rest no_array is = op_other LEFT_BRACKET LEFT_PAREN left rest refl is
over_bracket (Super word inner id NoArgs) left rest no_array is = op_other LEFT_BRACKET LEFT_PAREN left rest refl is
over_bracket (Super word inner id (SuperArgs list)) left rest no_array is = tt
over_bracket (NewArray word base sizes bracket_pairs) left rest no_array is = absurd no_array
over_bracket expr left rest no_array is = tt

no_name_test : (operand : ExprTree) → IsNoName operand → IsTrue (is_no_name operand)
unfolding is_no_name
no_name_test (Name found) h = absurd h
no_name_test expr h = refl

no_new_array_test : (operand : ExprTree) → IsNoNewArray operand → IsTrue (is_no_new_array operand)
unfolding is_no_new_array
no_new_array_test (NewArray word base sizes bracket_pairs) h = absurd h
no_new_array_test expr h = refl

-- the tokens of new arrays
pub array_tokens : (word : Tok) (base : TypeBaseTree) (sizes : SizesTree) (bracket_pairs : Dims) (rest : List Tok) → expr_yield (NewArray word base sizes bracket_pairs) ++ rest ≡ word ∷ (base_yield base ++ (sizes_yield sizes ++ (dims_yield bracket_pairs ++ rest)))
array_tokens word base sizes bracket_pairs rest = ap (λ others. word ∷ others) (append_assoc (base_yield base) (sizes_yield sizes ++ dims_yield bracket_pairs) rest ∙ ap (λ others. base_yield base ++ others) (append_assoc (sizes_yield sizes) (dims_yield bracket_pairs) rest))

pub filled_tokens : (word : Tok) (base : TypeBaseTree) (bracket_pairs : Dims) (items : BracesTree) (rest : List Tok) → expr_yield (NewInit word base bracket_pairs items) ++ rest ≡ word ∷ (base_yield base ++ (dims_yield bracket_pairs ++ (braces_yield items ++ rest)))
filled_tokens word base bracket_pairs items rest = ap (λ others. word ∷ others) (append_assoc (base_yield base) (dims_yield bracket_pairs ++ braces_yield items) rest ∙ ap (λ others. base_yield base ++ others) (append_assoc (dims_yield bracket_pairs) (braces_yield items) rest))

-- no part follows
module _ (m : ℕ) (p : Parsers) (c : AreComplete m p) where
  no_suffix : (on : ExprTree) (rest : List Tok) → begins (is_op DOT) rest ≡ false → begins (is_op LEFT_BRACKET) rest ≡ false → suffix m p on rest ≡ None
  unfolding suffix item
  no_suffix on rest no_dot no_bracket = when-None _ _ (if-false _ _ _ no_dot ∙ bind-None _ _ (when-None _ _ (no_size m p c rest no_bracket)))

  -- an item
  item_turn : (on : ExprTree) (left : Tok) (index : ExprTree) (right : Tok) (rest : List Tok) → expr_depth on ≤ m → IsNoNewArray on → AreBrackets left right → Good ASSIGNMENT_LEVEL m index
      → suffix m p on (left ∷ (expr_yield index ++ right ∷ rest)) ≡ Some (Index on left index right, rest)
  unfolding suffix item
  item_turn on left index right rest shallow no_array pair good =
      let read = sized-exact m p c (left, index, right) rest (record { are_brackets = pair; good = good }) tt in
      when-true _ _ (le-leb (expr_depth on) m shallow) ∙ if-false _ _ _ (op_other LEFT_BRACKET DOT left _ refl pair.0) ∙
      bind-Some _ _ _ _ (when-true _ _ (no_new_array_test on no_array) ∙ reads-same (sized p) (sym (ap (λ others. left ∷ others) (append_assoc (expr_yield index) (right ∷ []) rest))) read) refl

  -- a member
  member_read : (on : ExprTree) (dot id : Tok) (rest : List Tok) → expr_depth on ≤ m → IsOp DOT dot → IsIdent id → (z : Option (ExprTree × List Tok))
      → or_else (member_call p on dot id rest) (field on dot id rest) ≡ z → suffix m p on (dot ∷ id ∷ rest) ≡ z
  unfolding suffix member begins
  member_read on dot id rest shallow dot_is id_is z h =
      when-true _ _ (le-leb (expr_depth on) m shallow) ∙ if-true _ _ _ (IsOp-is_op DOT dot dot_is) ∙
      bind-Some _ _ _ _ (token-at (is_op DOT) dot _ (IsOp-is_op DOT dot dot_is)) (bind-Some _ _ _ _ (token-at is_ident id rest (IsIdent-is_ident id id_is)) h)

  call_turn : (on : ExprTree) (dot id : Tok) (list : ArgsTree) (rest : List Tok) → expr_depth on ≤ m → IsOp DOT dot → IsIdent id → GoodArgs m list
      → suffix m p on (dot ∷ id ∷ (args_yield list ++ rest)) ≡ Some (Call (On on dot) id list, rest)
  unfolding member_call
  call_turn on dot id list rest shallow dot_is id_is good =
      member_read on dot id _ shallow dot_is id_is _ (else-Some _ _ _ (bind-Some _ _ _ _ (args-exact m p c list rest good tt) refl))

  field_here : (on : ExprTree) (dot id : Tok) (rest : List Tok) → IsNoName on → field on dot id rest ≡ Some (Field on dot id, rest)
  unfolding field
  field_here on dot id rest no_name = when-true _ _ (no_name_test on no_name)

  field_turn : (on : ExprTree) (dot id : Tok) (rest : List Tok) → expr_depth on ≤ m → IsOp DOT dot → IsIdent id → IsNoName on → begins (is_op LEFT_PAREN) rest ≡ false
      → suffix m p on (dot ∷ id ∷ rest) ≡ Some (Field on dot id, rest)
  unfolding member_call
  field_turn on dot id rest shallow dot_is id_is no_name no_paren =
      member_read on dot id rest shallow dot_is id_is _ (else-None _ _ (bind-None _ _ (no_args m p c rest no_paren)) ∙ field_here on dot id rest no_name)

  field_turn_far : (on : ExprTree) (dot id : Tok) (rest : List Tok) → expr_depth on ≤ m → IsOp DOT dot → IsIdent id → IsNoName on → Reaches (length rest) (suffix m p on (dot ∷ id ∷ rest))
  unfolding member_call
  field_turn_far on dot id rest shallow dot_is id_is no_name =
      let n = length rest in
      let reached = reaches-else n (member_call p on dot id rest) (field on dot id rest) (within-bind n _ _ (args-bounded p c.bounded n rest (le_refl n)) (λ list k. within-Some n _ k)) (reaches-Some n _ _ (field_here on dot id rest no_name) (le_refl n)) in
      reaches-Some n _ reached.to (member_read on dot id rest shallow dot_is id_is _ reached.reads) reached.left

  -- ---- the loop

  abbrev pub StandsAt : ExprTree → List Tok → Type 0
  StandsAt = Stands m (primary m p) (suffix m p)

  at_first : (expr : ExprTree) (rest : List Tok) → first_part m p (expr_yield expr ++ rest) ≡ Some (expr, rest) → StandsAt expr rest
  unfolding primary
  at_first expr rest h = stands_first m (primary m p) (suffix m p) expr rest (bind-Some _ _ _ _ h refl)

  at_turn : (operand expr : ExprTree) (between rest : List Tok) → StandsAt operand between → expr_depth operand ≤ m → suc (expr_depth operand) ≤ expr_depth expr
      → expr_yield expr ++ rest ≡ expr_yield operand ++ between → suffix m p operand between ≡ Some (expr, rest) → StandsAt expr rest
  at_turn = stands_turn m (primary m p) (suffix m p)

  -- a call of a method of an expression
  at_call : (operand : ExprTree) (dot id : Tok) (list : ArgsTree) (rest : List Tok) → ExprFits operand → IsOp DOT dot → IsIdent id → GoodArgs m list → expr_depth operand ≤ m
      → (IsNoName operand → StandsAt operand (dot ∷ id ∷ (args_yield list ++ rest))) → StandsAt (Call (On operand dot) id list) rest
  at_call (Name found) dot id list rest fit dot_is id_is good shallow otherwise =
      at_first (Call (On (Name found) dot) id list) rest (reads-same (first_part m p) (member-tokens found dot id (args_yield list) rest) (member-exact m p c found dot id list rest fit dot_is id_is good shallow))
  at_call operand dot id list rest fit dot_is id_is good shallow otherwise =
      at_turn operand (Call (On operand dot) id list) (dot ∷ id ∷ (args_yield list ++ rest)) rest (otherwise tt) shallow (omega arith) (dotted-tokens (expr_yield operand) dot id (args_yield list) rest) (call_turn operand dot id list rest shallow dot_is id_is good)

  good_args : (list : ArgsTree) → ArgsFit list → args_depth list ≤ m → GoodArgs m list
  good_args list fit shallow = record { fits = fit; shallow = shallow }

  good_expr : (expr : ExprTree) → ExprFits expr → expr_depth expr ≤ m → Good ASSIGNMENT_LEVEL m expr
  good_expr expr fit shallow = record { fits = fit; binds = omega arith; shallow = shallow }

  pub stands : (expr : ExprTree) (rest : List Tok) → ExprFits expr → BindsAt PRIMARY_LEVEL expr → expr_depth expr ≤ suc m → Over expr rest → StandsAt expr rest
  stands (Assign left op operand) rest fit binds shallow stops = absurd (omega arith)
  stands (Cond test mark first colon other) rest fit binds shallow stops = absurd (omega arith)
  stands (Binary left op right) rest fit binds shallow stops = let less = binary_level_less op in absurd (omega arith)
  stands (Instance operand word used_type) rest fit binds shallow stops = absurd (omega arith)
  stands (Unary op operand) rest fit binds shallow stops = absurd (omega arith)
  stands (Cast left used_type right operand) rest fit binds shallow stops = absurd (omega arith)
  stands (Postfix operand op) rest fit binds shallow stops = absurd (omega arith)
  stands (Lit tok) rest fit binds shallow stops = at_first (Lit tok) rest (literal-exact m p c tok rest fit)
  stands (This tok) rest fit binds shallow stops = at_first (This tok) rest (this-exact m p c tok rest fit)
  stands (Paren left operand right) rest fit binds shallow stops =
      at_first (Paren left operand right) rest (reads-same (first_part m p) (ap (λ others. left ∷ others) (append_assoc (expr_yield operand) (right ∷ []) rest)) (paren_first-exact m p c left operand right rest fit.0 (good_expr operand fit.1 (omega arith))))
  stands (Name found) rest fit binds shallow stops = at_first (Name found) rest (named-exact m p c found rest fit stops.0 stops.1)
  stands (Call NoOn id list) rest fit binds shallow stops = at_first (Call NoOn id list) rest (method-exact m p c id list rest fit.1 (good_args list fit.2 (omega arith)))
  stands (Call (On operand dot) id list) rest fit binds shallow stops =
      at_call operand dot id list rest fit.0.1 fit.0.0.dot_is fit.1 (good_args list fit.2 (omega arith)) (omega arith)
      (λ no_name. stands operand (dot ∷ id ∷ (args_yield list ++ rest)) fit.0.1 fit.0.0.primary (omega arith) (over_dot operand dot _ no_name fit.0.0.dot_is))
  stands (Field operand dot id) rest fit binds shallow stops =
      at_turn operand (Field operand dot id) (dot ∷ id ∷ rest) rest (stands operand (dot ∷ id ∷ rest) fit.1 fit.0.primary (omega arith) (over_dot operand dot _ fit.0.no_name fit.0.dot_is)) (omega arith) (omega arith)
      (append_assoc (expr_yield operand) (dot ∷ id ∷ []) rest) (field_turn operand dot id rest (omega arith) fit.0.dot_is fit.0.id_is fit.0.no_name stops)
  stands (Super word dot id NoArgs) rest fit binds shallow stops = at_first (Super word dot id NoArgs) rest (super_field-exact m p c word dot id rest fit.0 stops)
  stands (Super word dot id (SuperArgs list)) rest fit binds shallow stops = at_first (Super word dot id (SuperArgs list)) rest (super_call-exact m p c word dot id list rest fit.0 (good_args list fit.1 (omega arith)))
  stands (New word class list) rest fit binds shallow stops =
      at_first (New word class list) rest (reads-same (first_part m p) (ap (λ others. word ∷ others) (append_assoc (name_yield class) (args_yield list) rest)) (new-exact m p c word class list rest fit.0 fit.1 (good_args list fit.2 (omega arith))))
  stands (Index operand left index right) rest fit binds shallow stops =
      at_turn operand (Index operand left index right) (left ∷ (expr_yield index ++ right ∷ rest)) rest (stands operand (left ∷ (expr_yield index ++ right ∷ rest)) fit.1 fit.0.primary (omega arith) (over_bracket operand left _ fit.0.no_new_array fit.0.brackets.0)) (omega arith) (omega arith)
      (item-tokens (expr_yield operand) left (expr_yield index) right rest) (item_turn operand left index right rest (omega arith) fit.0.no_new_array fit.0.brackets (good_expr index fit.2 (omega arith)))
  stands (NewArray word base sizes bracket_pairs) rest fit binds shallow over =
      at_first (NewArray word base sizes bracket_pairs) rest (reads-same (first_part m p) (array_tokens word base sizes bracket_pairs rest) (array-exact m p c word base sizes bracket_pairs rest fit.0 fit.1 fit.2 fit.3 (omega arith) fit.4 over))
  stands (NewInit word base bracket_pairs items) rest fit binds shallow over =
      at_first (NewInit word base bracket_pairs items) rest (reads-same (first_part m p) (filled_tokens word base bracket_pairs items rest) (filled-exact m p c word base bracket_pairs items rest fit.0 fit.1 fit.2 fit.3 (record { fits = fit.4; shallow = omega arith })))

  -- ---- the reader

  pub primary-exact : (expr : ExprTree) (rest : List Tok) → ExprFits expr → BindsAt PRIMARY_LEVEL expr → expr_depth expr ≤ suc m → OverAll rest → primary m p (expr_yield expr ++ rest) ≡ Some (expr, rest)
  primary-exact expr rest fit binds shallow all =
      stands_over m (primary m p) (suffix m p) expr rest (stands expr rest fit binds shallow (over expr rest all)) (no_suffix expr rest all.dot all.bracket)

  -- behind a first part that reaches far
  first_far : (rest toks : List Tok) → Reaches (length rest) (first_part m p toks) → Reaches (length rest) (primary m p toks)
  unfolding primary
  first_far rest toks reached = reaches-bind (length rest) _ _ reached (λ first k. reaches-chain (suffix m p) (suffix-bounded p c.bounded m) (suc m) (length rest) first.0 first.1 k)

  over_far : (expr : ExprTree) (rest : List Tok) → StandsAt expr rest → Reaches (length rest) (primary m p (expr_yield expr ++ rest))
  over_far expr rest at = stands_far m (primary m p) (suffix m p) (suffix-bounded p c.bounded m) expr rest (length rest) at (le_refl (length rest))

  pub primary-far : (expr : ExprTree) (rest : List Tok) → ExprFits expr → BindsAt PRIMARY_LEVEL expr → expr_depth expr ≤ suc m → Reaches (length rest) (primary m p (expr_yield expr ++ rest))
  primary-far (Name found) rest fit binds shallow = first_far rest _ (named-far m p c found rest fit)
  primary-far (Super word dot id NoArgs) rest fit binds shallow = first_far rest _ (super_field-far m p c word dot id rest fit.0)
  primary-far (Super word dot id (SuperArgs list)) rest fit binds shallow = over_far _ rest (stands (Super word dot id (SuperArgs list)) rest fit binds shallow tt)
  primary-far (Field operand dot id) rest fit binds shallow =
      stands_turn_far m (primary m p) (suffix m p) (suffix-bounded p c.bounded m) operand (Field operand dot id) (dot ∷ id ∷ rest) rest
      (stands operand (dot ∷ id ∷ rest) fit.1 fit.0.primary (omega arith) (over_dot operand dot _ fit.0.no_name fit.0.dot_is)) (omega arith)
      (append_assoc (expr_yield operand) (dot ∷ id ∷ []) rest) (field_turn_far operand dot id rest (omega arith) fit.0.dot_is fit.0.id_is fit.0.no_name)
  primary-far (NewArray word base sizes bracket_pairs) rest fit binds shallow =
      first_far rest _ (subst (λ (toks : List Tok). Reaches (length rest) (first_part m p toks)) (sym (array_tokens word base sizes bracket_pairs rest)) (array-far m p c word base sizes bracket_pairs rest fit.0 fit.1 fit.2 fit.3 (omega arith) fit.4))
  primary-far expr rest fit binds shallow = over_far expr rest (stands expr rest fit binds shallow tt)
