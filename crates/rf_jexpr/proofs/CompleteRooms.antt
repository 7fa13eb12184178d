-- In each room the readers read every expression where it stands.
use Rattle.std.proofs.Common.{◌≡◌, ℕ, zero, suc, ◌+◌, ◌≤◌, List, ◌∷◌, ◌++◌, Option, Some, None, false, IsTrue, ◌==◌, length, refl, ◌∙◌, arith, le_refl}
use Rattle.rf_jtree.specs.declared.operators.Op.{Op}
use Rattle.rf_jtree.specs.declared.tokens.Tok.{Tok}
use Rattle.rf_jtree.specs.declared.levels.TheConstants.{ASSIGNMENT_LEVEL, CONDITIONAL_LEVEL, UNARY_LEVEL}
use Rattle.rf_jtree.specs.declared.operator_names.TheConstants.{LEFT_PAREN, LEFT_BRACE, PREFIXES}
use Rattle.rf_jtree.specs.ExprFits.{ExprFits, BracesFit}
use Rattle.rf_jtree.specs.ExprTrees.{ExprTree, Lit, InitTree, Expression, Braced, BracesTree, Braces, expr_yield, init_yield, braces_yield, expr_depth, braces_depth}
use Rattle.rf_jtree.specs.Kinds.{IsOp, is_op_of, has_op}
use Rattle.rf_jexpr.specs.Descent.{cast, postfix, unary, binary, conditional, expr, init, nothing, with_room, parsers}
use Rattle.rf_jexpr.specs.NameReads.{name}
use Rattle.rf_jexpr.specs.PartReads.{Parsers}
use Rattle.rf_jexpr.specs.PrimaryReads.{first_part, primary, named}
use Rattle.rf_jexpr.specs.Reads.{Reads, ◌>>=◌, is_op, is_key, is_ident, begins, separated}
use Rattle.rf_jexpr.specs.Stops.{Stops}
use Rattle.rf_jexpr.proofs.Bounded.{next-bounded, nothing-bounded}
use Rattle.rf_jexpr.proofs.CompleteBinary.{binary-exact, binary-far}
use Rattle.rf_jexpr.proofs.CompleteParts.{AreComplete, Completes, begins_init, braces-exact}
use Rattle.rf_jexpr.proofs.CompleteTop.{conditional_read, conditional_reach, expr_read, expr_reach}
use Rattle.rf_jexpr.proofs.CompleteUnary.{unary-exact, unary-far}
use Rattle.rf_jexpr.proofs.First.{begins_no_brace}
use Rattle.rf_jexpr.proofs.LoopLemmas.{IsExact}
use Rattle.rf_jexpr.proofs.SoundParts.{Good, GoodInit}
use Rattle.rf_jexpr.proofs.StopLemmas.{or_false}
use Rattle.rf_jexpr.proofs.Tools.{bind-Some, bind-None, else-None, if-true, if-false, token-other, IsOp-is_op}
use Rattle.rf_jexpr.proofs.Within.{IsFar, reaches-Some}

-- ---- where no expression begins, none is read

module _ (m : ℕ) (p : Parsers) (op : Op) (tok : Tok) (rest : List Tok) (none : begins_init op ≡ false) (is : IsOp op tok) where
  no_brace : (op.0 == LEFT_BRACE.0) ≡ false
  unfolding begins_init
  no_brace = (or_false _ _ none).0

  no_paren : (op.0 == LEFT_PAREN.0) ≡ false
  unfolding begins_init
  no_paren = (or_false _ _ (or_false (op.0 == LEFT_BRACE.0) _ none).1).0

  no_prefix : has_op PREFIXES op ≡ false
  unfolding begins_init
  no_prefix = (or_false (op.0 == LEFT_PAREN.0) _ (or_false (op.0 == LEFT_BRACE.0) _ none).1).1

  no_name : named m p (tok ∷ rest) ≡ None
  unfolding named name separated begins is_ident
  no_name = bind-None _ _ (bind-None _ _ (bind-None _ _ (token-other is_ident (tok ∷ rest) (rw is refl))))

  no_first : first_part m p (tok ∷ rest) ≡ named m p (tok ∷ rest)
  unfolding first_part begins is_key is_op
  no_first = rw (is, no_paren) refl

  prefix_test : begins (is_op_of PREFIXES) (tok ∷ rest) ≡ false
  unfolding begins
  prefix_test = rw is no_prefix

  paren_test : begins (is_op LEFT_PAREN) (tok ∷ rest) ≡ false
  unfolding begins is_op
  paren_test = rw is no_paren

  brace_test : begins (is_op LEFT_BRACE) (tok ∷ rest) ≡ false
  unfolding begins is_op
  brace_test = rw is no_brace

  no_unary : unary m p (tok ∷ rest) ≡ None
  unfolding unary cast postfix primary
  no_unary =
      if-false _ _ _ prefix_test ∙ else-None _ _ (bind-None _ _ (token-other (is_op LEFT_PAREN) (tok ∷ rest) paren_test)) ∙
      bind-None _ _ (bind-None _ _ (no_first ∙ no_name))

  no_expr : expr m p (tok ∷ rest) ≡ None
  unfolding expr conditional binary
  no_expr = bind-None _ _ (bind-None _ _ (bind-None _ _ no_unary))

  no_init : init m p (tok ∷ rest) ≡ None
  unfolding init
  no_init = if-false _ _ _ brace_test ∙ bind-None _ _ no_expr

-- ---- what an item begins with

module _ (m : ℕ) (p : Parsers) (c : AreComplete m p) where
  braces_begin : (items : BracesTree) (rest : List Tok) → BracesFit items → IsTrue (begins (is_op LEFT_BRACE) (braces_yield items ++ rest))
  unfolding begins
  braces_begin (Braces left list comma right) rest fit = IsOp-is_op LEFT_BRACE left fit.0.0

  init_operand : (operand : ExprTree) (rest : List Tok) → ExprFits operand → (z : Option (InitTree × List Tok)) → (expr m p (expr_yield operand ++ rest) >>= λ operand. Some (Expression operand.0, operand.1)) ≡ z → init m p (expr_yield operand ++ rest) ≡ z
  unfolding init
  init_operand operand rest fit z h = if-false _ _ _ (begins_no_brace operand rest fit) ∙ h

  init_braced : (items : BracesTree) (rest : List Tok) → BracesFit items → braces_depth items ≤ m → init m p (braces_yield items ++ rest) ≡ Some (Braced items, rest)
  unfolding init
  init_braced items rest fit shallow = if-true _ _ _ (braces_begin items rest fit) ∙ bind-Some _ _ _ _ (braces-exact m p c items rest (record { fits = fit; shallow = shallow }) tt) refl

  init_read : IsExact (GoodInit (suc m)) (Stops ASSIGNMENT_LEVEL) init_yield (init m p)
  init_read (Expression operand) rest good stops = init_operand operand rest good.fits _ (bind-Some _ _ _ _ (expr_read m p c operand rest good.fits good.shallow stops) refl)
  init_read (Braced items) rest good stops = let shallow : braces_depth items + 1 ≤ suc m = good.shallow in init_braced items rest good.fits (omega arith)

  init_reach : IsFar (GoodInit (suc m)) init_yield (init m p)
  init_reach (Expression operand) rest good =
      let far = expr_reach m p c operand rest good.fits good.shallow in
      reaches-Some (length rest) _ (Expression far.to.0, far.to.1) (init_operand operand rest good.fits _ (bind-Some _ _ _ _ far.reads refl)) far.left
  init_reach (Braced items) rest good = let shallow : braces_depth items + 1 ≤ suc m = good.shallow in reaches-Some (length rest) _ (Braced items, rest) (init_braced items rest good.fits (omega arith)) (le_refl (length rest))

  -- ---- one room more

  next_room : AreComplete (suc m) (with_room m p)
  unfolding with_room
  next_room = record {
    expr = record { exact = λ tree rest good stops. expr_read m p c tree rest good.fits good.shallow stops; far = λ tree rest good. expr_reach m p c tree rest good.fits good.shallow };
    conditional = record {
      exact = λ tree rest good stops. conditional_read m p c tree rest good.fits good.binds good.shallow stops;
      far = λ tree rest good. conditional_reach m p c tree rest good.fits good.binds good.shallow;
    };
    binary = λ least some. record { exact = binary-exact m p c least some; far = binary-far m p c least some };
    unary = record {
      exact = λ tree rest good stops. unary-exact m p c tree rest good.fits good.binds good.shallow stops;
      far = λ tree rest good. unary-far m p c tree rest good.fits good.binds good.shallow;
    };
    init = record { exact = init_read; far = init_reach };
    expr_refuses = no_expr m p;
    init_refuses = no_init m p;
    bounded = next-bounded p c.bounded m;
  }

-- ---- no room

some_depth : (tree : ExprTree) → 1 ≤ expr_depth tree
some_depth (Lit tok) = omega arith
some_depth tree = omega arith

no_room : (level : ℕ) (tree : ExprTree) → Good level 0 tree → ⊥
no_room level tree good = let some = some_depth tree in let shallow : expr_depth tree ≤ 0 = good.shallow in omega arith

no_room_init : (tree : InitTree) → GoodInit 0 tree → ⊥
no_room_init (Expression operand) good = no_room ASSIGNMENT_LEVEL operand (record { fits = good.fits; binds = omega arith; shallow = good.shallow })
no_room_init (Braced items) good = let shallow : braces_depth items + 1 ≤ 0 = good.shallow in omega arith

nothing_complete : (level : ℕ) (read : Reads ExprTree) → Completes (Good level 0) (Stops level) expr_yield read
nothing_complete level read = record { exact = λ tree rest good stops. absurd (no_room level tree good); far = λ tree rest good. absurd (no_room level tree good) }

no_rooms : AreComplete 0 nothing
unfolding nothing
no_rooms = record {
  expr = nothing_complete ASSIGNMENT_LEVEL _;
  conditional = nothing_complete CONDITIONAL_LEVEL _;
  binary = λ least some. nothing_complete least _;
  unary = nothing_complete UNARY_LEVEL _;
  init = record { exact = λ tree rest good stops. absurd (no_room_init tree good); far = λ tree rest good. absurd (no_room_init tree good) };
  expr_refuses = λ op tok rest none is. refl;
  init_refuses = λ op tok rest none is. refl;
  bounded = nothing-bounded;
}

pub parsers-complete : (room : ℕ) → AreComplete room (parsers room)
unfolding parsers
parsers-complete zero = no_rooms
parsers-complete (suc m) = next_room m (parsers m) (parsers-complete m)
