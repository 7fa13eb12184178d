-- What the readers of a whole room are: nothing where it is 0, and else those of one room more than is left for parts.
use Rattle.std.proofs.Common.{◌≡◌, ℕ, zero, suc, ◌-◌, ◌<◌, List, Some, None, if◌then◌else◌, refl, arith}
use Rattle.rf_jtree.specs.declared.tokens.Tok.{Tok}
use Rattle.rf_jtree.specs.declared.levels.TheConstants.{OR_OR_LEVEL}
use Rattle.rf_jtree.specs.declared.operator_names.TheConstants.{LEFT_BRACE, PREFIXES}
use Rattle.rf_jtree.specs.ExprTrees.{Expression, Braced}
use Rattle.rf_jtree.specs.Kinds.{is_op_of}
use Rattle.rf_jexpr.specs.Descent.{parsers, with_room, nothing, expr, conditional, binary, unary, init, choice, assignment, operator, prefixed, cast, postfix}
use Rattle.rf_jexpr.specs.PartReads.{braces}
use Rattle.rf_jexpr.specs.Reads.{and_then, or_else, begins, is_op, chain}

pub expr-empty : (room : ℕ) (toks : List Tok) → room ≡ 0 → (parsers room).expr toks ≡ None
unfolding parsers nothing
expr-empty room toks h = rw h refl

pub conditional-empty : (room : ℕ) (toks : List Tok) → room ≡ 0 → (parsers room).conditional toks ≡ None
unfolding parsers nothing
conditional-empty room toks h = rw h refl

pub binary-empty : (room least : ℕ) (toks : List Tok) → room ≡ 0 → (parsers room).binary least toks ≡ None
unfolding parsers nothing
binary-empty room least toks h = rw h refl

pub expr-room : (room : ℕ) (toks : List Tok) → (parsers room).expr toks ≡ and_then ((parsers room).conditional toks) (λ left. or_else (assignment (room - 1) (parsers (room - 1)) left.0 left.1) (Some left))
unfolding parsers with_room nothing expr and_then
expr-room zero toks = refl
expr-room (suc m) toks = let e : suc m - 1 ≡ m = omega arith in rw e refl

pub conditional-room : (room : ℕ) (toks : List Tok) → (parsers room).conditional toks ≡ and_then ((parsers room).binary OR_OR_LEVEL toks) (λ test. or_else (choice (room - 1) (parsers (room - 1)) test.0 test.1) (Some test))
unfolding parsers with_room nothing conditional and_then
conditional-room zero toks = refl
conditional-room (suc m) toks = let e : suc m - 1 ≡ m = omega arith in rw e refl

pub binary-room : (room least : ℕ) (toks : List Tok) → (parsers room).binary least toks ≡ and_then ((parsers room).unary toks) (λ first. chain (operator (room - 1) (parsers (room - 1)) least) room first.0 first.1)
unfolding parsers with_room nothing binary and_then
binary-room zero least toks = refl
binary-room (suc m) least toks = let e : suc m - 1 ≡ m = omega arith in rw e refl

pub unary-none : (toks : List Tok) → (parsers zero).unary toks ≡ None
unfolding parsers nothing
unary-none toks = refl

pub unary-room : (room : ℕ) (toks : List Tok) → 0 < room → (parsers room).unary toks ≡ (if begins (is_op_of PREFIXES) toks then prefixed (parsers (room - 1)) toks else or_else (cast (parsers (room - 1)) toks) (postfix (room - 1) (parsers (room - 1)) toks))
unfolding parsers with_room unary
unary-room zero toks h = absurd (omega arith)
unary-room (suc m) toks h = let e : suc m - 1 ≡ m = omega arith in rw e refl

pub init-none : (toks : List Tok) → (parsers zero).init toks ≡ None
unfolding parsers nothing
init-none toks = refl

pub init-room : (room : ℕ) (toks : List Tok) → 0 < room → (parsers room).init toks ≡ (if begins (is_op LEFT_BRACE) toks then and_then (braces (parsers (room - 1)) toks) (λ items. Some (Braced items.0, items.1)) else and_then ((parsers room).expr toks) (λ operand. Some (Expression operand.0, operand.1)))
unfolding parsers with_room init
init-room zero toks h = absurd (omega arith)
init-room (suc m) toks h = let e : suc m - 1 ≡ m = omega arith in rw e refl

pub ruleset rooms = (unary-none, init-none)
