-- What stands behind the last part, or behind the last expression in hand, ends its loop; and the readers of a whole room are
-- told by those of the room that is left.
use Rattle.std.proofs.Common.{◌≡◌, ◌+◌, ◌-◌, suc, drop, true, false, refl, arith, rules}
use Rattle.rf_jtree.specs.declared.operator_names.TheConstants.{LEFT_BRACE, PREFIXES}
use Rattle.rf_jtree.specs.Kinds.{is_op_of}
use Rattle.rf_jexpr.specs.Descent.{parsers, operator}
use Rattle.rf_jmake.specs.ExprMade.{boxed_shown}
use Rattle.rf_jmake.specs.ExprMade.{exprs_of, inits_of}
use Rattle.rf_jexpr.specs.PrimaryReads.{primary, suffix}
use Rattle.rf_jexpr.specs.Reads.{and_then, or_else, optional, separated, begins, is_op}
use Rattle.rf_jmake.specs.Continuations.{operated, suffixed}
use Rattle.rf_jexpr.proofs.FormLemmas.{more_exprs-depth, more_inits-depth}
use Rattle.rf_jexpr.proofs.GrowthLemmas.{first-filling, next-filling, last-filling, first-hand, next-hand, last-hand}
use Rattle.rf_jexpr.proofs.RoomLemmas.{expr-empty, expr-room, conditional-empty, conditional-room, binary-empty, binary-room, unary-room, init-room}
use Rattle.rf_jexpr.proofs.+expr.Goals as goal

-- ---- lists of parts

pub parts::more_exprs-items-init : goal.parts::more_exprs-items-init
parts::more_exprs-items-init t c = first-filling _ _ _ _ _ _ _ c.new.ensures c.requires

pub parts::more_exprs-items-preserved : goal.parts::more_exprs-items-preserved
parts::more_exprs-items-preserved t c =
    let tried = rw c.in-Some.is at c.in_ok-next.ensures in
    let taken = rw tried at c.next_expr.ensures.gives in
    let forth = rw tried at c.next_expr.ensures.forth in
    let grown = c.in_ok-more.ensures in
    rw grown.1 (next-filling _ _ _ _ _ _ _ _ _ c.in-Some.next.tree c.in-Some.next.end c.in-Some.next.depth _ _ c.items.invariant taken.0 forth taken.2 taken.3 taken.4 grown.0 grown.2)

pub parts::more_exprs-returns : goal.parts::more_exprs-returns
parts::more_exprs-returns t c =
    let missing = rw c.in_default.is at c.in_ok-next.ensures in
    let nothing = rw missing at c.next_expr.ensures.gives in
    let filling = c.items.invariant in
    (last-filling _ _ _ _ _ _ _ _ _ filling nothing, filling.turn.forth, filling.turn.within, filling.depth_is, filling.shallow)

pub parts::more_inits-items-init : goal.parts::more_inits-items-init
parts::more_inits-items-init t c = first-filling _ _ _ _ _ _ _ c.new.ensures c.requires

pub parts::more_inits-items-preserved : goal.parts::more_inits-items-preserved
parts::more_inits-items-preserved t c =
    let tried = rw c.in-Some.is at c.in_ok-next.ensures in
    let taken = rw tried at c.next_init.ensures.gives in
    let forth = rw tried at c.next_init.ensures.forth in
    let grown = c.in_ok-more.ensures in
    rw grown.1 (next-filling _ _ _ _ _ _ _ _ _ c.in-Some.next.tree c.in-Some.next.end c.in-Some.next.depth _ _ c.items.invariant taken.0 forth taken.2 taken.3 taken.4 grown.0 grown.2)

pub parts::more_inits-returns : goal.parts::more_inits-returns
parts::more_inits-returns t c =
    let missing = rw c.in_default.is at c.in_ok-next.ensures in
    let nothing = rw missing at c.next_init.ensures.gives in
    let filling = c.items.invariant in
    (last-filling _ _ _ _ _ _ _ _ _ filling nothing, filling.turn.forth, filling.turn.within, filling.depth_is, filling.shallow)

pub parts::sizes-items-init : goal.parts::sizes-items-init
parts::sizes-items-init t c = first-filling _ _ _ _ _ _ _ c.new.ensures c.requires

pub parts::sizes-items-preserved : goal.parts::sizes-items-preserved
parts::sizes-items-preserved t c =
    let tried = rw c.in-Some.is at c.in_ok-next.ensures in
    let taken = rw tried at c.sized.ensures.gives in
    let forth = rw tried at c.sized.ensures.forth in
    let grown = c.in_ok-list.ensures in
    rw grown.1 (next-filling _ _ _ _ _ _ _ _ _ c.in-Some.next.tree c.in-Some.next.end c.in-Some.next.depth _ _ c.items.invariant taken.0 forth taken.2 taken.3 taken.4 grown.0 grown.2)

pub parts::sizes-returns : goal.parts::sizes-returns
parts::sizes-returns t c =
    let missing = rw c.in_default.is at c.in_ok-next.ensures in
    let nothing = rw missing at c.sized.ensures.gives in
    let filling = c.items.invariant in
    (last-filling _ _ _ _ _ _ _ _ _ filling nothing, filling.turn.forth, filling.turn.within, filling.depth_is, filling.shallow)

pub parts::exprs-returns-in_default : goal.parts::exprs-returns-in_default
unfolding optional separated and_then or_else exprs_of
parts::exprs-returns-in_default t c =
    let missing = rw c.in_default.is at c.in_ok-first.ensures in
    let nothing = rw missing at c.expr.ensures in
    rw c.left_out.ensures (rw nothing refl, omega arith, c.requires, refl, omega arith)

pub parts::exprs-returns : goal.parts::exprs-returns
unfolding optional separated and_then or_else exprs_of
parts::exprs-returns t c =
    let tried = rw c.in-Some.is at c.in_ok-first.ensures in
    let first = rw tried at c.expr.ensures in
    let rest = c.in_ok-rest.ensures in
    (rw (first.0, rest.0) refl, omega (arith, first.1, rest.1), rest.2, rw (c.deeper.ensures, more_exprs-depth, first.3, rest.3) refl, omega (arith, c.deeper.ensures, first.4, rest.4))

pub parts::inits-returns-in_default : goal.parts::inits-returns-in_default
unfolding optional separated and_then or_else inits_of
parts::inits-returns-in_default t c =
    let missing = rw c.in_default.is at c.in_ok-first.ensures in
    let nothing = rw missing at c.init.ensures in
    rw c.left_out.ensures (rw nothing refl, omega arith, c.requires, refl, omega arith)

pub parts::inits-returns : goal.parts::inits-returns
unfolding optional separated and_then or_else inits_of
parts::inits-returns t c =
    let tried = rw c.in-Some.is at c.in_ok-first.ensures in
    let first = rw tried at c.init.ensures in
    let rest = c.in_ok-rest.ensures in
    (rw (first.0, rest.0) refl, omega (arith, first.1, rest.1), rest.2, rw (c.deeper.ensures, more_inits-depth, first.3, rest.3) refl, omega (arith, c.deeper.ensures, first.4, rest.4))

-- ---- an expression that grows

pub primary::primary-suffixes-init : goal.primary::primary-suffixes-init
unfolding primary
primary::primary-suffixes-init t c =
    let first = c.in_ok-found.ensures in
    first-hand (suffix c.args.room (parsers c.args.room)) (c.args.room + 1) _ _ (suc c.args.room) _ _ _ _ first.0 first.1 first.2 first.3 first.4 (omega arith)

pub primary::primary-suffixes-preserved : goal.primary::primary-suffixes-preserved
primary::primary-suffixes-preserved t c =
    let tried = rw c.in-Some.is at c.in_ok-continuation.ensures in
    let taken = rw tried at c.suffix.ensures.gives in
    let deeper = rw tried at c.suffix.ensures.deeper in
    let joined = c.in_ok-found-2.ensures in
    next-hand _ _ _ _ _ _ _ _ (suffixed (boxed_shown c.suffixes.found.tree) c.in-Some.continuation.tree) c.in-Some.continuation.end c.in-Some.continuation.depth _ _ _ c.suffixes.invariant taken.0 taken.1 taken.2 taken.3 taken.4 deeper joined.0 joined.1 joined.2

pub primary::primary-returns : goal.primary::primary-returns
primary::primary-returns t c =
    let missing = rw c.in_default.is at c.in_ok-continuation.ensures in
    let nothing = rw missing at c.suffix.ensures.gives in
    let hand = c.suffixes.invariant in
    (last-hand _ _ _ _ _ _ _ _ hand nothing, hand.forth, hand.within, hand.known, hand.shallow)

pub binary::binary-returns-then-room-eq0 : goal.binary::binary-returns-then-room-eq0
binary::binary-returns-then-room-eq0 t c = binary-empty _ _ _ (omega arith)

pub binary::binary-returns-in_err-left : goal.binary::binary-returns-in_err-left
unfolding and_then
binary::binary-returns-in_err-left t c = rw (binary-room c.args.room c.args.least (drop c.args.at c.args.t.now)) (search rules)

pub binary::binary-operators-init : goal.binary::binary-operators-init
binary::binary-operators-init t c =
    let first = c.in_ok-left.ensures in
    rw (binary-room c.args.room c.args.least (drop c.args.at c.args.t.now)) (first-hand (operator (c.args.room - 1) (parsers (c.args.room - 1)) c.args.least) c.args.room _ _ c.args.room _ _ _ _ first.0 first.1 first.2 first.3 first.4 (omega arith))

pub binary::binary-operators-preserved : goal.binary::binary-operators-preserved
binary::binary-operators-preserved t c =
    let tried = rw c.in-Some.is at c.in_ok-continuation.ensures in
    let taken = rw tried at c.operator.ensures.gives in
    let deeper = rw tried at c.operator.ensures.deeper in
    let joined = c.in_ok-left-2.ensures in
    next-hand _ _ _ _ _ _ _ _ (operated (boxed_shown c.operators.left.tree) c.in-Some.continuation.tree) c.in-Some.continuation.end c.in-Some.continuation.depth _ _ _ c.operators.invariant taken.0 taken.1 taken.2 taken.3 (omega (arith, taken.4)) deeper joined.0 joined.1 joined.2

pub binary::binary-returns : goal.binary::binary-returns
binary::binary-returns t c =
    let missing = rw c.in_default.is at c.in_ok-continuation.ensures in
    let nothing = rw missing at c.operator.ensures.gives in
    let hand = c.operators.invariant in
    (last-hand _ _ _ _ _ _ _ _ hand nothing, hand.forth, hand.within, hand.known, hand.shallow)

-- ---- whole rooms

pub top::conditional-returns-then-room-eq0 : goal.top::conditional-returns-then-room-eq0
top::conditional-returns-then-room-eq0 t c = conditional-empty _ _ (omega arith)

pub top::conditional-returns-in_err-test : goal.top::conditional-returns-in_err-test
unfolding and_then
top::conditional-returns-in_err-test t c = rw (conditional-room c.args.room (drop c.args.at c.args.t.now)) (search rules)

pub top::conditional-returns-in_default : goal.top::conditional-returns-in_default
unfolding and_then or_else
top::conditional-returns-in_default t c =
    let missing = rw c.in_default.is at c.in_ok-continuation.ensures in
    let nothing = rw missing at c.choice.ensures in
    let test = c.in_ok-test.ensures in
    (rw (conditional-room c.args.room (drop c.args.at c.args.t.now), test.0, nothing) refl, test.1, test.2, test.3, test.4)

pub top::conditional-returns : goal.top::conditional-returns
unfolding and_then or_else
top::conditional-returns t c =
    let tried = rw c.in-Some.is at c.in_ok-continuation.ensures in
    let taken = rw tried at c.choice.ensures in
    let test = c.in_ok-test.ensures in
    let tree = c.in_ok-tree.ensures in
    (rw (conditional-room c.args.room (drop c.args.at c.args.t.now), test.0, taken.0, tree) refl, omega (arith, test.1, taken.1), taken.2, rw tree taken.3, omega (arith, taken.4))

pub top::expr-returns-then-room-eq0 : goal.top::expr-returns-then-room-eq0
top::expr-returns-then-room-eq0 t c = expr-empty _ _ (omega arith)

pub top::expr-returns-in_err-left : goal.top::expr-returns-in_err-left
unfolding and_then
top::expr-returns-in_err-left t c = rw (expr-room c.args.room (drop c.args.at c.args.t.now)) (search rules)

pub top::expr-returns-in_default : goal.top::expr-returns-in_default
unfolding and_then or_else
top::expr-returns-in_default t c =
    let missing = rw c.in_default.is at c.in_ok-continuation.ensures in
    let nothing = rw missing at c.assignment.ensures in
    let left = c.in_ok-left.ensures in
    (rw (expr-room c.args.room (drop c.args.at c.args.t.now), left.0, nothing) refl, left.1, left.2, left.3, left.4)

pub top::expr-returns : goal.top::expr-returns
unfolding and_then or_else
top::expr-returns t c =
    let tried = rw c.in-Some.is at c.in_ok-continuation.ensures in
    let taken = rw tried at c.assignment.ensures in
    let left = c.in_ok-left.ensures in
    let tree = c.in_ok-tree.ensures in
    (rw (expr-room c.args.room (drop c.args.at c.args.t.now), left.0, taken.0, tree) refl, omega (arith, left.1, taken.1), taken.2, rw tree taken.3, omega (arith, taken.4))

pub top::init-returns-in_err-items : goal.top::init-returns-in_err-items
unfolding and_then
top::init-returns-in_err-items t c =
    let brace : begins (is_op LEFT_BRACE) (drop c.args.at c.args.t.now) ≡ true = search rules in
    rw (init-room c.args.room (drop c.args.at c.args.t.now) (omega arith), brace) (search rules)

pub top::init-returns-then-is_at : goal.top::init-returns-then-is_at
unfolding and_then
top::init-returns-then-is_at t c =
    let brace : begins (is_op LEFT_BRACE) (drop c.args.at c.args.t.now) ≡ true = search rules in
    let items = c.in_ok-items.ensures in
    let braced = c.in_ok-braced.ensures in
    (rw (init-room c.args.room (drop c.args.at c.args.t.now) (omega arith), brace, items.0, braced) refl, items.1, items.2, rw (braced, items.3) refl, omega (arith, items.4))

pub top::init-returns-in_err-operand : goal.top::init-returns-in_err-operand
unfolding and_then
top::init-returns-in_err-operand t c =
    let other : begins (is_op LEFT_BRACE) (drop c.args.at c.args.t.now) ≡ false = search rules in
    rw (init-room c.args.room (drop c.args.at c.args.t.now) (omega arith), other) (search rules)

pub top::init-returns : goal.top::init-returns
unfolding and_then
top::init-returns t c =
    let other : begins (is_op LEFT_BRACE) (drop c.args.at c.args.t.now) ≡ false = search rules in
    let operand = c.in_ok-operand.ensures in
    let tree = c.in_ok-tree.ensures in
    (rw (init-room c.args.room (drop c.args.at c.args.t.now) (omega arith), other, operand.0, tree) refl, operand.1, operand.2, rw tree operand.3, operand.4)

pub unary::unary-returns-then-is_at : goal.unary::unary-returns-then-is_at
unary::unary-returns-then-is_at t c =
    let prefix : begins (is_op_of PREFIXES) (drop c.args.at c.args.t.now) ≡ true = search rules in
    let same : c.args.room - 1 + 1 ≡ c.args.room = omega arith in
    rw (unary-room c.args.room (drop c.args.at c.args.t.now) (omega arith), prefix) (rw same at c.prefixed.ensures)

pub unary::unary-returns-in_default : goal.unary::unary-returns-in_default
unfolding or_else
unary::unary-returns-in_default t c =
    let other : begins (is_op_of PREFIXES) (drop c.args.at c.args.t.now) ≡ false = search rules in
    let missing = rw c.in_default.is at c.in_ok-found.ensures in
    let nothing = rw missing at c.cast.ensures in
    let same : c.args.room - 1 + 1 ≡ c.args.room = omega arith in
    rw (unary-room c.args.room (drop c.args.at c.args.t.now) (omega arith), other, nothing) (rw same at c.postfix.ensures)

pub unary::unary-returns : goal.unary::unary-returns
unfolding or_else
unary::unary-returns t c =
    let other : begins (is_op_of PREFIXES) (drop c.args.at c.args.t.now) ≡ false = search rules in
    let tried = rw c.in-Some.is at c.in_ok-found.ensures in
    let taken = rw tried at c.cast.ensures in
    (rw (unary-room c.args.room (drop c.args.at c.args.t.now) (omega arith), other, taken.0) refl, taken.1, taken.2, taken.3, omega (arith, taken.4))
