use Rattle.std.proofs.Common.{◌+◌, ◌-◌, ◌*◌, length, drop}
use Rattle.rf_jtree.specs.declared.operator_names.TheConstants.{COMMA}
use Rattle.rf_jexpr.specs.Descent.{parsers, operator}
use Rattle.rf_jmake.specs.ExprMade.{boxed_shown, item_shown, init_item_shown, size_shown}
use Rattle.rf_jexpr.specs.Made.{item_depth, init_item_depth, size_depth}
use Rattle.rf_jexpr.specs.PartReads.{sized}
use Rattle.rf_jexpr.specs.PrimaryReads.{primary, suffix}
use Rattle.rf_jexpr.specs.Reads.{behind, is_op}
use Rattle.rf_jexpr.proofs.GrowthLemmas.{IsFilling, IsInHand}
use Rattle.rf_jexpr.proofs.+expr.Given as goal

-- A function of a whole room calls those of the same room that come before it, and of the room that is left for parts any.

abbrev pub decreases-binary::binary : goal.decreases-binary::binary
decreases-binary::binary l = 20 * l.room + 1

abbrev pub decreases-binary::operation : goal.decreases-binary::operation
decreases-binary::operation l = 20 * l.room + 5

abbrev pub decreases-binary::operator : goal.decreases-binary::operator
decreases-binary::operator l = 20 * l.room + 6

abbrev pub decreases-parts::args : goal.decreases-parts::args
decreases-parts::args l = 20 * l.room + 8

abbrev pub decreases-parts::braces : goal.decreases-parts::braces
decreases-parts::braces l = 20 * l.room + 8

abbrev pub decreases-parts::bracketed : goal.decreases-parts::bracketed
decreases-parts::bracketed l = 20 * l.room + 5

abbrev pub decreases-parts::exprs : goal.decreases-parts::exprs
decreases-parts::exprs l = 20 * l.room + 7

abbrev pub decreases-parts::inits : goal.decreases-parts::inits
decreases-parts::inits l = 20 * l.room + 7

abbrev pub decreases-parts::more_exprs : goal.decreases-parts::more_exprs
decreases-parts::more_exprs l = 20 * l.room + 6

abbrev pub decreases-parts::more_inits : goal.decreases-parts::more_inits
decreases-parts::more_inits l = 20 * l.room + 6

abbrev pub decreases-parts::next_expr : goal.decreases-parts::next_expr
decreases-parts::next_expr l = 20 * l.room + 5

abbrev pub decreases-parts::next_init : goal.decreases-parts::next_init
decreases-parts::next_init l = 20 * l.room + 5

abbrev pub decreases-parts::paren : goal.decreases-parts::paren
decreases-parts::paren l = 20 * l.room + 5

abbrev pub decreases-parts::sized : goal.decreases-parts::sized
decreases-parts::sized l = 20 * l.room + 6

abbrev pub decreases-parts::sizes : goal.decreases-parts::sizes
decreases-parts::sizes l = 20 * l.room + 7

abbrev pub decreases-creation::creation : goal.decreases-creation::creation
decreases-creation::creation l = 20 * l.room + 11

abbrev pub decreases-primary::first_part : goal.decreases-primary::first_part
decreases-primary::first_part l = 20 * l.room + 12

abbrev pub decreases-primary::item : goal.decreases-primary::item
decreases-primary::item l = 20 * l.room + 6

abbrev pub decreases-primary::member : goal.decreases-primary::member
decreases-primary::member l = 20 * l.room + 9

abbrev pub decreases-primary::named : goal.decreases-primary::named
decreases-primary::named l = 20 * l.room + 10

abbrev pub decreases-primary::named_call : goal.decreases-primary::named_call
decreases-primary::named_call l = 20 * l.room + 9

abbrev pub decreases-creation::new_array : goal.decreases-creation::new_array
decreases-creation::new_array l = 20 * l.room + 10

abbrev pub decreases-creation::new_class : goal.decreases-creation::new_class
decreases-creation::new_class l = 20 * l.room + 9

abbrev pub decreases-creation::new_filled : goal.decreases-creation::new_filled
decreases-creation::new_filled l = 20 * l.room + 9

abbrev pub decreases-primary::primary : goal.decreases-primary::primary
decreases-primary::primary l = 20 * l.room + 13

abbrev pub decreases-primary::suffix : goal.decreases-primary::suffix
decreases-primary::suffix l = 20 * l.room + 10

abbrev pub decreases-primary::super_args : goal.decreases-primary::super_args
decreases-primary::super_args l = 20 * l.room + 9

abbrev pub decreases-primary::super_member : goal.decreases-primary::super_member
decreases-primary::super_member l = 20 * l.room + 10

abbrev pub decreases-top::assignment : goal.decreases-top::assignment
decreases-top::assignment l = 20 * l.room + 5

abbrev pub decreases-top::choice : goal.decreases-top::choice
decreases-top::choice l = 20 * l.room + 5

abbrev pub decreases-top::conditional : goal.decreases-top::conditional
decreases-top::conditional l = 20 * l.room + 2

abbrev pub decreases-top::expr : goal.decreases-top::expr
decreases-top::expr l = 20 * l.room + 3

abbrev pub decreases-top::init : goal.decreases-top::init
decreases-top::init l = 20 * l.room + 4

abbrev pub decreases-unary::cast : goal.decreases-unary::cast
decreases-unary::cast l = 20 * l.room + 5

abbrev pub decreases-unary::postfix : goal.decreases-unary::postfix
decreases-unary::postfix l = 20 * l.room + 14

abbrev pub decreases-unary::prefixed : goal.decreases-unary::prefixed
decreases-unary::prefixed l = 20 * l.room + 5

abbrev pub decreases-unary::unary : goal.decreases-unary::unary
decreases-unary::unary l = 20 * l.room + 0

-- loops

abbrev pub invariant-parts::more_exprs-items : goal.invariant-parts::more_exprs-items
invariant-parts::more_exprs-items l = IsFilling item_shown item_depth l.room (behind (is_op COMMA) (parsers l.room).expr) l.t l.at l.more.tree l.more.end l.more.depth

abbrev pub decreases-parts::more_exprs-items : goal.decreases-parts::more_exprs-items
decreases-parts::more_exprs-items l = length l.t - l.more.end

abbrev pub invariant-parts::more_inits-items : goal.invariant-parts::more_inits-items
invariant-parts::more_inits-items l = IsFilling init_item_shown init_item_depth l.room (behind (is_op COMMA) (parsers l.room).init) l.t l.at l.more.tree l.more.end l.more.depth

abbrev pub decreases-parts::more_inits-items : goal.decreases-parts::more_inits-items
decreases-parts::more_inits-items l = length l.t - l.more.end

abbrev pub invariant-parts::sizes-items : goal.invariant-parts::sizes-items
invariant-parts::sizes-items l = IsFilling size_shown size_depth l.room (sized (parsers l.room)) l.t l.at l.list.tree l.list.end l.list.depth

abbrev pub decreases-parts::sizes-items : goal.decreases-parts::sizes-items
decreases-parts::sizes-items l = length l.t - l.list.end

abbrev pub invariant-primary::primary-suffixes : goal.invariant-primary::primary-suffixes
invariant-primary::primary-suffixes l = IsInHand (suffix l.room (parsers l.room)) (l.room + 1) l.t l.at (primary l.room (parsers l.room) (drop l.at l.t)) (boxed_shown l.found.tree) l.found.end l.found.depth

abbrev pub decreases-primary::primary-suffixes : goal.decreases-primary::primary-suffixes
decreases-primary::primary-suffixes l = l.room + 2 - l.found.depth

abbrev pub invariant-binary::binary-operators : goal.invariant-binary::binary-operators
invariant-binary::binary-operators l = IsInHand (operator (l.room - 1) (parsers (l.room - 1)) l.least) l.room l.t l.at ((parsers l.room).binary l.least (drop l.at l.t)) (boxed_shown l.left.tree) l.left.end l.left.depth

abbrev pub decreases-binary::binary-operators : goal.decreases-binary::binary-operators
decreases-binary::binary-operators l = l.room + 1 - l.left.depth
