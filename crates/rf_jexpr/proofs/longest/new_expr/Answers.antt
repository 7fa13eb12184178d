-- What its reader reads is the longest.
use Rattle.std.proofs.Common.{◌≡◌, ◌+◌, ◌-◌, Err, drop, arith}
use Rattle.rf_jtree.specs.ExprTrees.{expr_yield, expr_depth}
use Rattle.rf_jexpr.specs.declared.parse_err.ParseErr.TheVariants.{NoTree}
use Rattle.rf_jexpr.specs.Descent.{creations}
use Rattle.rf_jexpr.specs.Gives.{GivesTree}
use Rattle.rf_jexpr.specs.Longest.{CreationFits}
use Rattle.rf_jmake.specs.ExprMade.{boxed_shown}
use Rattle.rf_jexpr.proofs.AnswerLemmas.{longest_found}
use Rattle.rf_jexpr.proofs.CreationLemmas.{creations_longest, creations-empty, creations-room}
use Rattle.rf_jexpr.proofs.longest.new_expr.Goals as goal

pub returns-then-room-eq0-clause-gives : goal.returns-then-room-eq0-clause-gives
returns-then-room-eq0-clause-gives c = creations-empty c.args.room (drop c.args.at c.args.t.now) (omega arith)

pub returns-then-room-eq0-clause-longest : goal.returns-then-room-eq0-clause-longest
returns-then-room-eq0-clause-longest c =
    longest_found CreationFits expr_yield expr_depth c.args.room (creations c.args.room) (creations_longest c.args.room) c.args.t.now c.args.at boxed_shown (Err NoTree)
    (creations-empty c.args.room (drop c.args.at c.args.t.now) (omega arith))

pub returns-clause-gives : goal.returns-clause-gives
returns-clause-gives c =
    let same : c.args.room - 1 + 1 ≡ c.args.room = omega arith in
    rw (creations-room c.args.room (drop c.args.at c.args.t.now) (omega arith)) (rw same at c.creation.ensures)

pub returns-clause-longest : goal.returns-clause-longest
returns-clause-longest c =
    let same : c.args.room - 1 + 1 ≡ c.args.room = omega arith in
    let gives : GivesTree boxed_shown expr_depth c.args.room c.args.t.now c.args.at c.creation.result (creations c.args.room (drop c.args.at c.args.t.now)) =
    rw (creations-room c.args.room (drop c.args.at c.args.t.now) (omega arith)) (rw same at c.creation.ensures) in
    longest_found CreationFits expr_yield expr_depth c.args.room (creations c.args.room) (creations_longest c.args.room) c.args.t.now c.args.at boxed_shown c.creation.result gives
