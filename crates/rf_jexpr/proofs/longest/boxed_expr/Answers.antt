-- What its reader reads is the longest.
use Rattle.rf_jtree.specs.ExprFits.{ExprFits}
use Rattle.rf_jtree.specs.ExprTrees.{expr_yield, expr_depth}
use Rattle.rf_jexpr.specs.Descent.{parsers}
use Rattle.rf_jmake.specs.ExprMade.{boxed_shown}
use Rattle.rf_jexpr.proofs.AnswerLemmas.{exprs_longest, longest_found}
use Rattle.rf_jexpr.proofs.longest.boxed_expr.Goals as goal

pub returns-clause-longest : goal.returns-clause-longest
returns-clause-longest c = longest_found ExprFits expr_yield expr_depth c.args.room (parsers c.args.room).expr (exprs_longest c.args.room) c.args.t.now c.args.at boxed_shown c.expr.result c.expr.ensures
