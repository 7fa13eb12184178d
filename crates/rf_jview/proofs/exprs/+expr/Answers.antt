use Rattle.std.proofs.Common.{arith}
use Rattle.std.proofs.lemmas.Grind.{common_steps}
use Rattle.rf_jtree.proofs.ExprShows.{expr_shown-Call}
use Rattle.rf_jview.proofs.Walks.{walks}
use Rattle.rf_jview.proofs.exprs.+expr.Goals as goal

pub expr-returns-in_ok-plain-in-Call : goal.expr-returns-in_ok-plain-in-Call
expr-returns-in_ok-plain-in-Call t c = rw (c.in-Call.is, expr_shown-Call) (grind (arith, common_steps, walks))
