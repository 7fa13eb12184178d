use Rattle.rf_jtree.proofs.ExprShows.{expr_shown-Paren}
use Rattle.rf_jmake.proofs.exprs.paren_of.Goals as goal

pub returns : goal.returns
returns c = rw (expr_shown-Paren, c.in_ok-end.ensures) at c.boxed.ensures
