use Rattle.rf_jtree.proofs.ExprShows.{expr_shown-Unary}
use Rattle.rf_jmake.proofs.exprs.prefixed_of.Goals as goal

pub returns : goal.returns
returns c = rw expr_shown-Unary at c.boxed.ensures
