use Rattle.rf_jtree.proofs.ExprShows.{expr_shown-Cast}
use Rattle.rf_jmake.proofs.exprs.cast_of.Goals as goal

pub returns : goal.returns
returns c = rw (expr_shown-Cast, c.in_ok-to.ensures, c.in_ok-end.ensures) at c.boxed.ensures
