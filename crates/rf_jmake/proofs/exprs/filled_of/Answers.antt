use Rattle.rf_jtree.proofs.ExprShows.{expr_shown-NewInit}
use Rattle.rf_jmake.proofs.exprs.filled_of.Goals as goal

pub returns : goal.returns
returns c = rw (expr_shown-NewInit, c.in_ok-first.ensures, c.in_ok-of.ensures) at c.boxed.ensures
