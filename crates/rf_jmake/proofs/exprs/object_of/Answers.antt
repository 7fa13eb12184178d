use Rattle.rf_jtree.proofs.ExprShows.{expr_shown-New}
use Rattle.rf_jmake.proofs.exprs.object_of.Goals as goal

pub returns : goal.returns
returns c = rw (expr_shown-New, c.in_ok-name.ensures) at c.boxed.ensures
