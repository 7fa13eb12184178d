use Rattle.rf_jtree.proofs.ExprShows.{expr_shown-This}
use Rattle.rf_jmake.proofs.exprs.this_of.Goals as goal

pub returns : goal.returns
returns c = rw expr_shown-This at c.boxed.ensures
