use Rattle.rf_jtree.proofs.ExprShows.{expr_shown-Lit}
use Rattle.rf_jmake.proofs.exprs.literal_of.Goals as goal

pub returns : goal.returns
returns c = rw expr_shown-Lit at c.boxed.ensures
