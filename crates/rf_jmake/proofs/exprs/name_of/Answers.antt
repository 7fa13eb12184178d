use Rattle.rf_jtree.proofs.ExprShows.{expr_shown-Name}
use Rattle.rf_jmake.proofs.exprs.name_of.Goals as goal

pub returns : goal.returns
returns c = rw expr_shown-Name at c.boxed.ensures
