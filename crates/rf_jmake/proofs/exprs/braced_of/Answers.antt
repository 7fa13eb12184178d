use Rattle.rf_jtree.proofs.ExprShows.{init_shown-Braced}
use Rattle.rf_jmake.proofs.exprs.braced_of.Goals as goal

pub returns : goal.returns
returns c = rw init_shown-Braced at c.boxed_init.ensures
