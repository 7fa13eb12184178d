use Rattle.rf_jtree.proofs.ExprShows.{init_shown-Expression}
use Rattle.rf_jmake.proofs.exprs.initializer_of.Goals as goal

pub returns : goal.returns
returns c = rw init_shown-Expression at c.boxed_init.ensures
