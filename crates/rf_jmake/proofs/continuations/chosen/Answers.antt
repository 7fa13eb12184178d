use Rattle.rf_jtree.proofs.ExprShows.{expr_shown-Cond}
use Rattle.rf_jmake.proofs.continuations.chosen.Goals as goal

pub returns : goal.returns
returns c = rw (expr_shown-Cond, c.in_ok-mark.ensures, c.in_ok-colon.ensures) at c.boxed.ensures
