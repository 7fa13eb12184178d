use Rattle.rf_jtree.proofs.ExprShows.{expr_shown-Field}
use Rattle.rf_jmake.proofs.continuations.field_of.Goals as goal

pub returns : goal.returns
returns c = rw (expr_shown-Field, c.in_ok-mark.ensures) at c.boxed.ensures
