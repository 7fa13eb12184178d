use Rattle.rf_jexpr.proofs.FormLemmas.{left_side-exact}
use Rattle.rf_jexpr.proofs.shapes.is_assignable.Goals as goal

pub returns : goal.returns
returns c = left_side-exact _ _ (rw c.deref.ensures at c.is_left_side.ensures)
