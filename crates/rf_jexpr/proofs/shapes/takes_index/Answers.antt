use Rattle.rf_jexpr.proofs.FormLemmas.{no_new_array-exact}
use Rattle.rf_jexpr.proofs.shapes.takes_index.Goals as goal

pub returns : goal.returns
returns c = no_new_array-exact _ _ (rw c.deref.ensures at c.is_no_new_array.ensures)
