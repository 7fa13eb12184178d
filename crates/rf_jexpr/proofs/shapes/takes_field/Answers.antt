use Rattle.rf_jexpr.proofs.FormLemmas.{no_name-exact}
use Rattle.rf_jexpr.proofs.shapes.takes_field.Goals as goal

pub returns : goal.returns
returns c = no_name-exact _ _ (rw c.deref.ensures at c.is_no_name.ensures)
