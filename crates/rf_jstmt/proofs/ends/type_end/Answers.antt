use Rattle.rf_jstmt.proofs.EndLemmas.{type-end, type-missing}
use Rattle.rf_jstmt.proofs.ends.type_end.Goals as goal

pub returns-in-Some : goal.returns-in-Some
returns-in-Some c = type-end _ _ _ _ c.in-Some.ensures c.dims_end.ensures

pub returns-in-None : goal.returns-in-None
returns-in-None c = type-missing _ c.in-None.ensures
