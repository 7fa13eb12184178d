use Rattle.rf_jstmt.proofs.EndLemmas.{name-end, name-missing}
use Rattle.rf_jstmt.proofs.ends.name_end.Goals as goal

pub returns-in-Some : goal.returns-in-Some
returns-in-Some c = name-end _ _ _ _ c.in-Some.ensures.end c.ids_end.ensures

pub returns-in-None : goal.returns-in-None
returns-in-None c = name-missing _ c.in-None.ensures.end
