use Rattle.std.proofs.Common.{◌∙◌}
use Rattle.rf_jstmt.proofs.EndLemmas.{variable-there, variable-missing}
use Rattle.rf_jstmt.proofs.locals.names_variable.Goals as goal

pub returns-in-Some : goal.returns-in-Some
returns-in-Some c = c.is_at.ensures ∙ variable-there _ _ _ c.in-Some.ensures

pub returns-in-None : goal.returns-in-None
returns-in-None c = variable-missing _ c.in-None.ensures
