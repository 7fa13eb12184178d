use Rattle.std.proofs.Common.{◌∙◌}
use Rattle.rf_jstmt.proofs.FrontLemmas.{label-token, label-missing}
use Rattle.rf_jstmt.proofs.locals.begins_label_at.Goals as goal

pub returns-in-Some : goal.returns-in-Some
returns-in-Some c = c.is_at.ensures ∙ label-token _ _ _ c.in-Some.ensures.end.is

pub returns-in-None : goal.returns-in-None
returns-in-None c = label-missing _ c.in-None.ensures.end
