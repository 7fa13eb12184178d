use Rattle.rf_form.proofs.Mentioned.{is_local}
use Rattle.rf_form.proofs.laws.looks_at_its_variables.Goals as goal

pub returns : goal.returns
returns c = λ vals δ ε f b same h. is_local vals δ ε f b same h
