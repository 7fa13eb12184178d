use Rattle.rf_form.proofs.Below.{not_both}
use Rattle.rf_form.proofs.laws.never_both.Goals as goal

pub returns : goal.returns
returns c = λ vals δ f h g. not_both vals δ f h g
