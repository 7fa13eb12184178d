use Rattle.rf_form.proofs.Below.{is_below}
use Rattle.rf_form.proofs.laws.stays_in_parts.Goals as goal

pub returns : goal.returns
returns c = λ n places vals p δ f b part filled within h. is_below n places p δ part filled within vals f b h
