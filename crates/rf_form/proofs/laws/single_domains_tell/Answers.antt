use Rattle.rf_form.proofs.Mentioned.{is_truth}
use Rattle.rf_form.proofs.laws.single_domains_tell.Goals as goal

pub returns : goal.returns
returns c = λ vals δ p f single. is_truth vals δ p f single
