use Rattle.rf_form.specs.Constraints.{problem_of}
use Rattle.rf_form.proofs.Needs.{canon_one}
use Rattle.rf_form.proofs.laws.need_is_one.Goals as goal

pub returns : goal.returns
returns c = λ vals fs δ o p n m a b. canon_one (problem_of vals fs) δ o p n m a b
