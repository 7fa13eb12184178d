use Rattle.rf_form.proofs.Needs.{canon_one}
use Rattle.rf_inst.specs.Insts.{problem}
use Rattle.rf_inst.proofs.laws.an_instance_has_one_need.Goals as goal

pub returns : goal.returns
returns c = λ i δ o p n m a b. canon_one (problem i.vals i.cons) δ o p n m a b
