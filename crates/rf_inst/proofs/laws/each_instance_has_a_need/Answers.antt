use Rattle.rf_form.proofs.FormulaLaws.{formulas_need}
use Rattle.rf_inst.specs.Insts.{formulas}
use Rattle.rf_inst.proofs.laws.each_instance_has_a_need.Goals as goal

pub returns : goal.returns
returns c = λ i δ fits. formulas_need i.vals (formulas i.cons) δ fits
