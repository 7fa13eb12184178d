use Rattle.rf_form.proofs.FormulaLaws.{formulas_need}
use Rattle.rf_form.proofs.laws.each_family_has_a_need.Goals as goal

pub returns : goal.returns
returns c = formulas_need
