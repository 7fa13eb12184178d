use Rattle.rf_jexpr.proofs.Final.{one_tree}
use Rattle.rf_jexpr.proofs.laws.expressions_have_one_tree.Goals as goal

pub returns : goal.returns
returns c = one_tree
