use Rattle.rf_refute.proofs.Sound.{good_not_bad}
use Rattle.rf_refute.proofs.laws.good_has_no_bad_node.Goals as goal

pub returns : goal.returns
returns c = λ s fams nodes k good bad. good_not_bad s fams nodes k good bad
