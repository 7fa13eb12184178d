use Rattle.rf_proof.proofs.Wholes.{text_same}
use Rattle.rf_proof.proofs.laws.texts_are_of_one_tree.Goals as goal

pub returns : goal.returns
returns c = λ nodes others text one other. text_same nodes others text one other
