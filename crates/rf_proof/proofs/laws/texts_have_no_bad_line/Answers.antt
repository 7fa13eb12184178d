use Rattle.rf_proof.proofs.Wholes.{whole_has_no_bad_line}
use Rattle.rf_proof.proofs.laws.texts_have_no_bad_line.Goals as goal

pub returns : goal.returns
returns c = λ nodes text k is bad. whole_has_no_bad_line nodes text k is bad
