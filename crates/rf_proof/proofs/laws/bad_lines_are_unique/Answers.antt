use Rattle.rf_proof.proofs.Wholes.{bad_line_same}
use Rattle.rf_proof.proofs.laws.bad_lines_are_unique.Goals as goal

pub returns : goal.returns
returns c = λ text k j one other. bad_line_same text k j one other
