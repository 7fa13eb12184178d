use Rattle.rf_trail.proofs.Words.{with_bit_is}
use Rattle.rf_trail.proofs.word.with_bit.Goals as goal

pub returns : goal.returns
returns c = λ i low. with_bit_is c.args.word c.args.at i c.requires low
