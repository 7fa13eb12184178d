use Rattle.rf_trail.proofs.Words.{without_bit_is}
use Rattle.rf_trail.proofs.word.without_bit.Goals as goal

pub returns : goal.returns
returns c = λ i low. without_bit_is c.args.word c.args.at i c.requires low
