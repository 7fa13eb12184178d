use Rattle.rf_jlex.proofs.CutLemmas.{bytes_of_tokens}
use Rattle.rf_jlex.proofs.laws.bytes_come_back.Goals as goal

pub returns : goal.returns
returns c = bytes_of_tokens c.args.bytes.now
