use Rattle.rf_jlex.proofs.CutLemmas.{no_tokens}
use Rattle.rf_jlex.proofs.laws.a_fault_has_no_tokens.Goals as goal

pub returns : goal.returns
returns c = no_tokens c.args.bytes.now
