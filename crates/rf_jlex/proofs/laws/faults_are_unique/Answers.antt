use Rattle.rf_jlex.proofs.CutLemmas.{one_fault}
use Rattle.rf_jlex.proofs.laws.faults_are_unique.Goals as goal

pub returns : goal.returns
returns c = one_fault c.args.bytes.now
