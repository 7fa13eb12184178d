use Rattle.rf_rparse.specs.Answers.{words_of}
use Rattle.rf_rparse.proofs.ProgramRuns.{one_reading}
use Rattle.rf_rparse.proofs.laws.programs_are_unique.Goals as goal

pub returns : goal.returns
returns c = λ one other first second. one_reading (words_of c.args.bytes.now) one other first.1 second.1
