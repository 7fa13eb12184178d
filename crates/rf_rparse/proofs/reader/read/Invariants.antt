use Rattle.std.proofs.Common.{◌≡◌, Some, take, map}
use Rattle.rf_rparse.specs.Words.{shown}
use Rattle.rf_rparse.proofs.ProgramRuns.{program_run, start}
use Rattle.rf_rparse.proofs.reader.read.Given as goal

abbrev pub invariant-loop-at : goal.invariant-loop-at
invariant-loop-at l = program_run (take l.at (map shown l.toks)) start ≡ Some l.course
