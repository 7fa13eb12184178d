use Rattle.std.proofs.Common.{◌≡◌, length}
use Rattle.rf_request.specs.Opened.{decisions_of}
use Rattle.rf_request.proofs.opened.decisions_of.Given as goal

abbrev pub invariant-loop-rest : goal.invariant-loop-rest
invariant-loop-rest l = decisions_of l.rest ≡ decisions_of l.lines

abbrev pub decreases-loop-rest : goal.decreases-loop-rest
decreases-loop-rest l = length l.rest
