use Rattle.std.proofs.Common.{◌≡◌, length}
use Rattle.rf_request.specs.Opened.{spares_of}
use Rattle.rf_request.proofs.opened.spares.Given as goal

abbrev pub invariant-loop-rest : goal.invariant-loop-rest
invariant-loop-rest l = spares_of l.rest ≡ spares_of l.lines

abbrev pub decreases-loop-rest : goal.decreases-loop-rest
decreases-loop-rest l = length l.rest
