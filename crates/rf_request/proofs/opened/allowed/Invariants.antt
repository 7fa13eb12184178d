use Rattle.std.proofs.Common.{◌≡◌, length}
use Rattle.rf_request.specs.Opened.{allowed_of}
use Rattle.rf_request.proofs.opened.allowed.Given as goal

abbrev pub invariant-loop-rest : goal.invariant-loop-rest
invariant-loop-rest l = allowed_of l.rest ≡ allowed_of l.lines

abbrev pub decreases-loop-rest : goal.decreases-loop-rest
decreases-loop-rest l = length l.rest
