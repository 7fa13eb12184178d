use Rattle.std.proofs.Common.{◌≡◌, length}
use Rattle.rf_request.specs.Choices.{is_repeated}
use Rattle.rf_request.proofs.reader.is_repeated.Given as goal

abbrev pub invariant-loop-rest : goal.invariant-loop-rest
invariant-loop-rest l = is_repeated l.choice l.rest ≡ is_repeated l.choice l.lines

abbrev pub decreases-loop-rest : goal.decreases-loop-rest
decreases-loop-rest l = length l.rest
