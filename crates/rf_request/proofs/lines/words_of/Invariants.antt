use Rattle.std.proofs.Common.{◌≡◌, ◌++◌, length}
use Rattle.rf_request.specs.Words.{words_of}
use Rattle.rf_request.proofs.lines.words_of.Given as goal

abbrev pub invariant-loop-cut : goal.invariant-loop-cut
invariant-loop-cut l = l.words ++ words_of l.rest ≡ words_of l.line

abbrev pub decreases-loop-cut : goal.decreases-loop-cut
decreases-loop-cut l = length l.rest
