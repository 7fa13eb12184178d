use Rattle.std.proofs.Common.{◌≡◌, [], length}
use Rattle.rf_request.specs.Opened.{with_new}
use Rattle.rf_request.proofs.opened.each_once.Given as goal

abbrev pub invariant-loop-rest : goal.invariant-loop-rest
invariant-loop-rest l = record {
  same : l.names ≡ l.once;
  once : with_new l.once l.rest ≡ with_new [] l.words;
}

abbrev pub decreases-loop-rest : goal.decreases-loop-rest
decreases-loop-rest l = length l.rest
