use Rattle.std.proofs.Common.{◌≡◌, ◌+◌, ◌≤◌, length}
use Rattle.rf_request.specs.Requests.{lines_from}
use Rattle.rf_request.proofs.lines.next_line.Given as goal

abbrev pub invariant-loop-rest : goal.invariant-loop-rest
invariant-loop-rest l = record {
  same : lines_from l.at l.rest ≡ lines_from l.number l.text;
  shorter : length l.rest ≤ length l.text;
  within : l.at + length l.rest ≤ l.number + length l.text;
}

abbrev pub decreases-loop-rest : goal.decreases-loop-rest
decreases-loop-rest l = length l.rest
