use Rattle.std.proofs.Common.{◌≡◌, ◌+◌, ◌≤◌, ◌++◌, map, length}
use Rattle.rf_request.specs.Choices.{AreChoices, choice_line}
use Rattle.rf_request.specs.Requests.{lines_from}
use Rattle.rf_request.proofs.reader.read_choices.Given as goal

abbrev pub invariant-loop-choices : goal.invariant-loop-choices
invariant-loop-choices l = record {
  within : l.at + length l.rest ≤ l.number + length l.text;
  are : AreChoices l.choices;
  read : map choice_line l.choices ++ lines_from l.at l.rest ≡ lines_from l.number l.text;
}

abbrev pub decreases-loop-choices : goal.decreases-loop-choices
decreases-loop-choices l = length l.rest
