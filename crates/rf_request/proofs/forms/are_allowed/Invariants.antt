use Rattle.std.proofs.Common.{All, take}
use Rattle.rf_request.specs.Forms.{IsAllowed}
use Rattle.rf_request.proofs.forms.are_allowed.Given as goal

abbrev pub invariant-loop-word : goal.invariant-loop-word
invariant-loop-word l = All IsAllowed (take l.word-index l.words)
