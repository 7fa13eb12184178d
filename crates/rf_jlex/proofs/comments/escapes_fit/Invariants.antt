use Rattle.std.proofs.Common.{◌≡◌, ℕ, ◌%◌, ◌<◌, cond, take}
use Rattle.rf_jtree.specs.Trivia.{trailing_backslashes}
use Rattle.rf_jlex.proofs.EscapeScanLemmas.{EscapeMayStandAt}
use Rattle.rf_jlex.proofs.comments.escapes_fit.Given as goal

abbrev pub invariant-loop-at : goal.invariant-loop-at
invariant-loop-at l = record {
  parity : trailing_backslashes (take l.at l.comment) % 2 ≡ cond l.is_escaped 1 0;
  before : (at : ℕ) → at < l.at → EscapeMayStandAt l.comment at;
}
