use Rattle.std.proofs.Common.{◌-◌, ◌≤◌, length, take, drop}
use Rattle.rf_jtree.specs.Tokens.{Skips}
use Rattle.rf_jlex.proofs.lexer.cut_trivia.Given as goal

abbrev pub invariant-loop-piece : goal.invariant-loop-piece
invariant-loop-piece l = record {
  within : l.skipped ≤ length l.text;
  skips : Skips l.text (take l.skipped l.text) (drop l.skipped l.text);
}

abbrev pub decreases-loop-piece : goal.decreases-loop-piece
decreases-loop-piece l = length l.text - l.skipped
