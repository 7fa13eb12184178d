use Rattle.std.proofs.Common.{◌≡◌, ◌+◌, ◌≤◌, ◌++◌, length}
use Rattle.rf_rlex.specs.Lexed.{tokens_from}
use Rattle.rf_rlex.proofs.lexer.lex.Given as goal

abbrev pub invariant-loop-rest : goal.invariant-loop-rest
invariant-loop-rest l = record {
  line : l.line + length l.rest ≤ length l.bytes + 1;
  toks : l.toks ++ tokens_from l.rest 0 l.line ≡ tokens_from l.bytes 0 1;
}

abbrev pub decreases-loop-rest : goal.decreases-loop-rest
decreases-loop-rest l = length l.rest
