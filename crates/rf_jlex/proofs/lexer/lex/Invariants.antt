use Rattle.std.proofs.Common.{length}
use Rattle.rf_jtree.specs.Tokens.{CutsTokens}
use Rattle.rf_jlex.proofs.lexer.lex.Given as goal

abbrev pub invariant-loop-list : goal.invariant-loop-list
invariant-loop-list l = CutsTokens l.bytes l.list l.rest

abbrev pub decreases-loop-list : goal.decreases-loop-list
decreases-loop-list l = length l.rest
