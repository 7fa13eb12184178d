use Rattle.std.proofs.Common.{◌≡◌, take}
use Rattle.rf_jtree.proofs.tokens.Toks.copy.Given as goal

abbrev pub invariant-loop-tok : goal.invariant-loop-tok
invariant-loop-tok l = l.list ≡ take l.tok-index l.self.list
