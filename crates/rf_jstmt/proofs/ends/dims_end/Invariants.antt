use Rattle.std.proofs.Common.{List, ◌-◌, length}
use Rattle.rf_jtree.specs.declared.tokens.Tok.{Tok}
use Rattle.rf_jexpr.specs.NameReads.{brackets}
use Rattle.rf_jexpr.proofs.TurnLemmas.{IsAtTurn}
use Rattle.rf_jstmt.proofs.ends.dims_end.Given as goal

-- some pairs of brackets were passed
abbrev pub invariant-items : goal.invariant-items
invariant-items l = (done : List (Tok × Tok)) × IsAtTurn brackets l.t l.at done l.end

abbrev pub decreases-items : goal.decreases-items
decreases-items l = length l.t - l.end
