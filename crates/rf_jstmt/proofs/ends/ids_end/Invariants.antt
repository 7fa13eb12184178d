use Rattle.std.proofs.Common.{List, ◌-◌, length}
use Rattle.rf_jtree.specs.declared.tokens.Tok.{Tok}
use Rattle.rf_jtree.specs.declared.operator_names.TheConstants.{DOT}
use Rattle.rf_jexpr.specs.Reads.{is_op, is_ident, token, behind}
use Rattle.rf_jexpr.proofs.TurnLemmas.{IsAtTurn}
use Rattle.rf_jstmt.proofs.ends.ids_end.Given as goal

-- some identifiers were passed
abbrev pub invariant-items : goal.invariant-items
invariant-items l = (done : List (Tok × Tok)) × IsAtTurn (behind (is_op DOT) (token is_ident)) l.t l.at done l.end

abbrev pub decreases-items : goal.decreases-items
decreases-items l = length l.t - l.end
