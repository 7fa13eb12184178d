-- Where no further brackets stand, the loop has read all of them.
use Rattle.std.proofs.Common.{refl}
use Rattle.rf_jexpr.specs.NameReads.{dims}
use Rattle.rf_jexpr.specs.Reads.{and_then}
use Rattle.rf_jexpr.proofs.TurnLemmas.{last-turn}
use Rattle.rf_jexpr.proofs.names.dims.Goals as goal

pub returns : goal.returns
unfolding dims and_then
returns c =
    let missing = rw c.in_default.is at c.in_ok-pair.ensures in
    let nothing = rw missing at c.brackets.ensures.gives in
    let turn = c.loop-list.invariant in
    let all = last-turn _ _ _ _ _ turn nothing in
    (rw all refl, turn.forth, turn.within)
