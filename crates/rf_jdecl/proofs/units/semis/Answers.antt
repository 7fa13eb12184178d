-- Where no further one stands, the loop has read all of them.
use Rattle.rf_jexpr.proofs.TurnLemmas.{last-turn}
use Rattle.rf_jdecl.proofs.units.semis.Goals as goal

pub returns : goal.returns
returns c =
    let missing = rw c.in_default.is at c.in_ok-next.ensures in
    let nothing = rw missing at c.take.ensures.gives in
    let turn = c.items.invariant in
    (last-turn _ _ _ _ _ turn nothing, turn.forth, turn.within)
