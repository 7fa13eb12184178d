-- Where no further string stands, the loop has read all of them.
use Rattle.rf_jexpr.proofs.TurnLemmas.{last-turn}
use Rattle.rf_jmods.proofs.annotations.more_strs.Goals as goal

pub returns : goal.returns
returns c =
    let missing = rw c.in_default.is at c.in_ok-next.ensures in
    let nothing = rw missing at c.next_str.ensures.gives in
    let turn = c.loop-list.invariant in
    (last-turn _ _ _ _ _ turn nothing, turn.forth, turn.within)
