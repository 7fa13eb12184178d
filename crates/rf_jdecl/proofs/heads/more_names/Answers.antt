-- Each turn reads one more, and where no further one stands, the loop has read all of them.
use Rattle.rf_jexpr.proofs.TurnLemmas.{last-turn}
use Rattle.rf_jdecl.proofs.CodeLemmas.{first-shown, next-shown}
use Rattle.rf_jdecl.proofs.heads.more_names.Goals as goal

pub items-init : goal.items-init
items-init c = first-shown _ _ _ _ _ c.new-list.ensures c.requires

pub items-preserved : goal.items-preserved
items-preserved c =
    let tried = rw c.in-Some.is at c.in_ok-next.ensures in
    let taken = rw tried at c.next_name.ensures.gives in
    let forth = rw tried at c.next_name.ensures.forth in
    next-shown _ _ _ _ c.items.list c.items.end c.in-Some.next.item c.in-Some.next.end c.push.new.self c.items.invariant taken.0 forth taken.2 c.in_ok-push.ensures.ok

pub returns : goal.returns
returns c =
    let missing = rw c.in_default.is at c.in_ok-next.ensures in
    let nothing = rw missing at c.next_name.ensures.gives in
    let turn = c.items.invariant in
    (last-turn _ _ _ _ _ turn nothing, turn.forth, turn.within)
