-- Where no further member stands, the loop has read all of them.
use Rattle.rf_jexpr.proofs.GrowthLemmas.{first-filling, next-filling, last-filling}
use Rattle.rf_jdecl.specs.MemberReads.{members}
use Rattle.rf_jdecl.proofs.members.members.Goals as goal

pub items-init : goal.items-init
items-init c = first-filling _ _ _ _ _ _ _ c.new.ensures c.requires

pub items-preserved : goal.items-preserved
items-preserved c =
    let tried = rw c.in-Some.is at c.in_ok-next.ensures in
    let taken = rw tried at c.next_member.ensures.gives in
    let forth = rw tried at c.next_member.ensures.forth in
    let grown = c.in_ok-list.ensures in
    rw grown.1 (next-filling _ _ _ _ _ _ _ _ _ c.in-Some.next.tree c.in-Some.next.end c.in-Some.next.depth _ _ c.items.invariant taken.0 forth taken.2 taken.3 taken.4 grown.0 grown.2)

pub returns : goal.returns
unfolding members
returns c =
    let missing = rw c.in_default.is at c.in_ok-next.ensures in
    let nothing = rw missing at c.next_member.ensures.gives in
    let filling = c.items.invariant in
    (last-filling _ _ _ _ _ _ _ _ _ filling nothing, filling.turn.forth, filling.turn.within, filling.depth_is, filling.shallow)
