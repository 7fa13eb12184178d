use Rattle.std.proofs.Common.{◌-◌, length}
use Rattle.rf_jtree.specs.DeclShown.{member_shown}
use Rattle.rf_jtree.specs.DeclTrees.{member_depth}
use Rattle.rf_jexpr.proofs.GrowthLemmas.{IsFilling}
use Rattle.rf_jdecl.specs.MemberReads.{member}
use Rattle.rf_jdecl.proofs.members.members.Given as goal

abbrev pub invariant-items : goal.invariant-items
invariant-items l = IsFilling member_shown member_depth l.room (member l.room) l.t l.at l.list.tree l.list.end l.list.depth

abbrev pub decreases-items : goal.decreases-items
decreases-items l = length l.t - l.list.end
