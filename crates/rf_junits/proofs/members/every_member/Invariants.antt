use Rattle.std.proofs.Common.{◌≡◌, drop}
use Rattle.rf_jtree.specs.DeclShown.{members_shown}
use Rattle.rf_jview.specs.Accounts.{noted}
use Rattle.rf_jview.specs.DeclMarks.{members_marks}
use Rattle.rf_junits.proofs.members.every_member.Given as goal

abbrev pub invariant-loop-one : goal.invariant-loop-one
invariant-loop-one l = noted l.account (members_marks (members_shown (drop l.one-index l.list))) ≡ noted l.fn.account (members_marks (members_shown l.list))
