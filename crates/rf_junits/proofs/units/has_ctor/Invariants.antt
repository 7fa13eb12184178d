use Rattle.std.proofs.Common.{◌≡◌, drop}
use Rattle.std.specs.List.{list_any}
use Rattle.rf_jtree.specs.DeclShown.{members_shown}
use Rattle.rf_jview.specs.DeclMarks.{is_ctor}
use Rattle.rf_junits.proofs.units.has_ctor.Given as goal

abbrev pub invariant-loop-member : goal.invariant-loop-member
invariant-loop-member l = list_any is_ctor (members_shown (drop l.member-index l.members)) ≡ list_any is_ctor (members_shown l.members)
