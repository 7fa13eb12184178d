use Rattle.std.proofs.Common.{◌≡◌, drop}
use Rattle.std.specs.List.{flat_map}
use Rattle.rf_jtree.specs.DeclShown.{more_names_shown}
use Rattle.rf_jtree.specs.NameShown.{many_shown, name_shown}
use Rattle.rf_jview.specs.Accounts.{noted}
use Rattle.rf_jview.specs.NameMarks.{type_name_marks, behind_marks, many_marks}
use Rattle.rf_junits.proofs.params.many_names.Given as goal

abbrev pub invariant-loop-item : goal.invariant-loop-item
invariant-loop-item l = noted l.account (flat_map (behind_marks type_name_marks) (more_names_shown (drop l.item-index l.many.rest)))
    ≡ noted l.fn.account (many_marks type_name_marks (many_shown name_shown l.many))
