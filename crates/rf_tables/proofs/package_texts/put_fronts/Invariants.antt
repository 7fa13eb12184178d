use Rattle.std.proofs.Common.{◌≡◌, drop}
use Rattle.rf_jtree.specs.NameShown.{name_shown}
use Rattle.rf_jmodel.specs.ProjectNames.{with_texts}
use Rattle.rf_tables.specs.PackageTexts.{front_texts, longer_texts}
use Rattle.rf_tables.proofs.package_texts.put_fronts.Given as goal

abbrev pub invariant-loop-item : goal.invariant-loop-item
invariant-loop-item l =
    with_texts l.names (longer_texts l.text (drop l.item-index l.fn.name.ids.rest)) ≡ with_texts l.fn.names (front_texts (name_shown l.fn.name))
