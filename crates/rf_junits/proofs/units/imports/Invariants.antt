use Rattle.std.proofs.Common.{◌≡◌, drop}
use Rattle.std.specs.List.{flat_map}
use Rattle.rf_jtree.specs.DeclShown.{imports_shown}
use Rattle.rf_jview.specs.Accounts.{noted}
use Rattle.rf_jview.specs.DeclMarks.{import_marks}
use Rattle.rf_junits.proofs.units.imports.Given as goal

abbrev pub invariant-loop-import : goal.invariant-loop-import
invariant-loop-import l = noted l.account (flat_map import_marks (imports_shown (drop l.import-index l.list))) ≡ noted l.fn.account (flat_map import_marks (imports_shown l.list))
