use Rattle.std.proofs.Common.{◌≡◌, drop}
use Rattle.rf_symtab.specs.declared.answers.Answer.TheVariants as answer
use Rattle.rf_symtab.specs.Found.{demanded_from}
use Rattle.rf_symtab.proofs.type_names.on_demand.Given as goal

abbrev pub invariant-loop-in_package : goal.invariant-loop-in_package
invariant-loop-in_package l =
    demanded_from l.tables l.row.package l.name l.found (drop l.in_package-index l.row.demand) ≡ demanded_from l.tables l.row.package l.name answer.None l.row.demand
