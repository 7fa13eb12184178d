-- What the code's values tell.
use Rattle.std.specs.Prelude.{ℕ, List, Option, Some, None}
use Rattle.std.specs.Fmt.{decimal}
use Rattle.rf_rtree.specs.Faults.{Told, told}
use Rattle.rf_rtree.specs.Programs.{in_item}
use Rattle.rf_rtree.specs.declared.faults.KindFault.{KindFault}
use Rattle.rf_kind.specs.declared.programs.Blamed.{Blamed}
use Rattle.rf_kind.specs.declared.faults.Fault.{Fault}
use Rattle.rf_kind.specs.declared.faults.Said.{Said}
use Rattle.rf_kind.specs.declared.faults.Said.TheVariants.{Text, Count}

abbrev pub said : Said → List ℕ
said (Text text) = text.now
said (Count number) = decimal number

abbrev pub told_as : Fault → Told
told_as fault = told fault.line (said fault.found) (said fault.wanted)

abbrev pub told_by : Option Fault → Option Told
told_by None = None
told_by (Some fault) = Some (told_as fault)

-- a fault with the name of the item that has it
abbrev pub told_in : Option Blamed → Option KindFault
told_in None = None
told_in (Some blamed) = in_item blamed.item.now (Some (told_as blamed.fault))
