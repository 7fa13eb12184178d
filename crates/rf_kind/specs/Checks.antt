-- The answers of a check.
use Rattle.std.specs.Prelude.{◌≡◌, Result, Ok, Err, Some, None}
use Rattle.rf_rtree.specs.declared.checked.Checked.{Checked}
use Rattle.rf_rtree.specs.declared.items.RuleProg.{RuleProg}
use Rattle.rf_rtree.specs.declared.language.Lang.{Lang}
use Rattle.rf_rtree.specs.Programs.{first_fault}
use Rattle.rf_kind.specs.declared.checking.KindErr.{KindErr}
use Rattle.rf_kind.specs.declared.checking.KindErr.TheVariants.{Fault, Memory}

-- the program where it has no kind fault, and else the first one; want of memory is free
abbrev pub Checks : RuleProg → Lang → Result Checked KindErr → Type 0
Checks prog lang (Ok checked) =
    (first_fault prog lang ≡ None) × (checked.prog ≡ prog) × (checked.lang ≡ lang)
Checks prog lang (Err (Fault fault)) = first_fault prog lang ≡ Some fault
Checks prog lang (Err Memory) = Unit {0}
