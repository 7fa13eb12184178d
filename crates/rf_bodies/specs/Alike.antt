-- Formulas that say the same.
use Rattle.std.specs.Prelude.{ℕ, Bool, List}
use Rattle.rf_form.specs.Families.{Family}
use Rattle.rf_form.specs.Formulas.{Formula}
use Rattle.rf_form.specs.Truths.{Is}

-- under all values and all domains both are true, both false, or neither is either
abbrev pub Alike : Formula → Formula → Type 0
Alike f g = (vals : List (List ℕ)) (δ : Family) (b : Bool) →
    (Is vals δ f b → Is vals δ g b) × (Is vals δ g b → Is vals δ f b)
