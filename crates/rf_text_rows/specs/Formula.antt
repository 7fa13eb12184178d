-- What a formula means: `True` holds, `Not` of a formula where that doesn't, `All` where each of them does.
use Rattle.std.specs.Prelude.{Bool, true, not, ◌&&◌, List, [], ◌∷◌}
use Rattle.rf_text_rows.specs.declared.formula.Formula.{Formula, fold-Formula}
use Rattle.rf_text_rows.specs.declared.formula.Formula.TheOpen.{Formula-F, True, Not, All}

-- whether each of them is true
abbrev pub each : List Bool → Bool
each [] = true
each (first ∷ rest) = first && each rest

-- the meaning, from that of the parts
abbrev pub layer : Formula-F Bool → Bool
layer True = true
layer (Not part) = not part
layer (All parts) = each parts

unfoldable pub meaning : Formula → Bool
meaning = fold-Formula Bool layer
