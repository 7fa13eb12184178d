-- The equations of `meaning`, one for each form.
use Rattle.std.proofs.Common.{◌≡◌, Bool, true, not, List, [], ◌∷◌, map, length, ap, sym, ◌∙◌, arith}
use Rattle.rf_text_rows.specs.Formula.{layer, each, meaning}
use Rattle.rf_text_rows.specs.declared.formula.Formula.{Formula, fold-roll-Formula}
use Rattle.rf_text_rows.specs.declared.formula.Formula.TheOpen as layer_of
use Rattle.rf_text_rows.specs.declared.formula.Formula.TheVariants.{True, Not, All, rolls-True, rolls-Not, rolls-All}

pub meaning-True : meaning True ≡ true
unfolding meaning
meaning-True = ap meaning (sym rolls-True) ∙ fold-roll-Formula Bool layer layer_of.True

pub meaning-Not : (part : Formula) → meaning (Not part) ≡ not (meaning part)
unfolding meaning
meaning-Not part = ap meaning (sym (rolls-Not part)) ∙ fold-roll-Formula Bool layer (layer_of.Not part)

pub meaning-All : (parts : List Formula) → meaning (All parts) ≡ each (map meaning parts)
unfolding meaning
meaning-All parts = ap meaning (sym (rolls-All parts)) ∙ fold-roll-Formula Bool layer (layer_of.All parts)

-- where none is left to decide, the formula holds
pub none_decides : (formula : Formula) (rest : List Formula)
    → meaning formula ≡ each (map meaning rest) → length rest ≡ 0 → true ≡ meaning formula
none_decides formula [] decides none = sym decides
none_decides formula (first ∷ rest) decides none = absurd (omega arith)

pub ruleset meanings = (meaning-True, meaning-Not, meaning-All, none_decides)
