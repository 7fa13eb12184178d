use Rattle.std.proofs.Common.{◌≡◌, List, [], ◌∷◌, ◌++◌, All, sym, subst}
use Rattle.std.proofs.lemmas.List.Elements.{All-nil, All-push}
use Rattle.rf_jmodel.specs.declared.projects.PlacedUnit.{PlacedUnit}
use Rattle.rf_jmodel.specs.Whole.{IsParsed}
use Rattle.rf_jmodel_rows.proofs.files.project_of.Goals as goal

one_more : (units more : List PlacedUnit) (unit : PlacedUnit) → more ≡ units ++ unit ∷ [] → All IsParsed units → IsParsed unit → All IsParsed more
one_more units more unit is all parsed = subst (All IsParsed) (sym is) (All-push IsParsed units unit all parsed)

pub number-requires-clause-parsed : goal.number-requires-clause-parsed
number-requires-clause-parsed c =
    let none = subst (All IsParsed) (sym c.new-units.ensures) (All-nil IsParsed) in
    let first = one_more c.new-units.result c.push.new.self c.in_ok-placed.field-0 c.in_ok-push.ensures.ok none c.in_ok-placed.ensures.parsed in
    let second = one_more c.push.new.self c.push-2.new.self c.in_ok-placed-2.field-0 c.in_ok-push-2.ensures.ok first c.in_ok-placed-2.ensures.parsed in
    let third = one_more c.push-2.new.self c.push-3.new.self c.in_ok-placed-3.field-0 c.in_ok-push-3.ensures.ok second c.in_ok-placed-3.ensures.parsed in
    one_more c.push-3.new.self c.push-4.new.self c.in_ok-placed-4.field-0 c.in_ok-push-4.ensures.ok third c.in_ok-placed-4.ensures.parsed
