use Rattle.std.proofs.Common.{◌≡◌, ◌↔◌, ◌<◌, ◌∙◌, List, Some, Contains, length, sym, ap, subst, slice_get}
use Rattle.std.specs.List.Sorted.{IsPermutation}
use Rattle.rf_jmodel.specs.declared.ids.UnitId.{UnitId}
use Rattle.rf_jmodel.specs.declared.projects.PlacedUnit.{PlacedUnit}
use Rattle.rf_jmodel.specs.declared.projects.Project.{Project}
use Rattle.rf_tables.specs.declared.type_keys.TypeKey.{TypeKey}
use Rattle.rf_tables.specs.TypeKeys.{type_keys}
use Rattle.rf_tables.proofs.TypeOrderLemmas.{ids, all}
use Rattle.rf_tables.proofs.type_keys.type_order.Goals as goal

moved-keys : (project : Project) (units : List PlacedUnit) (found keys : List TypeKey) → units ≡ project.units → found ≡ type_keys 0 units
    → IsPermutation found keys → IsPermutation (type_keys 0 project.units) keys
moved-keys project units found keys are-units are-found moved =
    subst (λ (list : List TypeKey). IsPermutation list keys) (are-found ∙ ap (λ (list : List PlacedUnit). type_keys 0 list) are-units) moved

pub returns-clause-ids : goal.returns-clause-ids
returns-clause-ids c id unit at =
    let moved = moved-keys c.args.project.now c.as_slice.result.now c.in_ok-found.found _ c.as_slice.ensures c.in_ok-found.ensures
    c.in_element_order-keys.ensures.permutation in
    ids c.args.project.now c.requires _ moved c.in_element_order-keys.ensures.order id unit
    (subst (λ (files : List UnitId). slice_get files id.0 ≡ Some unit) c.in_ok-files.ensures at)

pub returns-clause-all : goal.returns-clause-all
returns-clause-all c unit =
    let moved = moved-keys c.args.project.now c.as_slice.result.now c.in_ok-found.found _ c.as_slice.ensures c.in_ok-found.ensures
    c.in_element_order-keys.ensures.permutation in
    subst (λ (files : List UnitId). Contains files unit ↔ (unit.0 < length c.args.project.now.units)) (sym c.in_ok-files.ensures)
    (all c.args.project.now c.requires _ moved c.in_element_order-keys.ensures.order unit)
