use Rattle.std.proofs.Common.{◌≡◌, ◌∙◌, ℕ, List, [], sym, ap, ap₂, subst}
use Rattle.rf_jmodel.specs.declared.projects.PlacedUnit.{PlacedUnit}
use Rattle.rf_jmodel.specs.declared.projects.Project.{Project}
use Rattle.rf_jmodel.specs.ElementLists.{places_in}
use Rattle.rf_jmodel.specs.Elements.{AreKeys, HasElement}
use Rattle.rf_jmodel.specs.Numbering.{numbered_units, numbered}
use Rattle.rf_jmodel.specs.ProjectNames.{with_texts, texts_of}
use Rattle.rf_jmodel.specs.Whole.{HasBasicTypes, IsWhole}
use Rattle.rf_jmodel.specs.Subtypes.{IsTypeId}
use Rattle.rf_jmodel.proofs.TypeIdLemmas.{type-ids}
use Rattle.rf_jmodel.proofs.WholeLemmas.{are-keys, whole}
use Rattle.rf_jmodel.proofs.numbering.number.Goals as goal

abbrev made : (own lib : ℕ) → List PlacedUnit → List (List ℕ) → Project
made own lib units names = record { units = units; names = names; own = own; lib = lib }

is-numbered : (units slice done : List PlacedUnit) (names : List (List ℕ)) (own lib : ℕ) → slice ≡ units → done ≡ numbered_units 0 units
    → names ≡ with_texts [] (texts_of slice) → made own lib done names ≡ numbered units own lib
is-numbered units slice done names own lib is-slice is-done is-names =
    ap₂ (λ (list : List PlacedUnit) (texts : List (List ℕ)). made own lib list texts) is-done
    (is-names ∙ ap (λ (list : List PlacedUnit). with_texts [] (texts_of list)) is-slice)

pub returns-clause-elements : goal.returns-clause-elements
returns-clause-elements c of =
    let same = is-numbered c.args.units c.as_slice.result.now c.in_ok-units.units c.in_ok-names.names c.args.own c.args.lib
    c.as_slice.ensures c.in_ok-units.ensures c.in_ok-names.ensures in
    subst (λ (project : Project). AreKeys (HasElement project of) (places_in of 0 c.args.units)) (sym same)
    (are-keys c.args.units c.args.own c.args.lib c.requires.parsed c.as_many_marks_as_tokens.ensures.unit of)

pub returns-clause-types : goal.returns-clause-types
returns-clause-types c id below =
    let same = is-numbered c.args.units c.as_slice.result.now c.in_ok-units.units c.in_ok-names.names c.args.own c.args.lib
    c.as_slice.ensures c.in_ok-units.ensures c.in_ok-names.ensures in
    subst (λ (project : Project). IsTypeId project id id.0) (sym same)
    (type-ids c.args.units c.args.own c.args.lib c.requires.parsed c.as_many_marks_as_tokens.ensures.unit id below)

pub returns-clause-whole : goal.returns-clause-whole
returns-clause-whole c =
    let same = is-numbered c.args.units c.as_slice.result.now c.in_ok-units.units c.in_ok-names.names c.args.own c.args.lib
    c.as_slice.ensures c.in_ok-units.ensures c.in_ok-names.ensures in
    subst (λ (project : Project). HasBasicTypes project → IsWhole project) (sym same)
    (whole c.args.units c.args.own c.args.lib c.requires.parsed c.as_many_marks_as_tokens.ensures.unit c.requires.counted c.requires.few)
