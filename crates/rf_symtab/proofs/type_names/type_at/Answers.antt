use Rattle.std.proofs.Common.{◌≡◌, ℕ, ◌<◌, List, None, Some, length, sym, ◌∙◌, subst, slice_get}
use Rattle.rf_text.specs.declared.span.NameId.{NameId}
use Rattle.rf_jmodel.specs.declared.projects.Project.{Project}
use Rattle.rf_jmodel.specs.declared.tables.Tables.{Tables}
use Rattle.rf_jmodel.specs.declared.tables.UnitRow.{UnitRow}
use Rattle.rf_jmodel.specs.StandsFor.{IsText, StandsFor}
use Rattle.rf_jmodel.specs.TypeNames.{TypeAt}
use Rattle.rf_jmodel.specs.Whole.{IsWhole}
use Rattle.rf_symtab.specs.declared.answers.Answer.{Answer}
use Rattle.rf_symtab.specs.Answers.{HasNamesOnce, IsAnswer}
use Rattle.rf_symtab.specs.Found.{answer_in}
use Rattle.rf_symtab.proofs.FoundLemmas.{row-answer}
use Rattle.rf_symtab.proofs.ListLemmas.{none-some, there}
use Rattle.rf_symtab.proofs.type_names.type_at.Goals as goal

-- a file of the project has its row
no-row : (project : Project) (tables : Tables) (u : ℕ) → StandsFor tables project → u < length project.units → slice_get tables.units u ≡ None → ⊥
no-row project tables u stands below none =
    let row = there tables.units u (subst (λ (n : ℕ). u < n) (sym stands.unit_each) below) in
    none-some (sym none ∙ row.1)

of-row : (project : Project) (tables : Tables) (u : ℕ) (name : NameId) (text : List ℕ) (row : UnitRow) (found : Answer)
    → IsWhole project → HasNamesOnce project → StandsFor tables project → IsText project name text → slice_get tables.units u ≡ Some row
    → found ≡ answer_in tables row name → IsAnswer project (TypeAt project u text) found
of-row project tables u name text row found whole once stands is-name at is =
    subst (IsAnswer project (TypeAt project u text)) (sym is)
    (row-answer project tables whole once stands u row (stands.units u row at) name text is-name)

pub returns-in-Some : goal.returns-in-Some
returns-in-Some c project text whole once stands below is-name =
    of-row project c.args.tables.now c.args.unit.0 c.args.name text _ _ whole once stands is-name
    (sym c.in-Some.ensures.value) c.type_in.ensures

pub returns-in-None : goal.returns-in-None
returns-in-None c project text whole once stands below is-name = absurd (no-row project c.args.tables.now c.args.unit.0 stands below (sym c.in-None.ensures.value))
