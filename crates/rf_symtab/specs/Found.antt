-- What tables hold for a simple name in a file. What it means for a project stands in `Answers`.
use Rattle.std.specs.Prelude.{◌||◌, cond, nat_eq, List, [], ◌∷◌, Option, Some, None}
use Rattle.std.specs.HashMap.{get}
use Rattle.rf_text.specs.declared.span.NameId.{NameId}
use Rattle.rf_jmodel.specs.declared.ids.TypeId.{TypeId}
use Rattle.rf_jmodel.specs.declared.tables.Tables.{Tables}
use Rattle.rf_jmodel.specs.declared.tables.TypeRow.{TypeRow}
use Rattle.rf_jmodel.specs.declared.tables.UnitRow.{UnitRow}
use Rattle.rf_jmodel.specs.StandsFor.{name_eq, names_eq}
use Rattle.rf_symtab.specs.declared.answers.Answer.{Answer}
use Rattle.rf_symtab.specs.declared.answers.Answer.TheVariants as answer

-- an answer with one type more, which may be the one that it has
abbrev joined_id : Answer → TypeId → Answer
joined_id answer.None id = answer.One id
joined_id (answer.One known) id = cond (nat_eq known.0 id.0) (answer.One known) answer.Several
joined_id answer.Several id = answer.Several

abbrev pub joined : Answer → Option TypeId → Answer
joined found None = found
joined found (Some id) = joined_id found id

-- the type of a row, where it is public or the packages are the same (JLS 6.6.1)
abbrev pub accessible_id : NameId → NameId → Option TypeRow → Option TypeId
accessible_id from in_package None = None
accessible_id from in_package (Some row) = cond (row.is_public || name_eq in_package from) (Some row.id) None

-- the type of the file, where it has this name
abbrev pub own_id : UnitRow → NameId → Option TypeId
own_id row name = cond (name_eq row.own.0 name) (Some row.own.1) None

-- with the types of further packages
abbrev pub demanded_from : Tables → NameId → NameId → Answer → List NameId → Answer
demanded_from tables from name found [] = found
demanded_from tables from name found (in_package ∷ packages) =
    demanded_from tables from name (joined found (accessible_id from in_package (get names_eq tables.types (in_package, name)))) packages

-- a type, or else an answer
abbrev pub first_of : Option TypeId → Answer → Answer
first_of (Some id) other = answer.One id
first_of None other = other

abbrev pub beside_id : Tables → UnitRow → NameId → Option TypeId
beside_id tables row name = accessible_id row.package row.package (get names_eq tables.types (row.package, name))

abbrev pub answer_in : Tables → UnitRow → NameId → Answer
answer_in tables row name =
    first_of (own_id row name) (first_of (get name_eq row.single name) (first_of (beside_id tables row name)
    (demanded_from tables row.package name answer.None row.demand)))
