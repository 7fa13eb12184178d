-- What stands in names, types and modifiers.
use Rattle.std.specs.Prelude.{ℕ, ◌+◌, List, [], ◌∷◌, ◌++◌, Option, Some, None}
use Rattle.std.specs.List.{flat_map}
use Rattle.rf_jtree.specs.declared.names.Dims.{Dims}
use Rattle.rf_jtree.specs.declared.tokens.Tok.{Tok}
use Rattle.rf_jtree.specs.NameTrees.{ManyTree, NameTree, TypeBaseTree, Prim, Named, TypeUseTree, ModTree, mods_yield, dims_yield}
use Rattle.rf_jview.specs.declared.marks.Mark.{Mark}
use Rattle.rf_jview.specs.declared.marks.Mark.TheVariants as m
use Rattle.rf_jview.specs.MarkWords.{plains}

-- The name of a type is a reference, whose place is its last identifier (JLS 6.5.5).
abbrev pub type_rest_marks : List (Tok × Tok) → List Mark
type_rest_marks [] = m.TypeName ∷ []
type_rest_marks (item ∷ rest) = m.Front ∷ m.Front ∷ type_rest_marks rest

abbrev pub type_name_marks : NameTree → List Mark
type_name_marks name = type_rest_marks name.ids.rest

-- Each identifier of an expression name says where the name begins (JLS 6.5.2, 6.5.6).
abbrev pub name_rest_marks : ℕ → List (Tok × Tok) → List Mark
name_rest_marks back [] = m.Name back ∷ []
name_rest_marks back (item ∷ rest) = m.Part back ∷ m.Plain ∷ name_rest_marks (back + 2) rest

abbrev pub name_marks : NameTree → List Mark
name_marks name = name_rest_marks 0 name.ids.rest

-- a primitive type or a named one, with its brackets (JLS 4.2, 4.3)
abbrev pub base_marks : TypeBaseTree → List Mark
base_marks (Prim tok) = m.Plain ∷ []
base_marks (Named name) = type_name_marks name

abbrev pub dims_marks : Dims → List Mark
dims_marks dims = plains (dims_yield dims)

abbrev pub type_marks : TypeUseTree → List Mark
type_marks used_type = base_marks used_type.base ++ dims_marks used_type.dims

-- Nothing stands in modifiers: the annotations of the language's own aren't resolved (JLS 9.6.3).
abbrev pub mods_marks : List ModTree → List Mark
mods_marks mods = plains (mods_yield mods)

-- parts that may be left out, and one or more behind a word or between commas
abbrev pub option_marks : {A : Type 0} → (A → List Mark) → Option A → List Mark
option_marks marks None = []
option_marks marks (Some part) = marks part

abbrev pub behind_marks : {A : Type 0} → (A → List Mark) → Tok × A → List Mark
behind_marks marks part = m.Plain ∷ marks part.1

abbrev pub many_marks : {A : Type 0} → (A → List Mark) → ManyTree A → List Mark
many_marks marks many = marks many.first ++ flat_map (behind_marks marks) many.rest
