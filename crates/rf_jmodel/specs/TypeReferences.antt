-- The references that names of types are, and what each is bound to (JLS 6.5.5, 7.5.1). They are read before all others.
use Rattle.std.specs.Prelude.{◌≡◌, ℕ, ◌-◌, ◌<◌, Bool, true, false, List, [], ◌∷◌, Some, slice_get, take, drop}
use Rattle.std.specs.List.{suffix_len}
use Rattle.rf_jtree.specs.declared.tokens.Tok.{Tok}
use Rattle.rf_jview.specs.declared.marks.Mark.{Mark}
use Rattle.rf_jview.specs.declared.marks.Mark.TheVariants as m
use Rattle.rf_jmodel.specs.declared.projects.PlacedUnit.{PlacedUnit}
use Rattle.rf_jmodel.specs.declared.projects.Project.{Project}
use Rattle.rf_jmodel.specs.Sets.{IsEmpty, HasSeveral}
use Rattle.rf_jmodel.specs.TypeNames.{TypeNamedBy, IsQualified}
use Rattle.rf_jmodel.specs.Units.{HasUnit, marks_of}

-- the identifiers of a name, each with a dot behind it
abbrev pub ids_before_dots : List Tok → List (List ℕ)
ids_before_dots [] = []
ids_before_dots (id ∷ []) = id.text ∷ []
ids_before_dots (id ∷ dot ∷ toks) = id.text ∷ ids_before_dots toks

-- the tokens of a type's name before token k, its last identifier
abbrev pub is_front : Mark → Bool
is_front m.Front = true
is_front mark = false

abbrev pub front_count : PlacedUnit → ℕ → ℕ
front_count unit k = suffix_len is_front (take k (marks_of unit))

abbrev pub ids_in_front : PlacedUnit → ℕ → List (List ℕ)
ids_in_front unit k = ids_before_dots (take (front_count unit k) (drop (k - front_count unit k) unit.toks.list))

-- Such a name stands at token k of file u, where the file's type is declared at or behind another token.
pub record IsTypeReference (project : Project) (u k : ℕ) : Type 0 where
  pub unit : PlacedUnit
  pub has_unit : HasUnit project u unit
  pub has_mark : slice_get (marks_of unit) k ≡ Some m.TypeName
  pub tok : Tok
  pub has_tok : slice_get unit.toks.list k ≡ Some tok
  pub declared : ℕ
  pub has_type : slice_get (marks_of unit) declared ≡ Some m.Type

-- What it is bound to. Before the type's declaration it stands in an import, where nothing obscures a package (JLS 6.4.2).
pub data IsTypeBound (project : Project) (u k : ℕ) (reference : IsTypeReference project u k) : ℕ → Type 0 where
  imported : (x : ℕ) → k < reference.declared
      → IsQualified project u (ids_in_front reference.unit k) reference.tok.text x → IsTypeBound project u k reference x
  named : (x : ℕ) → reference.declared < k
      → TypeNamedBy project u (ids_in_front reference.unit k) reference.tok.text x → IsTypeBound project u k reference x

-- It isn't bound: to none, or to several.
pub record IsUnresolved (project : Project) (u k : ℕ) : Type 0 where
  pub reference : IsTypeReference project u k
  pub none : IsEmpty (IsTypeBound project u k reference)

pub record IsAmbiguous (project : Project) (u k : ℕ) : Type 0 where
  pub reference : IsTypeReference project u k
  pub several : HasSeveral (IsTypeBound project u k reference)
