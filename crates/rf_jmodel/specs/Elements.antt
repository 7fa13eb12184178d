-- The elements of a project: types, fields, methods, constructors, local variables and parameters, and the declarations of
-- members. Each has as its key the entry of its token: it stays where the project is changed, and orders the elements.
use Rattle.std.specs.Prelude.{◌≡◌, ℕ, ◌<◌, ◌⊎◌, ◌↔◌, Bool, true, false, List, Some, AllPairs, Contains, slice_get}
use Rattle.rf_jview.specs.declared.marks.Mark.{Mark}
use Rattle.rf_jview.specs.declared.marks.Mark.TheVariants as m
use Rattle.rf_jmodel.specs.declared.projects.Project.{Project}
use Rattle.rf_jmodel.specs.Units.{MarkAt, KeyAt}

-- which marks declare an element of a kind; a declaration of a member begins where `begins_node` of the marks says
abbrev pub is_type : Mark → Bool
is_type m.Type = true
is_type mark = false

abbrev pub is_field : Mark → Bool
is_field m.Field = true
is_field m.NextField = true
is_field mark = false

abbrev pub is_method : Mark → Bool
is_method m.Method = true
is_method mark = false

abbrev pub is_ctor : Mark → Bool
is_ctor m.Ctor = true
is_ctor m.DefaultCtor = true
is_ctor mark = false

abbrev pub is_local : Mark → Bool
is_local (m.Local back) = true
is_local (m.Ahead ahead) = true
is_local mark = false

-- an element of the kind that these marks declare stands at token k of file u, and has this key
pub record StandsAt (project : Project) (of : Mark → Bool) (u k : ℕ) (key : ℕ × ℕ) : Type 0 where
  pub mark : Mark
  pub has_mark : MarkAt project u k mark
  pub is_of : of mark ≡ true
  pub has_key : KeyAt project u k key

pub record HasElement (project : Project) (of : Mark → Bool) (key : ℕ × ℕ) : Type 0 where
  pub u : ℕ
  pub k : ℕ
  pub stands : StandsAt project of u k key

-- element order: by files, in a file by tokens, as both were when the project was numbered
abbrev pub IsBefore : ℕ × ℕ → ℕ × ℕ → Type 0
IsBefore one other = (one.0 < other.0) ⊎ ((one.0 ≡ other.0) × (one.1 < other.1))

-- these are the keys with a property, in element order
pub record AreKeys (has : ℕ × ℕ → Type 0) (keys : List (ℕ × ℕ)) : Type 0 where
  pub rising : AllPairs IsBefore keys
  pub exact : (key : ℕ × ℕ) → Contains keys key ↔ has key

-- the element with this id: so many keys of its kind are before its own
pub record HasId (project : Project) (of : Mark → Bool) (id : ℕ) (key : ℕ × ℕ) : Type 0 where
  pub keys : List (ℕ × ℕ)
  pub are_keys : AreKeys (HasElement project of) keys
  pub at : slice_get keys id ≡ Some key
