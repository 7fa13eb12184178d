-- Subtyping of the types that expressions have (JLS 4.10).
use Rattle.std.specs.Prelude.{ℕ, ◌+◌, ◌<◌, ◌⊎◌}
use Rattle.rf_jmodel.specs.declared.ids.TypeId.{TypeId}
use Rattle.rf_jmodel.specs.declared.projects.Project.{Project}
use Rattle.rf_jmodel.specs.declared.types.Ty.{Ty}
use Rattle.rf_jmodel.specs.declared.types.TyBase.{TyBase}
use Rattle.rf_jmodel.specs.declared.types.TyBase.TheVariants as t
use Rattle.rf_jmodel.specs.Elements.{HasId, StandsAt, is_type}
use Rattle.rf_jmodel.specs.Supertypes.{DirectSuper, IsObject}

-- the type with this id is that of file x
pub record IsTypeId (project : Project) (id : TypeId) (x : ℕ) : Type 0 where
  pub key : ℕ × ℕ
  pub has_id : HasId project is_type id.0 key
  pub k : ℕ
  pub stands : StandsAt project is_type x k key

-- a type without brackets, and one with a pair more
abbrev pub plain : TyBase → Ty
plain base = record { base = base; dims = 0 }

abbrev pub class_type : TypeId → Ty
class_type id = plain (t.Class id)

abbrev pub array_of : Ty → Ty
array_of ty = record { base = ty.base; dims = ty.dims + 1 }

-- what an array may hold; and the reference types, which classes, interfaces and arrays are (JLS 4.3, 10.1)
abbrev pub IsItemBase : TyBase → Type 0
IsItemBase t.Null = ⊥
IsItemBase t.Void = ⊥
IsItemBase base = Unit {0}

abbrev pub IsClassBase : TyBase → Type 0
IsClassBase (t.Class id) = Unit {0}
IsClassBase base = ⊥

abbrev pub IsReferenceType : Ty → Type 0
IsReferenceType ty = IsItemBase ty.base × ((IsClassBase ty.base) ⊎ (0 < ty.dims))

-- primitive types, from each to the next one above it (JLS 4.10.1)
pub data Widens : TyBase → TyBase → Type 0 where
  byte_short : Widens t.Byte t.Short
  short_int : Widens t.Short t.Int
  char_int : Widens t.Char t.Int
  int_long : Widens t.Int t.Long
  long_float : Widens t.Long t.Float
  float_double : Widens t.Float t.Double

-- Classes and interfaces, arrays, the type of null (JLS 4.10.2, 4.10.3)
pub data IsSubtype (project : Project) : Ty → Ty → Type 0 where
  itself : (ty : Ty) → IsSubtype project ty ty
  through : (ty between other : Ty) → IsSubtype project ty between → IsSubtype project between other → IsSubtype project ty other
  widens : (one other : TyBase) → Widens one other → IsSubtype project (plain one) (plain other)
  direct : (one other : TypeId) (x y : ℕ) → IsTypeId project one x → IsTypeId project other y → DirectSuper project x y
      → IsSubtype project (class_type one) (class_type other)
  arrays : (one other : Ty) → IsReferenceType one → IsReferenceType other → IsSubtype project one other
      → IsSubtype project (array_of one) (array_of other)
  array : (item : Ty) (object : TypeId) (x : ℕ) → IsItemBase item.base → IsTypeId project object x → IsObject project x
      → IsSubtype project (array_of item) (class_type object)
  of_null : (ty : Ty) → IsReferenceType ty → IsSubtype project (plain t.Null) ty
