-- The types of files by their keys, and their files in element order.
use Rattle.std.specs.Prelude.{ℕ, ◌+◌, List, [], ◌∷◌, ◌++◌, Option, Some, None, AllPairs, position, slice_get}
use Rattle.rf_jmodel.specs.declared.ids.UnitId.{UnitId}
use Rattle.rf_jmodel.specs.declared.projects.PlacedUnit.{PlacedUnit}
use Rattle.rf_jmodel.specs.Elements.{IsBefore, is_type}
use Rattle.rf_jmodel.specs.Units.{marks_of}
use Rattle.rf_tables.specs.declared.type_keys.TypeKey.{TypeKey}

-- the entry at a place, if there is one
abbrev pub entry_of : Option (Option (ℕ × ℕ)) → Option (ℕ × ℕ)
entry_of None = None
entry_of (Some entry) = entry

abbrev pub entry_at : List (Option (ℕ × ℕ)) → Option ℕ → Option (ℕ × ℕ)
entry_at from None = None
entry_at from (Some k) = entry_of (slice_get from k)

-- the entry of a file's type
abbrev pub type_entry : PlacedUnit → Option (ℕ × ℕ)
type_entry unit = entry_at unit.from (position is_type (marks_of unit))

-- the types of files from file u on that have one
abbrev pub keys_with : ℕ → Option (ℕ × ℕ) → List TypeKey
keys_with u None = []
keys_with u (Some entry) = record { file = entry.0; token = entry.1; unit = u } ∷ []

abbrev pub type_keys : ℕ → List PlacedUnit → List TypeKey
type_keys u [] = []
type_keys u (unit ∷ units) = keys_with u (type_entry unit) ++ type_keys (u + 1) units

-- its entry alone, and its file
abbrev pub key_of : TypeKey → ℕ × ℕ
key_of key = (key.file, key.token)

abbrev pub file_of : TypeKey → UnitId
file_of key = record { 0 = key.unit }

-- none stands before one that is earlier in element order
abbrev pub AreInOrder : List TypeKey → Type 0
AreInOrder keys = AllPairs (λ one other. IsBefore (key_of other) (key_of one) → ⊥) keys
