-- What it means to have read a file as a class.
use Rattle.std.specs.Prelude.{◌≡◌, ℕ, List, Option, Some, None}
use Rattle.rf_engine.specs.declared.class_file.ClassParts.{ClassParts}
use Rattle.rf_engine.specs.ClassFile.{ClassFile, IsClassFile, class_bytes}
use Rattle.rf_engine.specs.Seen.{class_seen}

-- the bytes are those of this class and of no other one
pub record IsReading (bytes : List ℕ) (file : ClassFile) : Type 0 where
  pub class_file : IsClassFile file
  pub bytes_are : bytes ≡ class_bytes file
  pub only : (other : ClassFile) → IsClassFile other → bytes ≡ class_bytes other → other ≡ file

-- the parts found are the one reading of the bytes, and where none are found there is none
abbrev pub IsOnlyReading : List ℕ → Option ClassParts → Type 0
IsOnlyReading bytes None = (file : ClassFile) → IsClassFile file → bytes ≡ class_bytes file → ⊥
IsOnlyReading bytes (Some parts) = IsReading bytes (class_seen parts)
