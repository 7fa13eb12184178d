-- What it means to have read path, file and request as the first form.
use Rattle.std.specs.Prelude.{◌≡◌, ◌≢◌, ℕ, ◌≤◌, List, ◌++◌, length, AllPairs, codes}
use Rattle.rf_engine.specs.declared.first_parts.FileParts.{FileParts}
use Rattle.rf_engine.specs.declared.first_parts.FirstFormParts.{FirstFormParts}
use Rattle.rf_engine.specs.ClassFile.{ClassFile, IsClassFile, class_bytes, names_of}
use Rattle.rf_engine.specs.FirstForm.{FirstForm, InitializersAreBound, IsForm}
use Rattle.rf_engine.specs.Seen.{class_seen}

-- the file may stand at the path (JLS 7.6, 6.4.2)
pub record IsPathOf (path class : List ℕ) : Type 0 where
  pub path_is : path ≡ class ++ codes ".java"
  pub not_java : class ≢ codes "java"

-- path and file are of the first form
pub record IsFormFile (file : ClassFile) (path bytes : List ℕ) : Type 0 where
  pub class_file : IsClassFile file
  pub bytes_are : bytes ≡ class_bytes file
  pub path_is : IsPathOf path file.name
  pub distinct : AllPairs (λ a b. a ≢ b) (names_of file)
  pub bound : InitializersAreBound file
  pub small : length bytes ≤ 1048576

-- the parts are the one way to read path and file, and the names are those of the fields
pub record IsFileReading (parts : FileParts) (path bytes : List ℕ) : Type 0 where
  pub is_file : IsFormFile (class_seen parts.class) path bytes
  pub names_are : parts.names ≡ names_of (class_seen parts.class)
  pub only : (other : ClassFile) → IsFormFile other path bytes → other ≡ class_seen parts.class

abbrev pub form_seen : FirstFormParts → FirstForm
form_seen parts = record { file = class_seen parts.file.class; old = parts.request.old.now; new = parts.request.new.now }

-- the parts are the one way to read path, file and request, and the names are those of the fields
pub record IsFormReading (parts : FirstFormParts) (path file request : List ℕ) : Type 0 where
  pub is_form : IsForm (form_seen parts) path file request
  pub names_are : parts.file.names ≡ names_of (class_seen parts.file.class)
  pub only : (other : FirstForm) → IsForm other path file request → other ≡ form_seen parts
