-- The one way to read path, file and request as the first form.
use Rattle.std.proofs.Common.{◌≡◌, ◌≢◌, ℕ, ◌-◌, ◌^◌, ◌<◌, ◌≤◌, List, [], ◌∷◌, ◌++◌, length, map, IfSome, All, AllPairs, Contains, codes, ap, sym, ◌∙◌, subst, arith}
use Rattle.std.specs.List.{flat_map}
use Rattle.std.proofs.lemmas.List.{append_cancel_left, length-append, length-map, get_or-map}
use Rattle.std.proofs.lemmas.List.Elements.{All-map, All-weaker, All-contains}
use Rattle.rf_engine.specs.declared.class_file.ClassParts.{ClassParts}
use Rattle.rf_engine.specs.declared.first_parts.FileParts.{FileParts}
use Rattle.rf_engine.specs.declared.first_parts.FirstFormParts.{FirstFormParts}
use Rattle.rf_engine.specs.Words.{IsName}
use Rattle.rf_engine.specs.ClassFile.{Field, ClassFile, IsField, IsClassFile, field_bytes, class_bytes, names_of}
use Rattle.rf_engine.specs.Seen.{field_seen, class_seen}
use Rattle.rf_engine.specs.Reading.{IsReading}
use Rattle.rf_engine.specs.FieldNames.{IsBound}
use Rattle.rf_engine.specs.FirstForm.{FirstForm, IsForm, InitializersAreBound}
use Rattle.rf_engine.specs.Request.{IsRequest, IsOnlyRequest}
use Rattle.rf_engine.specs.FirstParts.{IsPathOf, IsFormFile, IsFileReading, IsFormReading}

-- what follows the class in its path
pub path_end : (path class rest : List ℕ) → path ≡ class ++ rest → IsPathOf path class → rest ≡ codes ".java"
path_end path class rest is of_class = append_cancel_left class _ _ (sym is ∙ of_class.path_is)

-- a class has at least as many bytes as fields
field_counts : (field : Field) → 1 ≤ length (field_bytes field)
field_counts field = simp length-append (omega arith)

fields_count : (fields : List Field) → length fields ≤ length (flat_map field_bytes fields)
fields_count [] = omega arith
fields_count (field ∷ fields) = omega (arith, field_counts field, fields_count fields, length-append (field_bytes field) (flat_map field_bytes fields))

class_counts : (file : ClassFile) → length file.fields ≤ length (class_bytes file)
class_counts file = simp length-append (omega (arith, fields_count file.fields))

pub few_fields : (bytes : List ℕ) (parts : ClassParts) → IsReading bytes (class_seen parts) → length bytes ≤ 1048576 → length parts.fields < 2 ^ 32 - 1
few_fields bytes parts reading small =
    omega (arith, class_counts (class_seen parts), ap length reading.bytes_are, length-map parts.fields field_seen)

-- the initializers are bound in the class seen exactly where they are in its parts
module _ (parts : ClassParts) where
  abbrev names : List (List ℕ)
  names = names_of (class_seen parts)

  pub bound_seen : All (IsBound names) parts.fields → InitializersAreBound (class_seen parts)
  bound_seen bound = All-map (λ field. IfSome field.initializer (λ initializer. Contains names initializer.name)) field_seen parts.fields bound

  pub bound_in_parts : InitializersAreBound (class_seen parts) → All (IsBound names) parts.fields
  bound_in_parts bound k d within =
      let within_seen : k < length (map field_seen parts.fields) = omega (arith, length-map parts.fields field_seen) in
      subst (λ field. IfSome field.initializer (λ initializer. Contains names initializer.name)) (get_or-map field_seen parts.fields k d (field_seen d) within) (bound k (field_seen d) within_seen)

-- whatever class the file is of, it is the one read
pub form_file_seen : (path bytes : List ℕ) (parts : ClassParts) (class : ClassFile) → IsReading bytes (class_seen parts) → IsFormFile class path bytes → IsFormFile (class_seen parts) path bytes
form_file_seen path bytes parts class reading is =
    subst (λ file. IsFormFile file path bytes) (reading.only class is.class_file is.bytes_are) is

-- what was tested of it is all that the first form asks
pub file_is_read : (path bytes : List ℕ) (parts : FileParts) → IsReading bytes (class_seen parts.class) → length bytes ≤ 1048576 → IsPathOf path parts.class.name.now → parts.names ≡ names_of (class_seen parts.class) → AllPairs (λ a b. a ≢ b) parts.names → All (IsBound parts.names) parts.class.fields → IsFileReading parts path bytes
file_is_read path bytes parts reading small of_class names_are distinct bound = record {
  is_file = record {
    class_file = reading.class_file;
    bytes_are = reading.bytes_are;
    path_is = of_class;
    distinct = subst (AllPairs (λ a b. a ≢ b)) names_are distinct;
    bound = bound_seen parts.class (subst (λ them. All (IsBound them) parts.class.fields) names_are bound);
    small = small;
  };
  names_are = names_are;
  only = λ other is. reading.only other is.class_file is.bytes_are;
}

-- the names of fields are names
old_is_name : (file : ClassFile) (old : List ℕ) → IsClassFile file → Contains (names_of file) old → IsName old
old_is_name file old class_file target =
    let each = All-weaker IsField (λ field. IsName field.name) (λ field is. is.name) file.fields class_file.fields in
    All-contains IsName (names_of file) old (All-map IsName (λ field. field.name) file.fields each) target

-- a form is known by its three parts
abbrev form_of : ClassFile → List ℕ → List ℕ → FirstForm
form_of file old new = record { file = file; old = old; new = new }

same_form : (form : FirstForm) (file : ClassFile) (old new : List ℕ) → form.file ≡ file → form.old ≡ old → form.new ≡ new → form ≡ form_of file old new
same_form form file old new files olds news =
    ap (λ it. form_of it form.old form.new) files ∙ ap (λ it. form_of file it form.new) olds ∙ ap (form_of file old) news

-- what a form says of the file, and of the request
module _ (path file request : List ℕ) where
  form_file : (form : FirstForm) → IsForm form path file request → IsFormFile form.file path file
  form_file form is = record {
    class_file = is.class_file;
    bytes_are = is.file_is;
    path_is = record { path_is = is.path_is; not_java = is.not_java };
    distinct = is.distinct;
    bound = is.bound;
    small = is.small_file;
  }

  form_request : (form : FirstForm) → IsForm form path file request → IsRequest request form.file.name form.old form.new
  form_request form is = record { old_name = old_is_name form.file form.old is.class_file is.target; new_name = is.new_name; line = is.request_is }

  file_is_one : (parts : FileParts) (form : FirstForm) → IsFileReading parts path file → IsForm form path file request → form.file ≡ class_seen parts.class
  file_is_one parts form reading is = reading.only form.file (form_file form is)

  pub request_of_form : (parts : FileParts) (form : FirstForm) → IsFileReading parts path file → IsForm form path file request → IsRequest request parts.class.name.now form.old form.new
  request_of_form parts form reading is =
      subst (λ class. IsRequest request class.name form.old form.new) (file_is_one parts form reading is) (form_request form is)

  names_are_one : (parts : FileParts) (form : FirstForm) (old new : List ℕ) → IsFileReading parts path file → IsOnlyRequest request parts.class.name.now old new → IsForm form path file request → (form.old ≡ old) × (form.new ≡ new)
  names_are_one parts form old new reading asked is = asked.only form.old form.new (request_of_form parts form reading is)

  pub target_of_form : (parts : FileParts) (form : FirstForm) (old new : List ℕ) → IsFileReading parts path file → IsOnlyRequest request parts.class.name.now old new → IsForm form path file request → Contains parts.names old
  target_of_form parts form old new reading asked is =
      let in_seen = subst (λ class. Contains (names_of class) form.old) (file_is_one parts form reading is) is.target in
      subst (λ names. Contains names old) (sym reading.names_are) (subst (Contains (names_of (class_seen parts.class))) (names_are_one parts form old new reading asked is).0 in_seen)

  -- what was tested of file and request is all that the first form asks
  pub form_is_read : (parts : FirstFormParts) → IsFileReading parts.file path file → IsOnlyRequest request parts.file.class.name.now parts.request.old.now parts.request.new.now → length request ≤ 65536 → Contains parts.file.names parts.request.old.now → IsFormReading parts path file request
  form_is_read parts reading asked small target = record {
    is_form = record {
      class_file = reading.is_file.class_file;
      file_is = reading.is_file.bytes_are;
      path_is = reading.is_file.path_is.path_is;
      not_java = reading.is_file.path_is.not_java;
      distinct = reading.is_file.distinct;
      bound = reading.is_file.bound;
      target = subst (λ names. Contains names parts.request.old.now) reading.names_are target;
      new_name = asked.is_request.new_name;
      request_is = asked.is_request.line;
      small_file = reading.is_file.small;
      small_request = small;
    };
    names_are = reading.names_are;
    only = λ other is.
        let names = names_are_one parts.file other parts.request.old.now parts.request.new.now reading asked is in
        same_form other _ _ _ (file_is_one parts.file other reading is) names.0 names.1;
  }
