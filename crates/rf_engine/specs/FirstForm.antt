-- The first form: one class of int fields, and a request that renames one of them.
use Rattle.std.specs.Prelude.{◌≡◌, ◌≢◌, ℕ, ◌≤◌, List, [], ◌∷◌, ◌++◌, ◌⊎◌, length, All, AllPairs, Contains, IfSome, if◌then◌else◌, codes}
use Rattle.std.specs.List.{list_any}
use Rattle.std.specs.Str.{bytes_eq}
use Rattle.rf_engine.specs.declared.first_form.FirstPath.{FirstPath}
use Rattle.rf_engine.specs.declared.first_form.FirstPath.TheVariants.{Changed, Refused, NotYet}
use Rattle.rf_engine.specs.Words.{IsName}
use Rattle.rf_engine.specs.ClassFile.{ClassFile, IsClassFile, class_bytes, names_of, renamed_class}

-- a file and a request of the first form: the class, the field to be renamed and the name that it gets
pub record FirstForm : Type 0 where
  pub file : ClassFile
  pub old : List ℕ
  pub new : List ℕ

abbrev pub line_end : List ℕ
line_end = 10 ∷ []

-- `rename field C.f to g`
abbrev pub request_line : FirstForm → List ℕ
request_line form = codes "rename field " ++ (form.file.name ++ (codes "." ++ (form.old ++ (codes " to " ++ form.new))))

-- each initializer is the name of a field of the class (JLS 6.5.6.1, 8.3.2)
abbrev pub InitializersAreBound : ClassFile → Type 0
InitializersAreBound file = All (λ field. IfSome field.initializer (λ initializer. Contains (names_of file) initializer.name)) file.fields

-- path, file and request are of the first form
pub record IsForm (form : FirstForm) (path file request : List ℕ) : Type 0 where
  pub class_file : IsClassFile form.file
  pub file_is : file ≡ class_bytes form.file
  -- a class stands in the file of its name (JLS 7.6); a class `java` would hide the package java (JLS 6.4.2)
  pub path_is : path ≡ form.file.name ++ codes ".java"
  pub not_java : form.file.name ≢ codes "java"
  -- no two fields have one name (JLS 8.3)
  pub distinct : AllPairs (λ a b. a ≢ b) (names_of form.file)
  pub bound : InitializersAreBound form.file
  pub target : Contains (names_of form.file) form.old
  pub new_name : IsName form.new
  pub request_is : (request ≡ request_line form) ⊎ (request ≡ request_line form ++ line_end)
  pub small_file : length file ≤ 1048576
  pub small_request : length request ≤ 65536

-- the lines put: nothing changed; one name changed; the new name is in use by another field
abbrev pub nothing_changed : List ℕ
nothing_changed = codes "ok 0" ++ line_end

abbrev pub one_changed : FirstForm → List ℕ
one_changed form =
    codes "ok 1" ++ (line_end ++ (codes "name field " ++ (form.file.name ++ (codes "." ++ (form.old ++ (codes " "
    ++ (form.old ++ (codes " " ++ (form.new ++ line_end)))))))))

abbrev pub name_in_use : FirstForm → List ℕ
name_in_use form =
    codes "refused " ++ (form.file.name ++ (codes "." ++ (form.old ++ (codes " " ++ (form.file.name ++ (codes "."
    ++ (form.new ++ line_end)))))))

-- the answer: the old name again changes nothing; the name of another field is refused, since a class has one field
-- of a name (JLS 8.3); else the new name stands for the old one everywhere
abbrev pub answer_of : FirstForm → FirstPath
answer_of form =
    if bytes_eq form.new form.old then Changed (class_bytes form.file) nothing_changed
    else (if list_any (bytes_eq form.new) (names_of form.file) then Refused (name_in_use form)
    else Changed (class_bytes (renamed_class form.old form.new form.file)) (one_changed form))

-- the answer is that of the form, and `NotYet` exactly where there is none
pub record IsAnswer (path file request : List ℕ) (answer : FirstPath) : Type 0 where
  pub of_form : (form : FirstForm) → IsForm form path file request → answer ≡ answer_of form
  pub some_form : answer ≢ NotYet → (form : FirstForm) × IsForm form path file request
