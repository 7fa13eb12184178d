-- The file of one class of int fields, with the blanks between its tokens (JLS 8.1, 8.3; blanks 3.6).
use Rattle.std.specs.Prelude.{◌≢◌, ℕ, List, [], ◌++◌, Option, Some, None, option_map, map, All, IfSome, if◌then◌else◌, codes}
use Rattle.std.specs.List.{flat_map}
use Rattle.std.specs.Str.{bytes_eq}
use Rattle.rf_engine.specs.Words.{AreBlanks, IsName}

-- the initializer of a field: `=` and the name of a field, with the blanks before each
pub record Initializer : Type 0 where
  pub before : List ℕ
  pub gap : List ℕ
  pub name : List ℕ

-- a field: `int`, its name, its initializer if it has one, and `;`, with the blanks before each
pub record Field : Type 0 where
  pub before : List ℕ
  pub gap : List ℕ
  pub name : List ℕ
  pub initializer : Option Initializer
  pub after : List ℕ

-- a class: `class`, its name, `{`, its fields and `}`, with the blanks before each and those at the end
pub record ClassFile : Type 0 where
  pub before : List ℕ
  pub gap : List ℕ
  pub name : List ℕ
  pub opening : List ℕ
  pub fields : List Field
  pub last_gap : List ℕ
  pub tail : List ℕ

-- the bytes of each
abbrev pub initializer_bytes : Option Initializer → List ℕ
initializer_bytes None = []
initializer_bytes (Some initializer) = initializer.before ++ (codes "=" ++ (initializer.gap ++ initializer.name))

abbrev pub field_bytes : Field → List ℕ
field_bytes field =
    field.before ++ (codes "int" ++ (field.gap ++ (field.name ++ (initializer_bytes field.initializer ++ (field.after ++ codes ";")))))

abbrev pub class_bytes : ClassFile → List ℕ
class_bytes file =
    file.before ++ (codes "class" ++ (file.gap ++ (file.name ++ (file.opening ++ (codes "{"
    ++ (flat_map field_bytes file.fields ++ (file.last_gap ++ (codes "}" ++ file.tail))))))))

-- blanks stand where blanks may, with at least one between two words, and names where names are wanted
pub record IsInitializer (initializer : Initializer) : Type 0 where
  pub before : AreBlanks initializer.before
  pub gap : AreBlanks initializer.gap
  pub name : IsName initializer.name

pub record IsField (field : Field) : Type 0 where
  pub before : AreBlanks field.before
  pub gap : AreBlanks field.gap
  pub parted : field.gap ≢ []
  pub name : IsName field.name
  pub initializer : IfSome field.initializer IsInitializer
  pub after : AreBlanks field.after

pub record IsClassFile (file : ClassFile) : Type 0 where
  pub before : AreBlanks file.before
  pub gap : AreBlanks file.gap
  pub parted : file.gap ≢ []
  pub name : IsName file.name
  pub opening : AreBlanks file.opening
  pub fields : All IsField file.fields
  pub last_gap : AreBlanks file.last_gap
  pub tail : AreBlanks file.tail

-- the names that the class declares, in order
abbrev pub names_of : ClassFile → List (List ℕ)
names_of file = map (λ field. field.name) file.fields

-- one field renamed: new stands for old where it is declared and in each initializer, and every other byte stays
abbrev pub renamed : List ℕ → List ℕ → List ℕ → List ℕ
renamed old new name = if bytes_eq name old then new else name

abbrev pub renamed_initializer : List ℕ → List ℕ → Initializer → Initializer
renamed_initializer old new initializer = record initializer { name = renamed old new initializer.name }

abbrev pub renamed_field : List ℕ → List ℕ → Field → Field
renamed_field old new field = record field { name = renamed old new field.name; initializer = option_map (renamed_initializer old new) field.initializer }

abbrev pub renamed_class : List ℕ → List ℕ → ClassFile → ClassFile
renamed_class old new file = record file { fields = map (renamed_field old new) file.fields }
