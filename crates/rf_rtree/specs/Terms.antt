-- Terms: an element's property, a variable, an access word, a text.
use Rattle.std.specs.Prelude.{ℕ, List, [], ◌∷◌, Bool, Option, Some, None, codes, if◌then◌else◌}
use Rattle.std.specs.List.{list_any}
use Rattle.std.specs.Str.{bytes_eq}
use Rattle.rf_rtree.specs.declared.forms.RTerm.{RTerm}
use Rattle.rf_rtree.specs.declared.forms.RTerm.TheVariants.{Prop, Old, Var, Access, Text}
use Rattle.rf_rtree.specs.declared.words.RVar.{RVar}
use Rattle.rf_rtree.specs.declared.words.Word.{Word}
use Rattle.rf_rtree.specs.Faults.{Told, told, unless}
use Rattle.rf_rtree.specs.Kinds.{entry_named, is_part}
use Rattle.rf_rtree.specs.Asks.{arg_fault}
use Rattle.rf_rtree.specs.Levels.{var_named}
use Rattle.rf_rtree.specs.Tables.{Entry, PROPERTIES}

-- of several kinds that have a property the table tells first the one that is said to be wanted
abbrev pub wanted_of : List (List ℕ) → List ℕ
wanted_of [] = []
wanted_of (kind ∷ kinds) = kind

abbrev pub owner_fault : Word → RVar → Word → Option Entry → Option Told
owner_fault elem var prop None = Some (told prop.line prop.text (codes "property"))
owner_fault elem var prop (Some entry) =
    unless (list_any (is_part var.kind.text) entry.kinds) (told elem.line var.kind.text (wanted_of entry.kinds))

abbrev pub prop_of : Word → Word → Option RVar → Option Told
prop_of elem prop None = Some (told elem.line elem.text (codes "variable"))
prop_of elem prop (Some var) = owner_fault elem var prop (entry_named prop.text PROPERTIES)

-- the element is a variable in scope, the property is one, and the element's kind has it
abbrev pub prop_fault : List (List RVar) → Word → Word → Option Told
prop_fault scope elem prop = prop_of elem prop (var_named elem.text scope)

abbrev pub term_fault : List (List RVar) → RTerm → Option Told
term_fault scope (Prop elem prop) = prop_fault scope elem prop
term_fault scope (Old line elem prop) = prop_fault scope elem prop
term_fault scope (Var word) = arg_fault scope (codes "type") word
term_fault scope (Access word) = None
term_fault scope (Text word) = None

-- the line of a term's first word
abbrev pub term_line : RTerm → ℕ
term_line (Prop elem prop) = elem.line
term_line (Old line elem prop) = line
term_line (Var word) = word.line
term_line (Access word) = word.line
term_line (Text word) = word.line

-- what a property's values are: owners are types, and what is written before a name is a package
abbrev pub prop_sort : List ℕ → List ℕ
prop_sort prop = if bytes_eq (codes "owner") prop then codes "type"
    else (if bytes_eq (codes "written") prop then codes "package" else prop)

abbrev pub term_sort : RTerm → List ℕ
term_sort (Prop elem prop) = prop_sort prop.text
term_sort (Old line elem prop) = prop_sort prop.text
term_sort (Var word) = codes "type"
term_sort (Access word) = codes "access"
term_sort (Text word) = codes "text"
