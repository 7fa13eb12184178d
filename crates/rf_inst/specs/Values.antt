-- What a term of a rule stands for.
use Rattle.std.specs.Prelude.{ℕ, Bool, ◌&&◌, eqb, List, codes, find, position, slice_index_or, Option, Some, None, if◌then◌else◌}
use Rattle.std.specs.List.{list_any}
use Rattle.std.specs.Str.{bytes_eq}
use Rattle.rf_form.specs.declared.forms.Term.{Term}
use Rattle.rf_form.specs.declared.forms.Term.TheVariants.{Var, Const}
use Rattle.rf_facts.specs.declared.properties.PropRow.{PropRow}
use Rattle.rf_facts.specs.declared.properties.PropTable.{PropTable}
use Rattle.rf_rtree.specs.Accesses.{ACCESSES}

-- A name and a package are places in the table's names, an access one in the order private, package, protected, public, an
-- owner is the number of the type, and an import is 1 where it is present.
pub data Value : Type 0 where
  -- a property that the element hasn't got
  Missing : Value
  -- a text that is not among the names
  Unnamed : Value
  Known : Term → Value

abbrev pub property_of : List ℕ → ℕ
property_of name =
    if bytes_eq (codes "name") name then 0 else (
    if bytes_eq (codes "access") name then 1 else (
    if bytes_eq (codes "owner") name then 2 else (
    if bytes_eq (codes "package") name then 3 else 4)))

abbrev pub shares : ℕ → PropRow → Bool
shares n row = list_any (eqb n) row.elems

-- the row is the property of the element
abbrev pub is_of : ℕ → ℕ → PropRow → Bool
is_of prop n row = eqb row.prop prop && shares n row

-- the row is the import of the type by the unit
abbrev pub is_slot : ℕ → ℕ → PropRow → Bool
is_slot unit type row = eqb row.prop 5 && (shares unit row && shares type row)

abbrev pub constant : Option PropRow → Value
constant None = Missing
constant (Some row) = Known (Const (slice_index_or row.vals 0 0))

-- a variable where a row is one of the project's, else the value of an element outside it
abbrev pub variable : PropTable → (PropRow → Bool) → Option ℕ → Value
variable table is None = constant (find is table.fixed)
variable table is (Some x) = Known (Var x)

abbrev pub now_of : PropTable → (PropRow → Bool) → Value
now_of table is = variable table is (position is table.rows)

abbrev pub kept : PropTable → (PropRow → Bool) → Option PropRow → Value
kept table is None = constant (find is table.fixed)
kept table is (Some row) = Known (Const row.old)

abbrev pub old_of : PropTable → (PropRow → Bool) → Value
old_of table is = kept table is (find is table.rows)

abbrev pub named : Option ℕ → Value
named None = Unnamed
named (Some place) = Known (Const place)

abbrev pub text_value : PropTable → List ℕ → Value
text_value table text = named (position (bytes_eq text) table.names)

abbrev pub access_value : List ℕ → Value
access_value word = named (position (bytes_eq word) ACCESSES)
