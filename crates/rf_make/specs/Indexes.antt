-- What an index has of the rows of a table: of the rows that fit a key the first, those of the project before the others.
use Rattle.std.specs.Prelude.{◌≡◌, ℕ, ◌+◌, Bool, ◌&&◌, cond, nat_eq, List, [], ◌∷◌, Option, Some, None, slice_index_or}
use Rattle.indexmap.specs.IndexMap.{IndexMap, get}
use Rattle.rf_form.specs.declared.forms.Term.TheVariants.{Var, Const}
use Rattle.rf_facts.specs.declared.properties.PropRow.{PropRow}
use Rattle.rf_facts.specs.declared.properties.PropTable.{PropTable}
use Rattle.rf_inst.specs.Values.{Value, Missing, Known, is_of, is_slot, now_of, old_of}
use Rattle.rf_make.specs.declared.indexes.Entry.{Entry}
use Rattle.rf_make.specs.declared.indexes.Index.{Index}

-- both numbers are the same
abbrev pub is_pair : ℕ × ℕ → ℕ × ℕ → Bool
is_pair p q = nat_eq p.0 q.0 && nat_eq p.1 q.1

-- what stands under a key
abbrev pub under : {S : Type 0} → IndexMap (ℕ × ℕ) Entry S → ℕ → ℕ → Option Entry
under map a b = get is_pair map (a, b)

abbrev pub value_now : Option Entry → Value
value_now None = Missing
value_now (Some entry) = Known entry.now

abbrev pub value_old : Option Entry → Value
value_old None = Missing
value_old (Some entry) = Known entry.old

-- the index has what the properties of elements and the imports of the table stand for
pub record IsIndex (table : PropTable) (index : Index) : Type 0 where
  pub now : (prop n : ℕ) → value_now (under index.values prop n) ≡ now_of table (is_of prop n)
  pub old : (prop n : ℕ) → value_old (under index.values prop n) ≡ old_of table (is_of prop n)
  pub slots : (unit type : ℕ) → value_now (under index.slots unit type) ≡ now_of table (is_slot unit type)

-- the first of both that is there
abbrev pub or_else : Option Entry → Option Entry → Option Entry
or_else None other = other
or_else (Some entry) other = Some entry

-- a row of the project, and one of an element outside it
abbrev pub own : ℕ → PropRow → Entry
own x row = record { now = Var x; old = Const row.old }

abbrev pub outside : PropRow → Entry
outside row = record { now = Const (slice_index_or row.vals 0 0); old = Const (slice_index_or row.vals 0 0) }

-- what the first row that fits gives, where the rows are counted from k on
abbrev pub seen : (ℕ → PropRow → Entry) → (PropRow → Bool) → ℕ → List PropRow → Option Entry
seen gives fits k [] = None
seen gives fits k (row ∷ rows) = cond (fits row) (Some (gives k row)) (seen gives fits (k + 1) rows)

-- the entry was put under each key that fits and had none
abbrev pub Puts : {S : Type 0} → IndexMap (ℕ × ℕ) Entry S → IndexMap (ℕ × ℕ) Entry S → (ℕ → ℕ → Bool) → Entry → Type 0
Puts old new fits entry = (a b : ℕ) → under new a b ≡ or_else (under old a b) (cond (fits a b) (Some entry) None)

-- the same of a row in an index, and of rows one after the other
pub record PutsRow (old : Index) (row : PropRow) (entry : Entry) (new : Index) : Type 0 where
  pub values : Puts old.values new.values (λ prop n. is_of prop n row) entry
  pub slots : Puts old.slots new.slots (λ unit type. is_slot unit type row) entry

pub record PutsRows (old : Index) (gives : ℕ → PropRow → Entry) (rows : List PropRow) (new : Index) : Type 0 where
  pub values : (prop n : ℕ) → under new.values prop n ≡ or_else (under old.values prop n) (seen gives (is_of prop n) 0 rows)
  pub slots : (unit type : ℕ) → under new.slots unit type ≡ or_else (under old.slots unit type) (seen gives (is_slot unit type) 0 rows)
