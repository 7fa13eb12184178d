-- What an instance of programs is, and the answers to the call that makes one.
use Rattle.std.specs.Prelude.{◌≡◌, ℕ, ◌+◌, ◌≤◌, ◌<◌, List, ◌++◌, length, Result, Ok, Err}
use Rattle.rf_facts.specs.declared.properties.PropTable.{PropTable}
use Rattle.rf_rtree.specs.declared.checked.Checked.{Checked}
use Rattle.rf_inst.specs.declared.instances.Inst.{Inst}
use Rattle.rf_inst.specs.declared.errors.InstErr.{InstErr}
use Rattle.rf_inst.specs.declared.errors.InstErr.TheVariants.{TooLarge, Memory}
use Rattle.rf_inst.specs.declared.errors.Kind.{Kind}
use Rattle.rf_inst.specs.declared.errors.Kind.TheVariants as kind
use Rattle.rf_inst.specs.Counts.{tuple_count, AtomsOf, item_bodies}
use Rattle.rf_inst.specs.Programs.{all_booleans, all_forms, first_values, in_turn}
use Rattle.rf_inst.specs.Stands.{first, Stand}

-- the instance of programs over a project
pub record IsInstance (facts : List (List (List ℕ))) (table : PropTable) (programs : List Checked) (i : Inst) : Type 0 where
  pub props : i.props ≡ length table.rows
  pub vals : i.vals ≡ first_values facts table programs
  pub cons : Stand i.vals 0 (all_forms facts table programs) i.cons

unfoldable pub MOST_TUPLES : ℕ
MOST_TUPLES = 10000000

unfoldable pub MOST_ATOMS : ℕ
MOST_ATOMS = 16000000

-- what is asked for: programs of one's own, and added ones, over a project
pub record Asked : Type 0 where
  pub own : List Checked
  pub added : List Checked
  pub facts : List (List (List ℕ))
  pub table : PropTable

abbrev pub programs : Asked → List Checked
programs asked = asked.own ++ asked.added

abbrev pub added_tuples : Asked → ℕ
added_tuples asked = tuple_count asked.facts asked.table asked.added

-- the bodies of the added programs have so many live atoms
abbrev pub AddedAtoms : Asked → ℕ → Type 0
AddedAtoms asked n =
    AtomsOf (first_values asked.facts asked.table (programs asked)) (first (first_values asked.facts asked.table (programs asked)))
    (in_turn item_bodies asked.facts asked.table (length asked.table.rows + all_booleans asked.facts asked.table asked.own) asked.added) n

-- the counted number that is told is the limit and one more
abbrev pub TooMany : Asked → Kind → ℕ → Type 0
TooMany asked kind.Tuples counted = (MOST_TUPLES < added_tuples asked) × (counted ≡ MOST_TUPLES + 1)
TooMany asked kind.Atoms counted =
    (added_tuples asked ≤ MOST_TUPLES) × ((n : ℕ) × AddedAtoms asked n × (MOST_ATOMS < n)) × (counted ≡ MOST_ATOMS + 1)
TooMany asked kind.Files counted = ⊥
TooMany asked kind.File counted = ⊥
TooMany asked kind.Bytes counted = ⊥
TooMany asked kind.Text counted = ⊥
TooMany asked kind.Domain counted = ⊥

pub record Made (asked : Asked) (i : Inst) : Type 0 where
  pub is : IsInstance asked.facts asked.table (programs asked) i
  pub tuples : added_tuples asked ≤ MOST_TUPLES
  pub atoms : (n : ℕ) → AddedAtoms asked n → n ≤ MOST_ATOMS

abbrev pub Makes : Asked → Result Inst InstErr → Type 0
Makes asked (Ok i) = Made asked i
Makes asked (Err (TooLarge k counted)) = TooMany asked k counted
Makes asked (Err Memory) = Unit {0}
