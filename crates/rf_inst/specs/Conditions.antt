-- What is asked of facts and of a table of properties.
use Rattle.std.specs.Prelude.{◌≡◌, ℕ, ◌<◌, ◌≤◌, ◌^◌, ◌&&◌, true, List, [], ◌∷◌, ◌++◌, codes, length, sum, Contains, slice_index_or}
use Rattle.std.specs.List.{All, AllZip}
use Rattle.rf_facts.specs.declared.properties.PropRow.{PropRow}
use Rattle.rf_facts.specs.declared.properties.PropTable.{PropTable}
use Rattle.rf_rtree.specs.declared.checked.Checked.{Checked}
use Rattle.rf_rtree.specs.declared.language.Lang.{Lang}
use Rattle.rf_inst.specs.Elements.{elements}
use Rattle.rf_inst.specs.Insts.{IsDomain}
use Rattle.rf_inst.specs.Values.{shares}

-- each query of the language is one of the facts, and its tuples have an element of each of its kinds
pub record Answers (facts : List (List (List ℕ))) (counts : List ℕ) (lang : Lang) : Type 0 where
  pub enough : length lang.queries ≤ length facts
  pub kinds : (q : ℕ) (d : List ℕ × List (List ℕ)) → q < length lang.queries →
      All (λ tuple. AllZip (λ n kind. Contains (elements counts kind) n) tuple (slice_index_or lang.queries q d).1)
      (slice_index_or facts q [])

abbrev pub AnswerAll : List (List (List ℕ)) → List ℕ → List Checked → Type 0
AnswerAll facts counts programs = All (λ checked. Answers facts counts checked.lang) programs

-- no element has a property twice; an import is one of a unit and a type
abbrev pub AreOnce : List PropRow → Type 0
AreOnce rows = (j k : ℕ) (d : PropRow) → j < k → k < length rows → (slice_index_or rows j d).prop ≡ (slice_index_or rows k d).prop →
    ((slice_index_or rows j d).prop ≡ 5 → (unit type : ℕ) → (unit ≡ type → ⊥) →
    (shares unit (slice_index_or rows j d) && shares type (slice_index_or rows j d)) ≡ true →
    (shares unit (slice_index_or rows k d) && shares type (slice_index_or rows k d)) ≡ true → ⊥) ×
    (((slice_index_or rows j d).prop ≡ 5 → ⊥) → (n : ℕ) → shares n (slice_index_or rows j d) ≡ true →
    shares n (slice_index_or rows k d) ≡ true → ⊥)

pub record IsRow (counts : List ℕ) (row : PropRow) : Type 0 where
  pub prop : row.prop < 6
  pub inside : All (λ n. n < sum counts) row.elems
  pub values : IsDomain row.vals
  pub slot : row.prop ≡ 5 → (unit : ℕ) × (type : ℕ) × (row.elems ≡ unit ∷ type ∷ []) ×
      Contains (elements counts (codes "unit")) unit × Contains (elements counts (codes "type")) type

pub record IsTable (table : PropTable) : Type 0 where
  pub sorts : length table.counts ≡ 7
  pub few : sum table.counts < 2 ^ 32
  pub rows : All (IsRow table.counts) table.rows
  pub fixed : All (IsRow table.counts) table.fixed
  pub constant : All (λ row. length row.vals ≡ 1) table.fixed
  pub once : AreOnce (table.rows ++ table.fixed)
  pub forced : (d : PropRow) → Contains (slice_index_or table.rows 0 d).vals table.forced

-- all numbers of the facts are those of elements
abbrev pub AreElements : List (List (List ℕ)) → List ℕ → Type 0
AreElements facts counts = All (λ tuples. All (λ tuple. All (λ n. n < sum counts) tuple) tuples) facts
