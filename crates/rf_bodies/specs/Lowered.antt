-- Which body over numbers says what a body over names says.
use Rattle.std.specs.Prelude.{◌≡◌, ℕ, suc, cond, List, [], ◌∷◌, map}
use Rattle.std.specs.Str.{bytes_eq}
use Rattle.rf_facts.specs.declared.properties.PropTable.{PropTable}
use Rattle.rf_inst.specs.Bindings.{Bound}
use Rattle.rf_inst.specs.Directs.{Derived, World, direct, predicate, quant_step, value_of}
use Rattle.rf_pairs.specs.Places.{Shows}
use Rattle.rf_rtree.specs.declared.forms.Quant.{Quant}
use Rattle.rf_rtree.specs.declared.forms.RForm.{RForm}
use Rattle.rf_rtree.specs.declared.forms.RTerm.{RTerm}
use Rattle.rf_rtree.specs.declared.language.Lang.{Lang}
use Rattle.rf_rtree.specs.declared.words.Ask.{Ask}
use Rattle.rf_bodies.specs.declared.bodies.Body.{Body}
use Rattle.rf_bodies.specs.declared.bodies.Many.{Many}
use Rattle.rf_bodies.specs.declared.bodies.Operand.{Operand}
use Rattle.rf_bodies.specs.Bodies.{at_numbers, many_step, value_at}

-- the first predicate of the name, or how many there are
abbrev pub number_in : List (List ℕ) → List ℕ → ℕ
number_in [] name = 0
number_in (other ∷ names) name = cond (bytes_eq other name) 0 (suc (number_in names name))

-- a world with this language, this table, and derived predicates of these names, whatever holds in it
pub record Has (lang : Lang) (table : PropTable) (derived : List (List ℕ)) (world : World) : Type 0 where
  pub is_lang : world.scene.lang ≡ lang
  pub is_counts : world.scene.counts ≡ table.counts
  pub is_table : world.table ≡ table
  pub is_derived : map (λ (one : Derived). one.name) world.derived ≡ derived

-- in each such world and each scope that the numbers of the names show, both are one formula
abbrev pub Says : Lang → PropTable → List (List ℕ) → List (List ℕ) → RForm → Body → Type 0
Says lang table derived names form body = (world : World) → Has lang table derived world →
    (taken : List ℕ) (scope : List Bound) → Shows names taken scope → at_numbers world body taken ≡ direct world form scope

-- the same of a quantifier, and of a term
abbrev pub SaysMany : Lang → PropTable → List (List ℕ) → List (List ℕ) → Quant → Many → Type 0
SaysMany lang table derived names quant many = (world : World) → Has lang table derived world →
    (taken : List ℕ) (scope : List Bound) → Shows names taken scope →
    many_step world (record { ranges = many.ranges; asks = many.asks; body = at_numbers world many.body }) taken ≡
    quant_step world (record { vars = quant.vars; asks = quant.asks; body = direct world quant.body }) scope

abbrev pub Stands : PropTable → List (List ℕ) → RTerm → Operand → Type 0
Stands table names term operand = (world : World) → world.table ≡ table →
    (taken : List ℕ) (scope : List Bound) → Shows names taken scope → value_at world taken operand ≡ value_of world scope term

abbrev pub IsPredicate : List (List ℕ) → List (List ℕ) → Ask → Body → Type 0
IsPredicate derived names ask body = (world : World) → map (λ (one : Derived). one.name) world.derived ≡ derived →
    (taken : List ℕ) (scope : List Bound) → Shows names taken scope → at_numbers world body taken ≡ predicate world scope ask
