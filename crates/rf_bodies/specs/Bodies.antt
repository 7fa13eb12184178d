-- The direct form of a body over the numbers of variables, with each quantifier unfolded.
use Rattle.std.specs.Prelude.{ℕ, List, map, slice_get}
use Rattle.rf_form.specs.declared.forms.Term.TheVariants.{Const}
use Rattle.rf_form.specs.Formulas.{Formula, Neg, AllOf, AnyOf, Formulas}
use Rattle.rf_form.specs.Shown.{listed}
use Rattle.rf_inst.specs.Directs.{World, atom, boolean, both, constant_form, is_one, slot_value}
use Rattle.rf_inst.specs.Values.{Value, Known, is_of, named, now_of, old_of}
use Rattle.rf_join.specs.Joins.{all_met, going_on, number_at}
use Rattle.rf_bodies.specs.declared.bodies.Operand.{Operand}
use Rattle.rf_bodies.specs.declared.bodies.Operand.TheVariants as operand
use Rattle.rf_bodies.specs.declared.bodies.Body.{Body}
use Rattle.rf_bodies.specs.declared.bodies.Body.TheOpen.{Body-F, Many-F}
use Rattle.rf_bodies.specs.declared.bodies.Body.TheFolds.{fold-Body}

abbrev pub value_at : World → List ℕ → Operand → Value
value_at world taken (operand.Now place prop) = now_of world.table (is_of prop (number_at taken place))
value_at world taken (operand.Old place prop) = old_of world.table (is_of prop (number_at taken place))
value_at world taken (operand.Element place) = Known (Const (number_at taken place))
value_at world taken (operand.Fixed value) = named value

-- one node, with what its parts are at the numbers taken
abbrev pub body_step : World → Body-F (List ℕ → Formula) (List ℕ → Formulas) → List ℕ → Formula
body_step world (Body-F.Implies left right) taken = AnyOf (both (Neg (left taken)) (right taken))
body_step world (Body-F.Or left right) taken = AnyOf (both (left taken) (right taken))
body_step world (Body-F.And left right) taken = AllOf (both (left taken) (right taken))
body_step world (Body-F.Not inner) taken = Neg (inner taken)
body_step world (Body-F.Every many) taken = AllOf (many taken)
body_step world (Body-F.Exists many) taken = AnyOf (many taken)
body_step world (Body-F.Truth value) taken = constant_form value
body_step world (Body-F.Slot places) taken = is_one (slot_value world (map (number_at taken) places))
body_step world (Body-F.Derived which places) taken =
    is_one (boolean (slice_get world.derived which) (map (number_at taken) places))
body_step world (Body-F.Compare left how right) taken = atom (value_at world taken left) how (value_at world taken right)

-- a quantifier is its body at each tuple of the join
abbrev pub many_step : World → Many-F (List ℕ → Formula) (List ℕ → Formulas) → List ℕ → Formulas
many_step world many taken =
    listed (map many.body (going_on (all_met world.scene.facts many.asks) many.ranges taken))

-- the direct form of a body at the numbers taken
unfoldable pub at_numbers : World → Body → List ℕ → Formula
at_numbers world = fold-Body (List ℕ → Formula) (List ℕ → Formulas) (body_step world) (many_step world)
