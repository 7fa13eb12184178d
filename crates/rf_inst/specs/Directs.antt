-- The direct form of a rule's body: its formula with each quantifier unfolded.
use Rattle.std.specs.Prelude.{ℕ, ◌+◌, Bool, true, false, List, [], ◌∷◌, codes, map, find, position, Option, Some, None, if◌then◌else◌}
use Rattle.std.specs.Str.{bytes_eq}
use Rattle.rf_form.specs.declared.forms.Term.{Term}
use Rattle.rf_form.specs.declared.forms.Term.TheVariants.{Var, Const}
use Rattle.rf_form.specs.Formulas.{Formula, Truth, Lie, Equal, AtMost, Neg, AllOf, AnyOf, Formulas, no_form, and_form}
use Rattle.rf_form.specs.Shown.{listed}
use Rattle.rf_rtree.specs.declared.forms.Comp.{Comp}
use Rattle.rf_rtree.specs.declared.forms.Comp.TheVariants as comp
use Rattle.rf_rtree.specs.declared.forms.RForm.{RForm}
use Rattle.rf_rtree.specs.declared.forms.RForm.TheOpen.{RForm-F, Quant-F}
use Rattle.rf_rtree.specs.declared.forms.RForm.TheFolds.{fold-RForm}
use Rattle.rf_rtree.specs.declared.forms.RTerm.{RTerm}
use Rattle.rf_rtree.specs.declared.forms.RTerm.TheVariants as term
use Rattle.rf_rtree.specs.declared.words.Ask.{Ask}
use Rattle.rf_facts.specs.declared.properties.PropTable.{PropTable}
use Rattle.rf_facts.specs.Tuples.{is_same}
use Rattle.rf_inst.specs.Bindings.{Bound, bind, element_of}
use Rattle.rf_inst.specs.Pairs.{Scene, pairs}
use Rattle.rf_inst.specs.Values.{Value, Missing, Unnamed, Known, property_of, is_of, is_slot, now_of, old_of, text_value, access_value}

-- a derived predicate: the tuples of its item, and the variable of the first of them
pub record Derived : Type 0 where
  pub name : List ℕ
  pub base : ℕ
  pub tuples : List (List ℕ)

-- what a program's formulas are read in
pub record World : Type 0 where
  pub scene : Scene
  pub table : PropTable
  pub derived : List Derived

abbrev pub value_of : World → List Bound → RTerm → Value
value_of world scope (term.Prop element prop) =
    now_of world.table (is_of (property_of prop.text) (element_of scope element))
value_of world scope (term.Old line element prop) =
    old_of world.table (is_of (property_of prop.text) (element_of scope element))
value_of world scope (term.Var word) = Known (Const (element_of scope word))
value_of world scope (term.Access word) = access_value word.text
value_of world scope (term.Text word) = text_value world.table word.text

abbrev pub compared : Term → Comp → Term → Formula
compared left comp.Equal right = Equal left right
compared left comp.Unequal right = Neg (Equal left right)
compared left comp.AtMost right = AtMost left right

-- a text that is not among the names differs from every value
abbrev pub apart : Comp → Formula
apart comp.Equal = Lie
apart comp.Unequal = Truth
apart comp.AtMost = Lie

-- where an element hasn't got the property, the atom is false, whatever it compares by
abbrev pub atom : Value → Comp → Value → Formula
atom Missing how right = Lie
atom Unnamed how Missing = Lie
atom Unnamed how Unnamed = apart how
atom Unnamed how (Known right) = apart how
atom (Known left) how Missing = Lie
atom (Known left) how Unnamed = apart how
atom (Known left) how (Known right) = compared left how right

-- a Boolean, or the value of an import, is true
abbrev pub is_one : Value → Formula
is_one Missing = Lie
is_one Unnamed = Lie
is_one (Known value) = Equal value (Const 1)

abbrev pub at_tuple : ℕ → Option ℕ → Value
at_tuple base None = Missing
at_tuple base (Some place) = Known (Var (base + place))

-- the Boolean of a predicate at a tuple: there is none where the tuple doesn't meet the queries of its item
abbrev pub boolean : Option Derived → List ℕ → Value
boolean None tuple = Missing
boolean (Some derived) tuple = at_tuple derived.base (position (is_same tuple) derived.tuples)

abbrev pub is_named : List ℕ → Derived → Bool
is_named name derived = bytes_eq derived.name name

abbrev pub slot_value : World → List ℕ → Value
slot_value world [] = Missing
slot_value world (unit ∷ []) = Missing
slot_value world (unit ∷ type ∷ rest) = now_of world.table (is_slot unit type)

abbrev pub predicate : World → List Bound → Ask → Formula
predicate world scope ask = is_one (
    if bytes_eq (codes "slot") ask.name.text then slot_value world (map (element_of scope) ask.args)
    else boolean (find (is_named ask.name.text) world.derived) (map (element_of scope) ask.args))

abbrev pub constant_form : Bool → Formula
constant_form true = Truth
constant_form false = Lie

abbrev pub both : Formula → Formula → Formulas
both left right = and_form left (and_form right no_form)

-- one node, with what its parts are in a scope
abbrev pub form_step : World → RForm-F (List Bound → Formula) (List Bound → Formulas) → List Bound → Formula
form_step world (RForm-F.Implies left right) scope = AnyOf (both (Neg (left scope)) (right scope))
form_step world (RForm-F.Or left right) scope = AnyOf (both (left scope) (right scope))
form_step world (RForm-F.And left right) scope = AllOf (both (left scope) (right scope))
form_step world (RForm-F.Not inner) scope = Neg (inner scope)
form_step world (RForm-F.Every quant) scope = AllOf (quant scope)
form_step world (RForm-F.Exists quant) scope = AnyOf (quant scope)
form_step world (RForm-F.Truth value) scope = constant_form value
form_step world (RForm-F.Pred ask) scope = predicate world scope ask
form_step world (RForm-F.Cmp left how right) scope = atom (value_of world scope left) how (value_of world scope right)

-- a quantifier is its body at each of its tuples
abbrev pub quant_step : World → Quant-F (List Bound → Formula) (List Bound → Formulas) → List Bound → Formulas
quant_step world quant scope =
    listed (map (λ tuple. quant.body (bind quant.vars tuple scope)) (pairs world.scene quant.vars quant.asks scope))

-- the direct form of a body in a scope
unfoldable pub direct : World → RForm → List Bound → Formula
direct world = fold-RForm (List Bound → Formula) (List Bound → Formulas) (form_step world) (quant_step world)
