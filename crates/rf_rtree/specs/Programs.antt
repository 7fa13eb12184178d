-- The first kind fault of formulas, items and programs, in the order of the text.
use Rattle.std.specs.Prelude.{ℕ, List, [], ◌∷◌, ◌++◌, Bool, ◌&&◌, ◌||◌, not, Option, Some, None, codes, is_none}
use Rattle.std.specs.List.{list_any}
use Rattle.std.specs.Str.{bytes_eq}
use Rattle.rf_rtree.specs.declared.faults.KindFault.{KindFault}
use Rattle.rf_rtree.specs.declared.forms.Quant.{Quant}
use Rattle.rf_rtree.specs.declared.forms.RForm.{RForm}
use Rattle.rf_rtree.specs.declared.forms.RForm.TheOpen.{RForm-F, Quant-F}
use Rattle.rf_rtree.specs.declared.forms.RForm.TheFolds.{fold-RForm}
use Rattle.rf_rtree.specs.declared.items.Item.{Item}
use Rattle.rf_rtree.specs.declared.items.RuleProg.{RuleProg}
use Rattle.rf_rtree.specs.declared.language.Lang.{Lang}
use Rattle.rf_rtree.specs.declared.words.Ask.{Ask}
use Rattle.rf_rtree.specs.declared.words.RVar.{RVar}
use Rattle.rf_rtree.specs.Asks.{Known, query_fault, predicate_fault}
use Rattle.rf_rtree.specs.Compared.{comparison_fault}
use Rattle.rf_rtree.specs.Faults.{Told, told, or_later, first_of, unless}
use Rattle.rf_rtree.specs.Levels.{is_reserved, vars_fault}

-- what a part of a program has as its first fault, under the variables in scope
abbrev pub Part : Type 0
Part = List (List RVar) → Option Told

-- variables and queries on them: `vars if asks`
abbrev pub head_fault : Known → List RVar → List Ask → Part
head_fault known vars asks scope = or_later (vars_fault known.lang.own scope [] vars)
    (first_of (query_fault known (vars ∷ scope)) asks)

-- the same with what is said of the variables behind it
abbrev pub bound_fault : Known → List RVar → List Ask → Part → Part
bound_fault known vars asks body scope = or_later (head_fault known vars asks scope) (body (vars ∷ scope))

abbrev pub quant_step : Known → Quant-F Part Part → Part
quant_step known quant scope = bound_fault known quant.vars quant.asks quant.body scope

-- one node of a formula, with what its parts have in their place
abbrev pub form_step : Known → RForm-F Part Part → Part
form_step known (RForm-F.Implies left right) scope = or_later (left scope) (right scope)
form_step known (RForm-F.Or left right) scope = or_later (left scope) (right scope)
form_step known (RForm-F.And left right) scope = or_later (left scope) (right scope)
form_step known (RForm-F.Not inner) scope = inner scope
form_step known (RForm-F.Every quant) scope = quant scope
form_step known (RForm-F.Exists quant) scope = quant scope
form_step known (RForm-F.Truth value) scope = None
form_step known (RForm-F.Pred ask) scope = predicate_fault known scope ask
form_step known (RForm-F.Cmp left comp right) scope = comparison_fault scope left comp right

unfoldable pub form_fault : Known → RForm → Part
form_fault known = fold-RForm Part Part (form_step known) (quant_step known)

abbrev pub quant_fault : Known → Quant → Part
quant_fault known quant = bound_fault known quant.vars quant.asks (form_fault known quant.body)

abbrev pub is_item : List ℕ → Item → Bool
is_item name item = bytes_eq item.name.text name

-- an item's name is free where no earlier item has it, and it isn't `slot`
abbrev pub is_item_taken : Bool → List ℕ → List Item → Bool
is_item_taken own name before = (not own && is_reserved name) ||
    (bytes_eq (codes "slot") name || list_any (is_item name) before)

abbrev pub item_fault : Known → List Item → Item → Option Told
item_fault known before item = or_later
    (unless (not (is_item_taken known.lang.own item.name.text before))
    (told item.name.line item.name.text (codes "new")))
    (bound_fault known item.vars item.asks (form_fault known item.body) [])

abbrev pub in_item : Item → Option Told → Option KindFault
in_item item None = None
in_item item (Some fault) =
    Some (record { rule = item.name.text; line = fault.line; found = fault.found; wanted = fault.wanted })

abbrev pub items_fault : Known → List Item → List Item → Option KindFault
items_fault known before [] = None
items_fault known before (item ∷ items) =
    or_later (in_item item (item_fault known before item)) (items_fault known (before ++ item ∷ []) items)

-- the first kind fault of a program in a language
abbrev pub first_fault : RuleProg → Lang → Option KindFault
first_fault prog lang = items_fault (record { items = prog.items; lang = lang }) [] prog.items
