-- The pairs of programs, in order, with their direct forms; and the variables of an instance.
use Rattle.std.specs.Prelude.{ℕ, ◌+◌, List, [], ◌∷◌, ◌++◌, map, flat_map, find, length, replicate, if◌then◌else◌}
use Rattle.rf_form.specs.Formulas.{Formula, Neg, AllOf, AnyOf}
use Rattle.rf_rtree.specs.declared.checked.Checked.{Checked}
use Rattle.rf_rtree.specs.declared.items.Item.{Item}
use Rattle.rf_facts.specs.declared.properties.PropTable.{PropTable}
use Rattle.rf_inst.specs.Bindings.{bind}
use Rattle.rf_inst.specs.Directs.{Derived, World, direct, boolean, both, is_named, is_one}
use Rattle.rf_inst.specs.Pairs.{Scene, pairs}

abbrev pub item_pairs : Scene → Item → List (List ℕ)
item_pairs scene item = pairs scene item.vars item.asks []

-- how many Booleans the items have: one for each pair of a `derive` item
abbrev pub booleans : Scene → List Item → ℕ
booleans scene [] = 0
booleans scene (item ∷ items) = (if item.derive then length (item_pairs scene item) else 0) + booleans scene items

-- the derived predicates, whose Booleans stand one behind the other from a variable on
abbrev pub derived_from : Scene → ℕ → List Item → List Derived
derived_from scene base [] = []
derived_from scene base (item ∷ items) =
    if item.derive then record { name = item.name.text; base = base; tuples = item_pairs scene item } ∷
    derived_from scene (base + length (item_pairs scene item)) items
    else derived_from scene base items

abbrev pub scene_of : List (List (List ℕ)) → PropTable → Checked → Scene
scene_of facts table checked = record { facts = facts; counts = table.counts; lang = checked.lang }

abbrev pub world_of : List (List (List ℕ)) → PropTable → ℕ → Checked → World
world_of facts table base checked = record {
  scene = scene_of facts table checked;
  table = table;
  derived = derived_from (scene_of facts table checked) base checked.prog.items;
}

-- a Boolean is what its definition is, both ways
abbrev pub equivalent : Formula → Formula → Formula
equivalent one other = AllOf (both (AnyOf (both (Neg one) other)) (AnyOf (both one (Neg other))))

abbrev pub body_at : World → Item → List ℕ → Formula
body_at world item tuple = direct world item.body (bind item.vars tuple [])

-- the direct form of a pair
abbrev pub pair_form : World → Item → List ℕ → Formula
pair_form world item tuple =
    if item.derive then equivalent (is_one (boolean (find (is_named item.name.text) world.derived) tuple)) (body_at world item tuple)
    else body_at world item tuple

abbrev pub item_forms : World → Item → List Formula
item_forms world item = map (pair_form world item) (item_pairs world.scene item)

-- what each program gives in turn, where its Booleans stand behind those of the programs before it
abbrev pub in_turn : (World → Item → List Formula) → List (List (List ℕ)) → PropTable → ℕ → List Checked → List Formula
in_turn gives facts table base [] = []
in_turn gives facts table base (checked ∷ more) =
    flat_map (gives (world_of facts table base checked)) checked.prog.items ++
    in_turn gives facts table (base + booleans (scene_of facts table checked) checked.prog.items) more

abbrev pub all_booleans : List (List (List ℕ)) → PropTable → List Checked → ℕ
all_booleans facts table [] = 0
all_booleans facts table (checked ∷ more) =
    booleans (scene_of facts table checked) checked.prog.items + all_booleans facts table more

-- the direct forms of all pairs: programs in order, items in the order of the text, tuples in order
abbrev pub all_forms : List (List (List ℕ)) → PropTable → List Checked → List Formula
all_forms facts table programs = in_turn item_forms facts table (length table.rows) programs

-- the first domains: the values of the properties, and false and true for each Boolean
abbrev pub first_values : List (List (List ℕ)) → PropTable → List Checked → List (List ℕ)
first_values facts table programs =
    map (λ row. row.vals) table.rows ++ replicate (all_booleans facts table programs) (0 ∷ 1 ∷ [])
