-- What is printed of an item before its body's line.
use Rattle.std.specs.Prelude.{ℕ, List, ◌∷◌, ◌++◌, codes, map}
use Rattle.rf_rtree.specs.declared.items.Item.{Item}
use Rattle.rf_rtree.specs.Plain.{head_word, with_commas, var_text, asks_text}

abbrev pub head_text : Item → List ℕ
head_text item = head_word item.derive ++ (item.name.text ++ (10 ∷ codes "for " ++
    (with_commas (map var_text item.vars) ++ asks_text (10 ∷ codes "if ") item.asks)))
