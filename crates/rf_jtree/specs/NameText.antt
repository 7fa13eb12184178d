-- The text of a dotted name (JLS 6.2).
use Rattle.std.specs.Prelude.{ℕ, List, [], ◌∷◌, ◌++◌, map, codes}
use Rattle.std.specs.List.{flat_map}
use Rattle.rf_jtree.specs.declared.names.Name.{Name}
use Rattle.rf_jtree.specs.NameShown.{name_shown}
use Rattle.rf_jtree.specs.NameTrees.{NameTree}

-- texts with a point between two of them
abbrev pub dotted : List (List ℕ) → List ℕ
dotted [] = []
dotted (text ∷ texts) = text ++ flat_map (λ text. codes "." ++ text) texts

-- the texts of the identifiers of a name
abbrev pub id_texts : NameTree → List (List ℕ)
id_texts name = name.ids.first.text ∷ map (λ item. item.1.text) name.ids.rest

-- the text of a name: its identifiers with a point between two of them
abbrev pub dotted_text : NameTree → List ℕ
dotted_text name = dotted (id_texts name)

abbrev pub name_text : Name → List ℕ
name_text name = dotted_text (name_shown name)
