-- What a method that is named by a dotted name is called on (JLS 6.5, 15.12.1).
use Rattle.std.specs.Prelude.{List, [], ◌∷◌}
use Rattle.rf_jtree.specs.declared.tokens.Tok.{Tok}
use Rattle.rf_jtree.specs.ExprTrees.{Name, OnTree, NoOn, On}

-- The identifiers of a name but the last one are what a method is called on; the last one is the method.
unfoldable pub front : {A : Type 0} → A → List A → List A
front item [] = []
front item (next ∷ rest) = item ∷ front next rest

unfoldable pub last : {A : Type 0} → A → List A → A
last item [] = item
last item (next ∷ rest) = last next rest

unfoldable pub called_on : Tok → List (Tok × Tok) → OnTree
called_on first [] = NoOn
called_on first (item ∷ rest) = On (Name (record { ids = record { first = first; rest = front item rest } })) (last item rest).0

unfoldable pub called_id : Tok → List (Tok × Tok) → Tok
called_id first [] = first
called_id first (item ∷ rest) = (last item rest).1
