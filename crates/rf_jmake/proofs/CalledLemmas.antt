-- What a method of a name is called on, and its identifier, told from the end of the name.
use Rattle.std.proofs.Common.{◌≡◌, List, [], ◌∷◌, ◌++◌, refl, ap}
use Rattle.rf_jtree.specs.declared.tokens.Tok.{Tok}
use Rattle.rf_jtree.specs.ExprTrees.{NoOn, On, Name}
use Rattle.rf_jmake.specs.Called.{front, last, called_on, called_id}

front-snoc : (item : Tok × Tok) (rest : List (Tok × Tok)) (end : Tok × Tok) → front item (rest ++ end ∷ []) ≡ item ∷ rest
unfolding front
front-snoc item [] end = refl
front-snoc item (next ∷ rest) end = rw (front-snoc next rest end) refl

last-snoc : (item : Tok × Tok) (rest : List (Tok × Tok)) (end : Tok × Tok) → last item (rest ++ end ∷ []) ≡ end
unfolding last
last-snoc item [] end = refl
last-snoc item (next ∷ rest) end = last-snoc next rest end

pub called_on-none : (first : Tok) (rest : List (Tok × Tok)) → rest ≡ [] → called_on first rest ≡ NoOn
unfolding called_on
called_on-none first rest h = rw h refl

pub called_id-none : (first : Tok) (rest : List (Tok × Tok)) → rest ≡ [] → called_id first rest ≡ first
unfolding called_id
called_id-none first rest h = rw h refl

on-snoc : (first : Tok) (front : List (Tok × Tok)) (end : Tok × Tok) → called_on first (front ++ end ∷ []) ≡ On (Name (record { ids = record { first = first; rest = front } })) end.0
unfolding called_on front last
on-snoc first [] end = refl
on-snoc first (item ∷ rest) end = rw (front-snoc item rest end, last-snoc item rest end) refl

id-snoc : (first : Tok) (front : List (Tok × Tok)) (end : Tok × Tok) → called_id first (front ++ end ∷ []) ≡ end.1
unfolding called_id last
id-snoc first [] end = refl
id-snoc first (item ∷ rest) end = ap (λ (x : Tok × Tok). x.1) (last-snoc item rest end)

pub called_on-last : (first : Tok) (rest front : List (Tok × Tok)) (end : Tok × Tok) → rest ≡ front ++ end ∷ [] → called_on first rest ≡ On (Name (record { ids = record { first = first; rest = front } })) end.0
called_on-last first rest front end h = rw h (on-snoc first front end)

pub called_id-last : (first : Tok) (rest front : List (Tok × Tok)) (end : Tok × Tok) → rest ≡ front ++ end ∷ [] → called_id first rest ≡ end.1
called_id-last first rest front end h = rw h (id-snoc first front end)

pub ruleset called = (called_on-none, called_id-none, called_on-last, called_id-last)
