-- The text of a dotted name, identifier by identifier.
use Rattle.std.proofs.Common.{◌≡◌, ℕ, ◌+◌, ◌<◌, ◌≤◌, List, [], ◌∷◌, ◌++◌, map, codes, length, drop, get_or, sym, ap, ◌∙◌, append_assoc}
use Rattle.std.specs.List.{flat_map}
use Rattle.std.proofs.lemmas.List.{at_drop_more, at_drop_all, append-nil}
use Rattle.rf_jtree.specs.declared.tokens.Tok.{Tok}

-- what stands behind the first identifier: the others, each behind a point
abbrev pub behind_points : List (Tok × Tok) → List ℕ
behind_points rest = flat_map (λ text. codes "." ++ text) (map (λ item. item.1.text) rest)

pub point_more : (text : List ℕ) (rest : List (Tok × Tok)) (n : ℕ) (item : Tok × Tok) → (n < length rest) × (item ≡ get_or rest n item)
    → ((text ++ 46 ∷ []) ++ item.1.text) ++ behind_points (drop (n + 1) rest) ≡ text ++ behind_points (drop n rest)
point_more text rest n item at =
    append_assoc (text ++ 46 ∷ []) item.1.text (behind_points (drop (n + 1) rest))
    ∙ append_assoc text (46 ∷ []) (item.1.text ++ behind_points (drop (n + 1) rest))
    ∙ ap (λ more. text ++ more) (sym (at_drop_more behind_points rest n item at.0 ∙ ap (λ x. behind_points (x ∷ drop (n + 1) rest)) (sym at.1)))

pub points_all : (text : List ℕ) (rest : List (Tok × Tok)) (n : ℕ) → length rest ≤ n → text ++ behind_points (drop n rest) ≡ text
points_all text rest n all = ap (λ more. text ++ more) (at_drop_all behind_points rest n all) ∙ append-nil text
