use Rattle.std.proofs.Common.{◌≡◌, List, [], ◌∷◌, map, refl, ap}
use Rattle.rf_jtree.specs.DeclShown.{more_names_shown}
use Rattle.rf_jcheck.proofs.decl_checks.has_one_name_at_most.Goals as goal

map-nil : {A B : Type 0} (f : A → B) (xs : List A) → map f xs ≡ [] → xs ≡ []
map-nil f [] none = refl
map-nil f (x ∷ xs) none = cc

pub returns-in-Some : goal.returns-in-Some
returns-in-Some c = rw c.in-Some.is (λ ok. ap more_names_shown (c.is_empty.ensures.0 ok), λ one. c.is_empty.ensures.1 (map-nil _ _ one))
