-- Lists that are read item by item.
use Rattle.std.proofs.Common.{◌≡◌, ℕ, ◌+◌, List, [], ◌∷◌, ◌++◌, Some, ap, ◌∙◌, slice_get, take}
use Rattle.std.proofs.lemmas.List.{take_more, take_all}
use Rattle.std.proofs.lemmas.Option.{slice_get_within, get_or_from_slice_get}

pub take-next : {A : Type 0} (items : List A) (at : ℕ) (item : A) → slice_get items at ≡ Some item → take (at + 1) items ≡ take at items ++ item ∷ []
take-next {A} items at item has =
    take_more items at item (slice_get_within items at item has)
    ∙ ap (λ (one : A). take at items ++ one ∷ []) (get_or_from_slice_get items at item item has)

pub ruleset taking = (take-next, take_all)
