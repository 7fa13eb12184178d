-- The opening domains: the forced property, which is the first variable, has the requested value alone.
use Rattle.std.specs.Prelude.{ℕ, eqb, List, [], ◌∷◌, map, filter, length, slice_index_or}
use Rattle.std.specs.List.{range_with_len}

-- all places
abbrev pub all_places : List ℕ → List ℕ
all_places values = range_with_len 0 (length values)

-- the place of a value
abbrev pub places_of : ℕ → List ℕ → List ℕ
places_of value values = filter (λ v. eqb (slice_index_or values v 0) value) (all_places values)

abbrev pub opening : ℕ → List (List ℕ) → List (List ℕ)
opening forced [] = []
opening forced (values ∷ rest) = places_of forced values ∷ map all_places rest
