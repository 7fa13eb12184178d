-- Sets of places as bits of words, and as rising lists.
use Rattle.std.specs.Prelude.{ℕ, ◌*◌, ◌/◌, ◌%◌, Bool, cond, eqb, ltb, List, [], ◌∷◌, length, filter, slice_index_or}
use Rattle.std.specs.Int.{bit_at}
use Rattle.std.specs.List.{range_with_len}

-- the word has the bit
abbrev pub has_bit : ℕ → ℕ → Bool
has_bit word i = eqb (bit_at word i) 1

-- place v is bit v % 64 of word v / 64
unfoldable pub is_set : List ℕ → ℕ → Bool
is_set words v = has_bit (slice_index_or words (v / 64) 0) (v % 64)

-- the places, rising
unfoldable pub places : List ℕ → List ℕ
places words = filter (is_set words) (range_with_len 0 (64 * length words))

-- the rising list with one more place
abbrev pub inserted : ℕ → List ℕ → List ℕ
inserted v [] = v ∷ []
inserted v (w ∷ rest) = cond (ltb v w) (v ∷ w ∷ rest) (w ∷ inserted v rest)
