-- Tuples of one length, one behind the other in a single list.
use Rattle.std.specs.Prelude.{ℕ, zero, suc, List, [], ◌∷◌, take, drop}

-- the first n pieces of w numbers
unfoldable pub pieces : ℕ → ℕ → List ℕ → List (List ℕ)
pieces w zero cells = []
pieces w (suc n) cells = take w cells ∷ pieces w n (drop w cells)
