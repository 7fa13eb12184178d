-- The list of distinct texts that `Names` stands for.
use Rattle.std.specs.Prelude.{◌≡◌, ℕ, List, [], ◌∷◌, ◌++◌, Some, map, slice_get, Contains}
use Rattle.std.specs.declared.vec.Vec.{Vec}
use Rattle.std.specs.declared.alloc.Global.{Global}

-- the texts of the keys, in order
abbrev pub texts_of : List (Vec ℕ Global) → List (List ℕ)
texts_of keys = map (λ key. key.items) keys

-- the text stands at the place, in the old list where it was there, and else at the end of the new one
pub record Interned (old : List (List ℕ)) (text : List ℕ) (place : ℕ) (new : List (List ℕ)) : Type 0 where
  pub stands : slice_get new place ≡ Some text
  pub known : Contains old text → new ≡ old
  pub fresh : ¬ Contains old text → new ≡ old ++ text ∷ []
