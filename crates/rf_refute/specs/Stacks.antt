-- Families that are still to be gone through, as frames hold them: where the removals are those of the frame, the alive
-- places of its variable from its place on.
use Rattle.std.specs.Prelude.{◌≡◌, ℕ, ◌+◌, ◌-◌, ◌<◌, ◌≤◌, true, List, [], ◌∷◌, ◌++◌, length, map, take}
use Rattle.std.specs.List.{range_with_len, filter}
use Rattle.rf_form.specs.Alive.{IsFit}
use Rattle.rf_form.specs.Families.{Family, at}
use Rattle.rf_form.specs.Sums.{weight}
use Rattle.rf_form.specs.Truths.{row}
use Rattle.rf_trail.specs.Removals.{left}
use Rattle.rf_refute.specs.declared.frames.Frame.{Frame}

-- the alive places of x from v on, in order
unfoldable pub values_from : List (List ℕ) → Family → ℕ → ℕ → List ℕ
values_from vals δ x v = filter (δ x) (range_with_len v (length (row vals x) - v))

-- the families with x at each of these places
abbrev pub tasks : List (List ℕ) → Family → ℕ → ℕ → List Family
tasks vals δ x v = map (at δ x) (values_from vals δ x v)

-- the families that the frames hold, those of the top frame first
abbrev pub pending : List (List ℕ) → Family → List (ℕ × ℕ) → List Frame → List Family
pending vals first rs [] = []
pending vals first rs (f ∷ fs) = tasks vals (left first (take f.mark rs)) f.x f.v ++ pending vals first (take f.mark rs) fs

-- how many places are alive
unfoldable pub alive_count : List (List ℕ) → Family → ℕ
alive_count vals δ = weight (λ x. length (row vals x)) (length vals) δ

-- a place that is alive at a frame of that depth, with room for as many frames as there are alive places
pub record HeldAt (vals : List (List ℕ)) (room depth : ℕ) (δ : Family) (x v : ℕ) : Type 0 where
  pub fit : IsFit vals δ
  pub alive : δ x v ≡ true
  pub light : depth + alive_count vals δ ≤ room

abbrev pub Held : List (List ℕ) → ℕ → Family → List (ℕ × ℕ) → List Frame → Type 0
Held vals room first rs [] = Unit {0}
Held vals room first rs (f ∷ fs) = (f.mark ≤ length rs) × (HeldAt vals room (length fs) (left first (take f.mark rs)) f.x f.v
    × Held vals room first (take f.mark rs) fs)

-- the frames once x has the place v: a new one holds the next alive place, if there is one
pub data Entered (vals : List (List ℕ)) (δ : Family) (mark x v : ℕ) (before after : List Frame) : Type 0 where
  last : values_from vals δ x (v + 1) ≡ [] → after ≡ before → Entered vals δ mark x v before after
  more : (w : ℕ) → v < w → δ x w ≡ true → values_from vals δ x (v + 1) ≡ values_from vals δ x w
      → after ≡ record { mark = mark; x = x; v = w } ∷ before → Entered vals δ mark x v before after

-- the first alive place of x from there on
pub record IsNext (vals : List (List ℕ)) (δ : Family) (x from v : ℕ) : Type 0 where
  pub above : from ≤ v
  pub alive : δ x v ≡ true
  pub same : values_from vals δ x from ≡ values_from vals δ x v

-- some removals more
pub record Grown (rs more : List (ℕ × ℕ)) : Type 0 where
  pub steps : List (ℕ × ℕ)
  pub is : more ≡ rs ++ steps

-- What the store and the frames hold are these families, and there is room for all frames to come.
pub record Opened (vals : List (List ℕ)) (room : ℕ) (first : Family) (todo : List Family) (now : Family) (rs : List (ℕ × ℕ)) (fs : List Frame) : Type 0 where
  pub families : now ∷ pending vals first rs fs ≡ todo
  pub fit : IsFit vals now
  pub held : Held vals room first rs fs
  pub light : length fs + alive_count vals now ≤ room

-- there is room for so many frames, whatever the first domains are
abbrev pub HasRoom : Family → ℕ → Type 0
HasRoom δ room = (vals : List (List ℕ)) → IsFit vals δ → alive_count vals δ ≤ room
