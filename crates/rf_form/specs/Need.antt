-- The canonical search and its number of counted decisions, the need.
use Rattle.std.specs.Prelude.{◌≡◌, ℕ, suc, ◌+◌, ◌<◌, List, [], ◌∷◌, map, filter, slice_index_or, Option, Some, None}
use Rattle.std.specs.List.{range_with_len}
use Rattle.rf_form.specs.Families.{Family, at, IsWide}
use Rattle.rf_form.specs.Problems.{Problem, NoneClosed, IsGreatest}

-- the alive places of x, in order
abbrev pub values : Problem → Family → ℕ → List ℕ
values i δ x = filter (δ x) (range_with_len 0 (i.places x))

-- the place of each variable, where each has one
abbrev pub solution : Problem → Family → List ℕ
solution i δ = map (λ x. slice_index_or (values i δ x) 0 0) (range_with_len 0 i.count)

-- x is the first variable with two places or more
pub record FirstWide (i : Problem) (δ : Family) (x : ℕ) : Type 0 where
  pub inside : x < i.count
  pub wide : IsWide δ x
  pub before : (y : ℕ) → y < x → IsWide δ y → ⊥

-- no variable has two places
abbrev pub AllSingle : Problem → Family → Type 0
AllSingle i δ = (y : ℕ) → y < i.count → IsWide δ y → ⊥

-- `Canon i δ answer need`. Close. Where there is no closed part, that is a failure. Where all domains are single, that is
-- the solution. Else the first variable with two places or more is tried at each of them in order, up to the first
-- solution. The need is how many values were taken, over all splits, after the first of their split.
mutual
  pub data Canon (i : Problem) : Family → Option (List ℕ) → ℕ → Type 0 where
    fails : (δ : Family) (o : Option (List ℕ)) (n : ℕ) → NoneClosed i δ → o ≡ None → n ≡ 0 → Canon i δ o n
    solves : (δ q : Family) (o : Option (List ℕ)) (n : ℕ) → IsGreatest i δ q → AllSingle i q → o ≡ Some (solution i q) → n ≡ 0
        → Canon i δ o n
    splits : (δ q : Family) (x : ℕ) (o : Option (List ℕ)) (n : ℕ) → IsGreatest i δ q → FirstWide i q x
        → Tries i q x (values i q x) o (suc n) → Canon i δ o n

  -- the values that are left, the answer, and how many of them are taken with the need below each
  pub data Tries (i : Problem) : Family → ℕ → List ℕ → Option (List ℕ) → ℕ → Type 0 where
    no_value : (q : Family) (x : ℕ) (vs : List ℕ) (o : Option (List ℕ)) (n : ℕ) → vs ≡ [] → o ≡ None → n ≡ 0 → Tries i q x vs o n
    ends : (q : Family) (x : ℕ) (vs : List ℕ) (o : Option (List ℕ)) (n v : ℕ) (rest found : List ℕ) (k : ℕ)
        → vs ≡ v ∷ rest → Canon i (at q x v) (Some found) k → o ≡ Some found → n ≡ suc k → Tries i q x vs o n
    goes : (q : Family) (x : ℕ) (vs : List ℕ) (o : Option (List ℕ)) (n v : ℕ) (rest : List ℕ) (k m : ℕ)
        → vs ≡ v ∷ rest → Canon i (at q x v) None k → Tries i q x rest o m → n ≡ suc (k + m) → Tries i q x vs o n

-- the answer and the need: there is one of each (`one_need`)
abbrev pub HasCanon : Problem → Family → Type 0
HasCanon i δ = (o : Option (List ℕ)) × (n : ℕ) × Canon i δ o n
