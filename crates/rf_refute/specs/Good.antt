-- When a list of nodes refutes a family of domains, and else the number of its first bad node.
use Rattle.std.specs.Prelude.{◌≡◌, ◌⊎◌, ℕ, suc, ◌+◌, ◌-◌, ◌<◌, ◌≤◌, true, List, [], ◌∷◌, ◌++◌, length, map, slice_index_or}
use Rattle.rf_form.specs.Constraints.{formula_at}
use Rattle.rf_form.specs.Families.{Family, at, without}
use Rattle.rf_form.specs.Need.{values}
use Rattle.rf_form.specs.Truths.{row, truth}
use Rattle.rf_cons.specs.Systems.{System, problem, FalseAt}
use Rattle.rf_refute.specs.Trees.{Node, Remove, Split, Fail}

-- At a removal, the place is alive and the constraint is false with x at it alone. At a split, there are two values or
-- more, exactly the alive ones in order. At a failure, the constraint is false.
abbrev pub Fits : System → Family → Node → Type 0
Fits s δ (Remove x v c) = (x < length s.vals) × ((δ x v ≡ true) × FalseAt s (at δ x v) c)
Fits s δ (Split x vs) = (x < length s.vals) × ((2 ≤ length vs) × (vs ≡ values (problem s) δ x))
Fits s δ (Fail c) = FalseAt s δ c

-- the families of the node's children
abbrev pub below : Family → Node → List Family
below δ (Remove x v c) = without δ x v ∷ []
below δ (Split x vs) = map (at δ x) vs
below δ (Fail c) = []

-- Each of the families is refuted by as many nodes as it takes, one behind the other, and none is left over.
abbrev pub Refute : System → List Family → List Node → Type 0
Refute s [] [] = Unit {0}
Refute s [] (n ∷ ns) = ⊥
Refute s (δ ∷ rest) [] = ⊥
Refute s (δ ∷ rest) (n ∷ ns) = Fits s δ n × Refute s (below δ n ++ rest) ns

abbrev pub Good : System → Family → List Node → Type 0
Good s δ nodes = Refute s (δ ∷ []) nodes

-- The number of the first node that isn't right, counted from 1: one too many, one that is missing, or one that doesn't fit.
abbrev pub FirstBad : System → List Family → List Node → ℕ → Type 0
FirstBad s [] [] k = ⊥
FirstBad s [] (n ∷ ns) k = k ≡ 1
FirstBad s (δ ∷ rest) [] k = k ≡ 1
FirstBad s (δ ∷ rest) (n ∷ ns) k = ((Fits s δ n → ⊥) × (k ≡ 1)) ⊎ (Fits s δ n × ((j : ℕ) × (FirstBad s (below δ n ++ rest) ns j × (k ≡ suc j))))

-- how many children of splits there are, the first of each split left out
abbrev pub counted : List Node → ℕ
counted [] = 0
counted (Remove x v c ∷ ns) = counted ns
counted (Split x vs ∷ ns) = (length vs - 1) + counted ns
counted (Fail c ∷ ns) = counted ns

-- no choice of alive places makes all constraints true
abbrev pub HasNone : System → Family → Type 0
HasNone s δ = (place : ℕ → ℕ) → ((x : ℕ) → x < length s.vals → δ x (place x) ≡ true)
    → ((c : ℕ) → c < length s.formulas → truth (λ x. slice_index_or (row s.vals x) (place x) 0) (formula_at s.formulas c) ≡ true) → ⊥
