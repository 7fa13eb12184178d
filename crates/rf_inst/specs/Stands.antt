-- Which constraints stand for which pairs.
use Rattle.std.specs.Prelude.{◌≡◌, ◌⊎◌, ℕ, suc, Bool, true, List, [], ◌∷◌, length, ltb}
use Rattle.rf_form.specs.Families.{Family, Part, Filled}
use Rattle.rf_form.specs.Formulas.{Formula}
use Rattle.rf_form.specs.Shown.{form_of}
use Rattle.rf_form.specs.Truths.{row, Is}
use Rattle.rf_inst.specs.declared.constraints.Con.{Con}

-- the first domains, all alive
abbrev pub first : List (List ℕ) → Family
first vals x v = ltb v (length (row vals x))

-- in each part of the first domains in which none is empty, both are true and both are false
abbrev pub Means : List (List ℕ) → Formula → Formula → Type 0
Means vals f g = (part : Family) → Part part (first vals) → Filled (length vals) part → (b : Bool) →
    (Is vals part f b → Is vals part g b) × (Is vals part g b → Is vals part f b)

-- The constraints stand for the pairs with these direct forms, which are numbered from k on. One that is true under the first
-- domains and isn't the last may be left out; its number isn't used again.
abbrev pub Stand : List (List ℕ) → ℕ → List Formula → List Con → Type 0
Stand vals k [] cons = cons ≡ []
Stand vals k (f ∷ fs) cons =
    (Is vals (first vals) f true × (fs ≡ [] → ⊥) × Stand vals (suc k) fs cons) ⊎
    ((c : Con) × (rest : List Con) × (cons ≡ c ∷ rest) × (c.number ≡ k) × Means vals f (form_of c.form) × Stand vals (suc k) fs rest)
