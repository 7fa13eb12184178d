-- Constraints that stand for pairs are false where the pairs are.
use Rattle.std.proofs.Common.{◌⊎◌, ℕ, zero, suc, ◌<◌, true, false, List, [], ◌∷◌, length, sym, ap, subst, inl, inr, arith, le-ltb}
use Rattle.std.proofs.lemmas.Bool.{cases_lt, both_ways}
use Rattle.std.proofs.lemmas.List.{get_or_past}
use Rattle.rf_form.specs.Constraints.{formula_at, SomeFalse}
use Rattle.rf_form.specs.Families.{Family, Part, Filled, Within}
use Rattle.rf_form.specs.Formulas.{Formula}
use Rattle.rf_form.specs.Shown.{form_of}
use Rattle.rf_form.specs.Truths.{row, Is}
use Rattle.rf_form.proofs.Below.{is_below, not_both}
use Rattle.rf_inst.specs.declared.constraints.Con.{Con}
use Rattle.rf_inst.specs.Insts.{formulas}
use Rattle.rf_inst.specs.Stands.{first, Stand}

next_false : (vals : List (List ℕ)) (f : Formula) (fs : List Formula) (δ : Family) → SomeFalse vals fs δ → SomeFalse vals (f ∷ fs) δ
next_false vals f fs δ s = (suc s.0, omega (arith, s.1), s.2)

here_false : (vals : List (List ℕ)) (f : Formula) (fs : List Formula) (δ : Family) → Is vals δ f false → SomeFalse vals (f ∷ fs) δ
here_false vals f fs δ h = (0, omega arith, h)

split_false : (vals : List (List ℕ)) (f : Formula) (fs : List Formula) (δ : Family) → SomeFalse vals (f ∷ fs) δ → Is vals δ f false ⊎ SomeFalse vals fs δ
split_false vals f fs δ s = by s.0 s.1 s.2
  where
    by : (c : ℕ) → c < suc (length fs) → Is vals δ (formula_at (f ∷ fs) c) false → Is vals δ f false ⊎ SomeFalse vals fs δ
    by zero lt h = inl h
    by (suc c) lt h = inr (c, omega arith, h)

first_within : (vals : List (List ℕ)) → Within (length vals) (λ x. length (row vals x)) (first vals)
first_within vals x v h = elim (cases_lt v (length (row vals x))) [
  | inr le ↦ absurd (both_ways (first vals x v) (le-ltb v (length (row vals x)) le) h)
  | inl lt ↦ elim (cases_lt x (length vals)) [
    | inl inside ↦ (inside, lt)
    | inr past ↦ absurd (let e = ap (length {A = ℕ}) (get_or_past vals x [] past) in omega arith)
  ]
]

module _ (vals : List (List ℕ)) (part : Family) (lies : Part part (first vals)) (filled : Filled (length vals) part) where
  true_stays : (f : Formula) → Is vals (first vals) f true → Is vals part f false → ⊥
  true_stays f h g = not_both vals part f (is_below (length vals) (λ x. length (row vals x)) part (first vals) lies filled (first_within vals) vals f true h) g

  down : (k : ℕ) (fs : List Formula) (cons : List Con) → Stand vals k fs cons → SomeFalse vals fs part → SomeFalse vals (formulas cons) part
  down k [] cons stand s = absurd (let lt = s.1 in omega arith)
  down k (f ∷ fs) cons (inl out) s = elim (split_false vals f fs part s) [
    | inl h ↦ absurd (true_stays f out.0 h)
    | inr h ↦ down (suc k) fs cons out.2 h
  ]
  down k (f ∷ fs) cons (inr kept) s = subst (λ (cs : List Con). SomeFalse vals (formulas cs) part) (sym kept.2)
      (elim (split_false vals f fs part s) [
        | inl h ↦ here_false vals (form_of kept.0.form) (formulas kept.1) part ((kept.4 part lies filled false).0 h)
        | inr h ↦ next_false vals (form_of kept.0.form) (formulas kept.1) part (down (suc k) fs kept.1 kept.5 h)
      ])

  up : (k : ℕ) (fs : List Formula) (cons : List Con) → Stand vals k fs cons → SomeFalse vals (formulas cons) part → SomeFalse vals fs part
  up k [] cons stand s = absurd (let t = subst (λ (cs : List Con). SomeFalse vals (formulas cs) part) stand s in let lt = t.1 in omega arith)
  up k (f ∷ fs) cons (inl out) s = next_false vals f fs part (up (suc k) fs cons out.2 s)
  up k (f ∷ fs) cons (inr kept) s = elim (split_false vals (form_of kept.0.form) (formulas kept.1) part (subst (λ (cs : List Con). SomeFalse vals (formulas cs) part) kept.2 s)) [
    | inl h ↦ here_false vals f fs part ((kept.4 part lies filled false).1 h)
    | inr h ↦ next_false vals f fs part (up (suc k) fs kept.1 kept.5 h)
  ]

  pub both_ways_false : (fs : List Formula) (cons : List Con) → Stand vals 0 fs cons → (SomeFalse vals fs part → SomeFalse vals (formulas cons) part) × (SomeFalse vals (formulas cons) part → SomeFalse vals fs part)
  both_ways_false fs cons stand = (down 0 fs cons stand, up 0 fs cons stand)
