-- The alive places of a variable from one on.
use Rattle.std.proofs.Common.{◌≡◌, ℕ, zero, suc, ◌+◌, ◌-◌, ◌<◌, ◌≤◌, Bool, true, false, cond, List, [], ◌∷◌, length, drop, get_or, refl, sym, ap, ap₂, ◌∙◌, arith}
use Rattle.std.specs.List.{range_with_len, filter}
use Rattle.std.proofs.lemmas.Bool.{cond-true, cond-false}
use Rattle.rf_form.specs.Families.{Family}
use Rattle.rf_form.specs.Need.{values}
use Rattle.rf_form.specs.Truths.{row}
use Rattle.rf_cons.specs.Systems.{System, problem}
use Rattle.rf_form.specs.Alive.{IsFit}
use Rattle.rf_refute.specs.Stacks.{values_from, IsNext}
use Rattle.std.proofs.lemmas.List.{drop_more, drop_all}

values_step : (vals : List (List ℕ)) (δ : Family) (x v : ℕ) → v < length (row vals x)
    → values_from vals δ x v ≡ cond (δ x v) (v ∷ values_from vals δ x (v + 1)) (values_from vals δ x (v + 1))
unfolding values_from
values_step vals δ x v lt = let e : length (row vals x) - v ≡ suc (length (row vals x) - (v + 1)) = omega arith in
    ap (λ (n : ℕ). filter (δ x) (range_with_len v n)) e

pub values_dead : (vals : List (List ℕ)) (δ : Family) (x v : ℕ) → v < length (row vals x) → δ x v ≡ false
    → values_from vals δ x v ≡ values_from vals δ x (v + 1)
values_dead vals δ x v lt dead = values_step vals δ x v lt
    ∙ cond-false (δ x v) (v ∷ values_from vals δ x (v + 1)) (values_from vals δ x (v + 1)) dead

pub values_alive : (vals : List (List ℕ)) (δ : Family) (x v : ℕ) → v < length (row vals x) → δ x v ≡ true
    → values_from vals δ x v ≡ v ∷ values_from vals δ x (v + 1)
values_alive vals δ x v lt alive = values_step vals δ x v lt
    ∙ cond-true (δ x v) (v ∷ values_from vals δ x (v + 1)) (values_from vals δ x (v + 1)) alive

pub values_past : (vals : List (List ℕ)) (δ : Family) (x v : ℕ) → length (row vals x) ≤ v → values_from vals δ x v ≡ []
unfolding values_from
values_past vals δ x v end = let e : length (row vals x) - v ≡ 0 = omega arith in
    ap (λ (n : ℕ). filter (δ x) (range_with_len v n)) e

-- from the first place on, they are all
pub values_all : (s : System) (δ : Family) (x : ℕ) → values (problem s) δ x ≡ values_from s.vals δ x 0
unfolding values_from
values_all s δ x = let e : length (row s.vals x) ≡ length (row s.vals x) - 0 = omega arith in
    ap (λ (n : ℕ). filter (δ x) (range_with_len 0 n)) e

-- a list against the alive places, item by item
pub listed_none : (listed : List ℕ) (k : ℕ) (found : List ℕ) → k < length listed → drop k listed ≡ found → found ≡ [] → ⊥
listed_none listed k found lt is none = let e = sym (drop_more listed k 0 lt) ∙ (is ∙ none) in cc

module _ (vals : List (List ℕ)) (δ : Family) (x from w : ℕ) (listed : List ℕ) (k : ℕ) (fit : IsFit vals δ) (next : IsNext vals δ x from w) (lt : k < length listed) where
  here : values_from vals δ x from ≡ w ∷ values_from vals δ x (w + 1)
  here = next.same ∙ values_alive vals δ x w (fit.within x w next.alive) next.alive

  pub listed_other : drop k listed ≡ values_from vals δ x from → w ≡ get_or listed k 0
  listed_other is = let e = sym (drop_more listed k 0 lt) ∙ (is ∙ here) in cc

  pub listed_down : drop k listed ≡ values_from vals δ x from → drop (k + 1) listed ≡ values_from vals δ x (w + 1)
  listed_down is = let e = sym (drop_more listed k 0 lt) ∙ (is ∙ here) in cc

  pub listed_up : w ≡ get_or listed k 0 → drop (k + 1) listed ≡ values_from vals δ x (w + 1) → drop k listed ≡ values_from vals δ x from
  listed_up e is = drop_more listed k 0 lt ∙ (ap₂ (λ (v : ℕ) (l : List ℕ). v ∷ l) (sym e) is ∙ sym here)

pub listed_over : (vals : List (List ℕ)) (δ : Family) (x from w : ℕ) (listed : List ℕ) (k : ℕ) → IsFit vals δ → IsNext vals δ x from w → length listed ≤ k
    → drop k listed ≡ values_from vals δ x from → ⊥
listed_over vals δ x from w listed k fit next end is = let e = sym (drop_all k listed end) ∙ (is ∙ (next.same
    ∙ values_alive vals δ x w (fit.within x w next.alive) next.alive)) in cc
