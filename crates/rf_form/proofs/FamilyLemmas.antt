-- Families with one variable at one place, and without one place.
use Rattle.std.proofs.Common.{◌≡◌, ◌⊎◌, ℕ, ◌<◌, Bool, true, false, cond, not, ◌&&◌, eqb, refl, sym, ap, ◌∙◌, subst₂, inl, inr, eq-eqb, ne_eqb, eqb-true}
use Rattle.std.proofs.lemmas.Bool.{cond-true, cond-false, cases_eq, and_parts, and_from, not_from_false, and_cases, both_ways, false_from_ne_true, not-true}
use Rattle.rf_form.specs.Families.{Family, at, without, Part, Filled, Within}

pub at_same : (δ : Family) (x v : ℕ) → at δ x v x v ≡ true
at_same δ x v = cond-true (eqb x x) (eqb v v) (δ x v) (eq-eqb x x refl) ∙ eq-eqb v v refl

pub at_here : (δ : Family) (x v y w : ℕ) → x ≡ y → at δ x v y w ≡ eqb v w
at_here δ x v y w e = cond-true (eqb x y) (eqb v w) (δ y w) (eq-eqb x y e)

pub at_other : (δ : Family) (x v y w : ℕ) → (x ≡ y → ⊥) → at δ x v y w ≡ δ y w
at_other δ x v y w ne = cond-false (eqb x y) (eqb v w) (δ y w) (ne_eqb x y ne)

pub at_alive : (δ : Family) (x v w : ℕ) → at δ x v x w ≡ true → v ≡ w
at_alive δ x v w h = eqb-true v w (sym (at_here δ x v x w refl) ∙ h)

pub at_part : (δ : Family) (x v : ℕ) → δ x v ≡ true → Part (at δ x v) δ
at_part δ x v alive y w h = elim (cases_eq x y) [
  | inl e ↦ subst₂ (λ (a b : ℕ). δ a b ≡ true) e (eqb-true v w (sym (at_here δ x v y w e) ∙ h)) alive
  | inr ne ↦ sym (at_other δ x v y w ne) ∙ h
]

pub at_below : (p δ : Family) (x v : ℕ) → Part p δ → Part (at p x v) (at δ x v)
at_below p δ x v part y w h = elim (cases_eq x y) [
  | inl e ↦ at_here δ x v y w e ∙ (sym (at_here p x v y w e) ∙ h)
  | inr ne ↦ at_other δ x v y w ne ∙ part y w (sym (at_other p x v y w ne) ∙ h)
]

pub at_filled : (n : ℕ) (p : Family) (x v : ℕ) → Filled n p → Filled n (at p x v)
at_filled n p x v f = (
  (λ y. cond (eqb x y) v (f.0 y)),
  λ y lt. elim (cases_eq x y) [
    | inl e ↦ at_here p x v y (cond (eqb x y) v (f.0 y)) e ∙ eq-eqb v (cond (eqb x y) v (f.0 y)) (sym (cond-true (eqb x y) v (f.0 y) (eq-eqb x y e)))
    | inr ne ↦ at_other p x v y (cond (eqb x y) v (f.0 y)) ne ∙ (ap (λ k. p y k) (cond-false (eqb x y) v (f.0 y) (ne_eqb x y ne)) ∙ f.1 y lt)
  ],
)

pub within_part : (n : ℕ) (places : ℕ → ℕ) (p δ : Family) → Part p δ → Within n places δ → Within n places p
within_part n places p δ part within x v h = within x v (part x v h)

pub without_part : (δ : Family) (x v : ℕ) → Part (without δ x v) δ
without_part δ x v y w h = (and_parts (δ y w) (not (eqb x y && eqb v w)) h).0

pub without_gone : (δ : Family) (x v y w : ℕ) → without δ x v y w ≡ true → x ≡ y → v ≡ w → ⊥
without_gone δ x v y w h e f = both_ways (eqb x y && eqb v w)
    (not-true (eqb x y && eqb v w) (and_parts (δ y w) (not (eqb x y && eqb v w)) h).1)
    (and_from (eqb x y) (eqb v w) (eq-eqb x y e) (eq-eqb v w f))

pub without_keeps : (δ : Family) (x v y w : ℕ) → δ y w ≡ true → (x ≡ y → v ≡ w → ⊥) → without δ x v y w ≡ true
without_keeps δ x v y w alive ne = and_from (δ y w) (not (eqb x y && eqb v w)) alive
    (not_from_false (eqb x y && eqb v w) (false_from_ne_true (eqb x y && eqb v w)
    (λ h. let both = and_parts (eqb x y) (eqb v w) h in ne (eqb-true x y both.0) (eqb-true v w both.1))))
