-- The first number below a bound at which something holds, and what can be decided.
use Rattle.std.proofs.Common.{◌≡◌, ◌⊎◌, ℕ, zero, suc, ◌+◌, ◌<◌, ◌≤◌, Bool, true, false, refl, sym, subst, inl, inr, arith}
use Rattle.std.proofs.lemmas.Bool.{cases_lt}

-- it holds, or it doesn't
abbrev pub Decided : Type 0 → Type 0
Decided A = A ⊎ (A → ⊥)

pub first_below : (A B : ℕ → Type 0) (n : ℕ) → ((k : ℕ) → k < n → A k ⊎ B k)
    → ((k : ℕ) × (k < n) × A k × ((j : ℕ) → j < k → B j)) ⊎ ((k : ℕ) → k < n → B k)
first_below A B zero f = inr (λ k lt. absurd (omega arith))
first_below A B (suc n) f = elim (first_below A B n (λ k lt. f k (omega arith))) [
  | inl h ↦ inl (h.0, omega arith, h.2, h.3)
  | inr all ↦ elim (f n (omega arith)) [
    | inl here ↦ inl (n, omega arith, here, all)
    | inr gone ↦ inr (λ k lt. elim (cases_lt k n) [
      | inl below ↦ all k below
      | inr above ↦ let e : n ≡ k = omega arith in subst B e gone
    ])
  ]
]

-- whether it holds of some number below a bound
pub decide_below : (A : ℕ → Type 0) (n : ℕ) → ((k : ℕ) → k < n → Decided (A k)) → Decided ((k : ℕ) × (k < n) × A k)
decide_below A n f = elim (first_below A (λ k. A k → ⊥) n f) [
  | inl h ↦ inl (h.0, h.1, h.2)
  | inr all ↦ inr (λ h. all h.0 h.1 h.2)
]

pub decide_both : (A B : Type 0) → Decided A → Decided B → Decided (A × B)
decide_both A B (inl a) (inl b) = inl (a, b)
decide_both A B (inr a) b = inr (λ h. a h.0)
decide_both A B (inl a) (inr b) = inr (λ h. b h.1)

pub decide_either : (A B : Type 0) → Decided A → Decided B → Decided (A ⊎ B)
decide_either A B (inl a) b = inl (inl a)
decide_either A B (inr a) (inl b) = inl (inr b)
decide_either A B (inr a) (inr b) = inr (λ h. elim h [ inl x ↦ a x | inr y ↦ b y ])

pub decide_bool : (b c : Bool) → Decided (b ≡ c)
decide_bool true true = inl refl
decide_bool false false = inl refl
decide_bool true false = inr (λ e. cc)
decide_bool false true = inr (λ e. cc)

pub same_bool : (b c : Bool) → (b ≡ true → c ≡ true) → (c ≡ true → b ≡ true) → b ≡ c
same_bool true c f g = sym (f refl)
same_bool false true f g = g refl
same_bool false false f g = refl
