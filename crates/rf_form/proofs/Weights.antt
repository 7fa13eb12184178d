-- How many places are alive: a measure that a part lessens.
use Rattle.std.proofs.Common.{◌≡◌, ◌⊎◌, ℕ, zero, suc, ◌+◌, ◌<◌, ◌≤◌, Bool, true, false, refl, sym, ◌∙◌, ap, subst, inl, inr, arith}
use Rattle.std.proofs.lemmas.Bool.{cases_lt, cases_eq, both_ways}
use Rattle.rf_form.specs.Families.{Family, Part}
use Rattle.rf_form.specs.Sums.{sum_below, bit, weight}

bit_le : (b c : Bool) → (b ≡ true → c ≡ true) → bit b ≤ bit c
bit_le false c f = omega arith
bit_le true true f = omega arith
bit_le true false f = absurd (both_ways false refl (f refl))

bit_lt : (b c : Bool) → b ≡ false → c ≡ true → bit b < bit c
bit_lt false true e f = omega arith
bit_lt true c e f = absurd (both_ways true e refl)
bit_lt false false e f = absurd (both_ways false refl f)

pub sum_le : (f g : ℕ → ℕ) (n : ℕ) → ((k : ℕ) → k < n → f k ≤ g k) → sum_below f n ≤ sum_below g n
sum_le f g zero h = omega arith
sum_le f g (suc n) h = let i : sum_below f n ≤ sum_below g n = sum_le f g n (λ k lt. h k (omega arith)) in
    let j : f n ≤ g n = h n (omega arith) in omega arith

pub sum_lt : (f g : ℕ → ℕ) (n k : ℕ) → ((j : ℕ) → j < n → f j ≤ g j) → k < n → f k < g k → sum_below f n < sum_below g n
sum_lt f g zero k h lt less = absurd (omega arith)
sum_lt f g (suc n) k h lt less = elim (cases_lt k n) [
  | inl below ↦ let i : sum_below f n < sum_below g n = sum_lt f g n k (λ j l. h j (omega arith)) below less in
      let j : f n ≤ g n = h n (omega arith) in omega arith
  | inr above ↦ let e : k ≡ n = omega arith in let here : f n < g n = subst (λ (m : ℕ). f m < g m) e less in
      let i : sum_below f n ≤ sum_below g n = sum_le f g n (λ j l. h j (omega arith)) in omega arith
]

pub weight_le : (places : ℕ → ℕ) (n : ℕ) (p δ : Family) → Part p δ → weight places n p ≤ weight places n δ
weight_le places n p δ part = sum_le _ _ n (λ x lt. sum_le _ _ (places x) (λ v l. bit_le (p x v) (δ x v) (part x v)))

pub weight_lt : (places : ℕ → ℕ) (n : ℕ) (p δ : Family) (x v : ℕ) → Part p δ → x < n → v < places x → p x v ≡ false → δ x v ≡ true
    → weight places n p < weight places n δ
weight_lt places n p δ x v part lt l gone alive = sum_lt _ _ n x (λ y m. sum_le _ _ (places y) (λ w k. bit_le (p y w) (δ y w) (part y w))) lt
    (sum_lt _ _ (places x) v (λ w k. bit_le (p x w) (δ x w) (part x w)) l (bit_lt (p x v) (δ x v) gone alive))
