-- How many places of a family are alive.
use Rattle.std.specs.Prelude.{ℕ, zero, suc, ◌+◌, Bool, cond}
use Rattle.rf_form.specs.Families.{Family}

abbrev pub bit : Bool → ℕ
bit b = cond b 1 0

-- f 0 + .. + f (n - 1)
abbrev pub sum_below : (ℕ → ℕ) → ℕ → ℕ
sum_below f zero = 0
sum_below f (suc n) = sum_below f n + f n

-- the number of alive places of the first n variables
abbrev pub weight : (ℕ → ℕ) → ℕ → Family → ℕ
weight places n δ = sum_below (λ x. sum_below (λ v. bit (δ x v)) (places x)) n
