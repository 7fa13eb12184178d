-- How many places are alive, as a sum over the variables, and that it doesn't depend on the first domains.
use Rattle.std.proofs.Common.{◌≡◌, ◌⊎◌, ℕ, zero, suc, ◌+◌, ◌<◌, ◌≤◌, Bool, true, false, List, length, refl, sym, ap, ◌∙◌, subst, inl, inr, arith, add-one}
use Rattle.std.proofs.lemmas.Bool.{cases_lt}
use Rattle.rf_form.specs.Alive.{IsFit, Counts}
use Rattle.rf_form.specs.Families.{Family}
use Rattle.rf_form.specs.Sums.{sum_below, bit}
use Rattle.rf_form.specs.Truths.{row}
use Rattle.rf_refute.specs.Stacks.{alive_count, HasRoom}
use Rattle.rf_refute.proofs.Stackings.{inside_fit}

-- how many places of the first n variables are alive
unfoldable pub count_to : List (List ℕ) → Family → ℕ → ℕ
count_to vals δ n = sum_below (λ x. sum_below (λ v. bit (δ x v)) (length (row vals x))) n

pub count_start : (vals : List (List ℕ)) (δ : Family) → count_to vals δ 0 ≡ 0
unfolding count_to
count_start vals δ = refl

step_sum : (f : ℕ → ℕ) (n c : ℕ) → c ≡ f n → sum_below f (n + 1) ≡ sum_below f n + c
step_sum f n c e = ap (sum_below f) (add-one n) ∙ ap (λ (k : ℕ). sum_below f n + k) (sym e)

pub count_next : (vals : List (List ℕ)) (δ : Family) (n c : ℕ) → IsFit vals δ → Counts δ n c → count_to vals δ (n + 1) ≡ count_to vals δ n + c
unfolding count_to
count_next vals δ n c fit counts = step_sum (λ x. sum_below (λ v. bit (δ x v)) (length (row vals x))) n c
    (counts (length (row vals n)) (λ v h. fit.within n v h))

bit_dead : (b : Bool) → (b ≡ true → ⊥) → bit b ≡ 0
bit_dead true never = absurd (never refl)
bit_dead false never = refl

none_alive : (p : ℕ → Bool) (n : ℕ) → ((v : ℕ) → p v ≡ true → ⊥) → sum_below (λ v. bit (p v)) n ≡ 0
none_alive p zero never = refl
none_alive p (suc n) never = let i = none_alive p n never in let j = bit_dead (p n) (never n) in omega arith

sum_rises : (f : ℕ → ℕ) (n m : ℕ) → n ≤ m → sum_below f n ≤ sum_below f m
sum_rises f n zero le = let e : n ≡ 0 = omega arith in let g = ap (sum_below f) e in omega arith
sum_rises f n (suc m) le = elim (cases_lt n (suc m)) [
  | inl lt ↦ let i = sum_rises f n m (omega arith) in omega arith
  | inr ge ↦ let e : n ≡ suc m = omega arith in let g = ap (sum_below f) e in omega arith
]

sum_behind : (f : ℕ → ℕ) (m n : ℕ) → ((k : ℕ) → m ≤ k → f k ≡ 0) → sum_below f n ≤ sum_below f m
sum_behind f m zero none = omega arith
sum_behind f m (suc n) none = elim (cases_lt n m) [
  | inl lt ↦ sum_rises f (suc n) m (omega arith)
  | inr ge ↦ let i = sum_behind f m n none in let z = none n ge in omega arith
]

count_behind : (vals ws : List (List ℕ)) (δ : Family) → IsFit ws δ → alive_count vals δ ≤ count_to vals δ (length ws)
unfolding count_to alive_count
count_behind vals ws δ fit = sum_behind (λ x. sum_below (λ v. bit (δ x v)) (length (row vals x))) (length ws) (length vals)
    (λ x above. none_alive (δ x) (length (row vals x)) (λ v h. let lt = inside_fit ws δ x v fit h in omega arith))

pub room_from : (ws : List (List ℕ)) (δ : Family) (n room : ℕ) → IsFit ws δ → n ≡ length ws
    → ((vals : List (List ℕ)) → IsFit vals δ → count_to vals δ n ≡ room) → HasRoom δ room
room_from ws δ n room fit end counted vals other = let a = count_behind vals ws δ fit in let b = counted vals other in
    let e = ap (count_to vals δ) end in omega arith
