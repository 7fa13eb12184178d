-- How many places of a family are alive.
use Rattle.std.proofs.Common.{◌≡◌, ◌⊎◌, ℕ, zero, suc, ◌+◌, ◌<◌, ◌≤◌, Bool, true, false, ◌||◌, cond, eqb, List, [], ◌∷◌, length, get_or, refl, sym, ap, ◌∙◌, subst, inl, inr, arith, eqb-true, ltb, le-ltb, lt-ltb, ne_eqb, eq-eqb}
use Rattle.std.proofs.lemmas.Bool.{cases_lt, cases_Bool, cases_eq, cases_order, or_cases, cond-false, cond-true}
use Rattle.rf_form.specs.Alive.{is_among, among, Counts}
use Rattle.rf_form.specs.Families.{Family, at}
use Rattle.rf_form.specs.Sums.{sum_below, bit}
use Rattle.rf_form.specs.Truths.{row}
use Rattle.rf_form.proofs.FamilyLemmas.{at_here, at_other}

bit_zero : (b : Bool) → (b ≡ true → ⊥) → bit b ≡ 0
bit_zero false h = refl
bit_zero true h = absurd (h refl)

-- behind a bound of the alive places nothing is added
sum_stops : (f : ℕ → Bool) (m n : ℕ) → ((v : ℕ) → f v ≡ true → v < m) → m ≤ n → sum_below (λ v. bit (f v)) n ≡ sum_below (λ v. bit (f v)) m
sum_stops f m zero h le = let e : 0 ≡ m = omega arith in ap (sum_below (λ v. bit (f v))) e
sum_stops f m (suc n) h le = elim (cases_eq (suc n) m) [
  | inl e ↦ ap (sum_below (λ v. bit (f v))) e
  | inr ne ↦ let i = sum_stops f m n h (omega arith) in
      let z = bit_zero (f n) (λ t. let l = h n t in omega arith) in omega arith
]

pub counts_from : (δ : Family) (x m count : ℕ) → ((v : ℕ) → δ x v ≡ true → v < m) → count ≡ sum_below (λ v. bit (δ x v)) m → Counts δ x count
counts_from δ x m count below e n h = elim (cases_lt m n) [
  | inl l ↦ e ∙ sym (sum_stops (δ x) m n below (omega arith))
  | inr l ↦ e ∙ sum_stops (δ x) n m h l
]

one_step : (v n a b c : ℕ) → sum_below (λ w. bit (eqb v w)) n ≡ a → bit (eqb v n) ≡ b → cond (ltb v (suc n)) 1 0 ≡ c → a + b ≡ c
    → sum_below (λ w. bit (eqb v w)) n + bit (eqb v n) ≡ cond (ltb v (suc n)) 1 0
one_step v n a b c p q r e = omega arith

-- one place of x alone
sum_one : (v n : ℕ) → sum_below (λ w. bit (eqb v w)) n ≡ cond (ltb v n) 1 0
sum_one v zero = sym (cond-false (ltb v 0) 1 0 (le-ltb v 0 (omega arith)))
sum_one v (suc n) = elim (cases_order v n) [
  | inl e ↦ one_step v n 0 1 1 (sum_one v n ∙ cond-false (ltb v n) 1 0 (le-ltb v n (omega arith))) (ap bit (eq-eqb v n e))
      (cond-true (ltb v (suc n)) 1 0 (lt-ltb v (suc n) (omega arith))) (omega arith)
  | inr way ↦ elim way [
    | inl below ↦ one_step v n 1 0 1 (sum_one v n ∙ cond-true (ltb v n) 1 0 (lt-ltb v n below)) (ap bit (ne_eqb v n (λ e. omega arith)))
        (cond-true (ltb v (suc n)) 1 0 (lt-ltb v (suc n) (omega arith))) (omega arith)
    | inr above ↦ one_step v n 0 0 0 (sum_one v n ∙ cond-false (ltb v n) 1 0 (le-ltb v n (omega arith))) (ap bit (ne_eqb v n (λ e. omega arith)))
        (cond-false (ltb v (suc n)) 1 0 (le-ltb v (suc n) (omega arith))) (omega arith)
  ]
]

sum_same : (f g : ℕ → ℕ) (n : ℕ) → ((k : ℕ) → f k ≡ g k) → sum_below f n ≡ sum_below g n
sum_same f g zero h = refl
sum_same f g (suc n) h = let i = sum_same f g n h in let j = h n in omega arith

pub at_counts_one : (δ : Family) (x v y : ℕ) → x ≡ y → Counts (at δ x v) y 1
at_counts_one δ x v y e n below = sym (sum_same _ _ n (λ w. ap bit (at_here δ x v y w e)) ∙ (sum_one v n ∙ cond-true (ltb v n) 1 0 (lt-ltb v n
    (below v (at_here δ x v y v e ∙ eq-eqb v v refl)))))

pub at_counts_other : (δ : Family) (x v y count : ℕ) → (x ≡ y → ⊥) → Counts δ y count → Counts (at δ x v) y count
at_counts_other δ x v y count ne counts n below = counts n (λ w h. below w (at_other δ x v y w ne ∙ h))
    ∙ sym (sum_same _ _ n (λ w. ap bit (at_other δ x v y w ne)))

among_below : (row : List ℕ) (m : ℕ) → ((k : ℕ) → k < length row → get_or row k 0 < m) → (v : ℕ) → is_among v row ≡ true → v < m
among_below [] m all v h = absurd (let e = h in cc)
among_below (w ∷ rest) m all v h = elim (or_cases (eqb v w) (is_among v rest) h) [
  | inl e ↦ subst (λ (k : ℕ). k < m) (sym (eqb-true v w e)) (all 0 (omega arith))
  | inr r ↦ among_below rest m (λ k lt. all (suc k) (omega arith)) v r
]

pub rows_count : (rows : List (List ℕ)) (x m count : ℕ) (places : List ℕ) → places ≡ row rows x → ((k : ℕ) → k < length places → get_or places k 0 < m)
    → count ≡ sum_below (λ v. bit (is_among v places)) m → Counts (among rows) x count
rows_count rows x m count places e below is = counts_from (among rows) x m count
    (λ v h. among_below places m below v (subst (λ (l : List ℕ). is_among v l ≡ true) (sym e) h))
    (subst (λ (l : List ℕ). count ≡ sum_below (λ v. bit (is_among v l)) m) e is)
