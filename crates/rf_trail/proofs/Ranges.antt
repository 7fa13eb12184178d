-- Lists of the numbers below a bound that pass a test: membership, one more, one less, the first, how many.
use Rattle.std.proofs.Common.{◌≡◌, ℕ, zero, suc, ◌+◌, ◌<◌, ◌≤◌, Bool, true, false, cond, ◌&&◌, ◌||◌, eqb, ltb, leb, List, [], ◌∷◌, length, filter, find, Some, None, refl, sym, ap, ap₂, ◌∙◌, subst, inl, inr, arith, eq-eqb, ne_eqb, eqb-true, lt-ltb, le-ltb, le-leb}
use Rattle.std.specs.List.{range_with_len}
use Rattle.std.proofs.lemmas.Bool.{cases_lt, cases_eq, cases_Bool, both_ways, cond-true, cond-false, or_cases, or_left, or_right, lt-leb}
use Rattle.rf_form.specs.Alive.{is_among, Counts}
use Rattle.rf_form.specs.Families.{Family}
use Rattle.rf_form.specs.Sums.{bit, sum_below}
use Rattle.rf_form.proofs.Counts.{counts_from}
use Rattle.rf_trail.specs.Bits.{inserted}

-- the numbers from a on
abbrev numbers : (ℕ → Bool) → ℕ → ℕ → List ℕ
numbers f a n = filter f (range_with_len a n)

passed : (f : ℕ → Bool) (a n : ℕ) → f a ≡ true → numbers f a (suc n) ≡ a ∷ numbers f (a + 1) n
passed f a n h = cond-true (f a) (a ∷ numbers f (a + 1) n) (numbers f (a + 1) n) h

failed : (f : ℕ → Bool) (a n : ℕ) → f a ≡ false → numbers f a (suc n) ≡ numbers f (a + 1) n
failed f a n h = cond-false (f a) (a ∷ numbers f (a + 1) n) (numbers f (a + 1) n) h

same_list : (f g : ℕ → Bool) (a n : ℕ) → ((w : ℕ) → a ≤ w → f w ≡ g w) → numbers f a n ≡ numbers g a n
same_list f g a zero h = refl
same_list f g a (suc n) h = elim (cases_Bool (f a)) [
  | inl t ↦ passed f a n t ∙ (ap (λ (l : List ℕ). a ∷ l) (same_list f g (a + 1) n (λ w le. h w (omega arith))) ∙ sym (passed g a n (sym (h a (omega arith)) ∙ t)))
  | inr t ↦ failed f a n t ∙ (same_list f g (a + 1) n (λ w le. h w (omega arith)) ∙ sym (failed g a n (sym (h a (omega arith)) ∙ t)))
]

pub among_passes : (f : ℕ → Bool) (a n v : ℕ) → is_among v (numbers f a n) ≡ true → (a ≤ v) × (v < a + n) × (f v ≡ true)
among_passes f a zero v h = absurd (let e = h in cc)
among_passes f a (suc n) v h = elim (cases_Bool (f a)) [
  | inl t ↦ elim (or_cases (eqb v a) (is_among v (numbers f (a + 1) n)) (subst (λ (l : List ℕ). is_among v l ≡ true) (passed f a n t) h)) [
    | inl e ↦ let same : v ≡ a = eqb-true v a e in (omega arith, omega arith, subst (λ (k : ℕ). f k ≡ true) (sym same) t)
    | inr r ↦ let i = among_passes f (a + 1) n v r in (omega arith, omega arith, i.2)
  ]
  | inr t ↦ let i = among_passes f (a + 1) n v (subst (λ (l : List ℕ). is_among v l ≡ true) (failed f a n t) h) in (omega arith, omega arith, i.2)
]

pub passes_among : (f : ℕ → Bool) (a n v : ℕ) → a ≤ v → v < a + n → f v ≡ true → is_among v (numbers f a n) ≡ true
passes_among f a zero v low high h = absurd (omega arith)
passes_among f a (suc n) v low high h = elim (cases_eq v a) [
  | inl e ↦ subst (λ (l : List ℕ). is_among v l ≡ true) (sym (passed f a n (subst (λ (k : ℕ). f k ≡ true) e h)))
      (or_left (eqb v a) (is_among v (numbers f (a + 1) n)) (eq-eqb v a e))
  | inr ne ↦ let i = passes_among f (a + 1) n v (omega arith) (omega arith) h in elim (cases_Bool (f a)) [
    | inl t ↦ subst (λ (l : List ℕ). is_among v l ≡ true) (sym (passed f a n t)) (or_right (eqb v a) (is_among v (numbers f (a + 1) n)) i)
    | inr t ↦ subst (λ (l : List ℕ). is_among v l ≡ true) (sym (failed f a n t)) i
  ]
]

-- a place below all goes to the front
insert_front : (f : ℕ → Bool) (a n v : ℕ) → v < a → inserted v (numbers f a n) ≡ v ∷ numbers f a n
insert_front f a zero v lt = refl
insert_front f a (suc n) v lt = elim (cases_Bool (f a)) [
  | inl t ↦ ap (inserted v) (passed f a n t) ∙ (cond-true (ltb v a) (v ∷ a ∷ numbers f (a + 1) n) (a ∷ inserted v (numbers f (a + 1) n)) (lt-ltb v a lt)
      ∙ ap (λ (l : List ℕ). v ∷ l) (sym (passed f a n t)))
  | inr t ↦ ap (inserted v) (failed f a n t) ∙ (insert_front f (a + 1) n v (omega arith) ∙ ap (λ (l : List ℕ). v ∷ l) (sym (failed f a n t)))
]

pub or_apart : (b : Bool) (w v : ℕ) → (w ≡ v → ⊥) → (b || eqb w v) ≡ b
or_apart true w v ne = refl
or_apart false w v ne = ne_eqb w v ne

behind : (a v w : ℕ) → a ≡ v → a + 1 ≤ w → w ≡ v → ⊥
behind a v w e le same = omega arith

pub with_one : (f g : ℕ → Bool) (v a n : ℕ) → a ≤ v → v < a + n → f v ≡ false → ((w : ℕ) → g w ≡ (f w || eqb w v))
    → numbers g a n ≡ inserted v (numbers f a n)
with_one f g v a zero low high gone is = absurd (omega arith)
with_one f g v a (suc n) low high gone is = elim (cases_eq a v) [
  | inl e ↦ passed g a n (is a ∙ or_right (f a) (eqb a v) (eq-eqb a v e))
      ∙ (ap₂ ◌∷◌ e (same_list g f (a + 1) n (λ w le. is w ∙ or_apart (f w) w v (λ same. behind a v w e le same)))
      ∙ (sym (insert_front f (a + 1) n v (omega arith)) ∙ ap (inserted v) (sym (failed f a n (subst (λ (k : ℕ). f k ≡ false) (sym e) gone)))))
  | inr ne ↦ let i = with_one f g v (a + 1) n (omega arith) (omega arith) gone is in
      let same : g a ≡ f a = is a ∙ or_apart (f a) a v ne in elim (cases_Bool (f a)) [
        | inl t ↦ passed g a n (same ∙ t) ∙ (ap (λ (l : List ℕ). a ∷ l) i
            ∙ (sym (cond-false (ltb v a) (v ∷ a ∷ numbers f (a + 1) n) (a ∷ inserted v (numbers f (a + 1) n)) (le-ltb v a low)) ∙ ap (inserted v) (sym (passed f a n t))))
        | inr t ↦ failed g a n (same ∙ t) ∙ (i ∙ ap (inserted v) (sym (failed f a n t)))
      ]
]

-- a test on a test
pub filtered : (f g h : ℕ → Bool) (xs : List ℕ) → ((w : ℕ) → g w ≡ (f w && h w)) → filter g xs ≡ filter h (filter f xs)
filtered f g h [] is = refl
filtered f g h (x ∷ xs) is = let i = filtered f g h xs is in elim (cases_Bool (f x)) [
  | inr t ↦ cond-false (g x) (x ∷ filter g xs) (filter g xs) (is x ∙ ap (λ (b : Bool). b && h x) t)
      ∙ (i ∙ ap (filter h) (sym (cond-false (f x) (x ∷ filter f xs) (filter f xs) t)))
  | inl t ↦ ap₂ (λ (b : Bool) (l : List ℕ). cond b (x ∷ l) l) (is x ∙ ap (λ (b : Bool). b && h x) t) i
      ∙ ap (filter h) (sym (cond-true (f x) (x ∷ filter f xs) (filter f xs) t))
]

pub find_none : (f : ℕ → Bool) (from a n : ℕ) → ((w : ℕ) → from ≤ w → w < a + n → f w ≡ false) → find (λ w. leb from w) (numbers f a n) ≡ None
find_none f from a zero h = refl
find_none f from a (suc n) h = let i = find_none f from (a + 1) n (λ w le lt. h w le (omega arith)) in elim (cases_Bool (f a)) [
  | inr t ↦ ap (find (λ w. leb from w)) (failed f a n t) ∙ i
  | inl t ↦ elim (cases_lt a from) [
    | inl lt ↦ ap (find (λ w. leb from w)) (passed f a n t)
        ∙ (cond-false (leb from a) (Some a) (find (λ w. leb from w) (numbers f (a + 1) n)) (lt-leb from a lt) ∙ i)
    | inr le ↦ absurd (both_ways (f a) (h a le (omega arith)) t)
  ]
]

pub find_some : (f : ℕ → Bool) (from a n v : ℕ) → a ≤ v → v < a + n → from ≤ v → f v ≡ true → ((w : ℕ) → from ≤ w → w < v → f w ≡ false)
    → find (λ w. leb from w) (numbers f a n) ≡ Some v
find_some f from a zero v low high le here before = absurd (omega arith)
find_some f from a (suc n) v low high le here before = elim (cases_eq a v) [
  | inl e ↦ ap (find (λ w. leb from w)) (passed f a n (subst (λ (k : ℕ). f k ≡ true) (sym e) here))
      ∙ (cond-true (leb from a) (Some a) (find (λ w. leb from w) (numbers f (a + 1) n)) (le-leb from a (omega arith)) ∙ ap (λ (k : ℕ). Some k) e)
  | inr ne ↦ let i = find_some f from (a + 1) n v (omega arith) (omega arith) le here before in elim (cases_Bool (f a)) [
    | inr t ↦ ap (find (λ w. leb from w)) (failed f a n t) ∙ i
    | inl t ↦ elim (cases_lt a from) [
      | inl lt ↦ ap (find (λ w. leb from w)) (passed f a n t)
          ∙ (cond-false (leb from a) (Some a) (find (λ w. leb from w) (numbers f (a + 1) n)) (lt-leb from a lt) ∙ i)
      | inr at_least ↦ absurd (both_ways (f a) (before a at_least (omega arith)) t)
    ]
  ]
]

pub nothing_passes : (f : ℕ → Bool) (xs : List ℕ) → ((w : ℕ) → f w ≡ false) → filter f xs ≡ []
nothing_passes f [] h = refl
nothing_passes f (x ∷ xs) h = cond-false (f x) (x ∷ filter f xs) (filter f xs) (h x) ∙ nothing_passes f xs h

omega_zero : (a : ℕ) → a + 0 ≡ a
omega_zero a = omega arith

omega_more : (a n : ℕ) → (a + 1) + n ≡ a + suc n
omega_more a n = omega arith

omega_front : (n : ℕ) → 0 + n ≡ n
omega_front n = omega arith

omega_suc : (n : ℕ) → n + 1 ≡ suc n
omega_suc n = omega arith

one_more : (l k n b : ℕ) → l ≡ n → b ≡ n → k ≡ 0 → l ≡ k + b
one_more l k n b e f g = omega arith

-- one more number at the end
numbers_last : (f : ℕ → Bool) (a n : ℕ) → length (numbers f a (suc n)) ≡ length (numbers f a n) + bit (f (a + n))
numbers_last f a zero = elim (cases_Bool (f a)) [
  | inl t ↦ one_more (length (numbers f a 1)) 0 1 (bit (f (a + 0))) (ap (length {A = ℕ}) (passed f a zero t)) (ap bit (ap f (omega_zero a) ∙ t)) (omega arith)
  | inr t ↦ one_more (length (numbers f a 1)) 0 0 (bit (f (a + 0))) (ap (length {A = ℕ}) (failed f a zero t)) (ap bit (ap f (omega_zero a) ∙ t)) (omega arith)
]
numbers_last f a (suc n) = let i = numbers_last f (a + 1) n in let e = ap (λ (k : ℕ). bit (f k)) (omega_more a n) in elim (cases_Bool (f a)) [
  | inl t ↦ let p = ap (length {A = ℕ}) (passed f a (suc n) t) in let q = ap (length {A = ℕ}) (passed f a n t) in omega arith
  | inr t ↦ let p = ap (length {A = ℕ}) (failed f a (suc n) t) in let q = ap (length {A = ℕ}) (failed f a n t) in omega arith
]

pub count_more : (f : ℕ → Bool) (n : ℕ) → length (numbers f 0 (n + 1)) ≡ length (numbers f 0 n) + bit (f n)
count_more f n = let e = ap (λ (k : ℕ). bit (f k)) (omega_front n) in
    ap (λ (k : ℕ). length (numbers f 0 k)) (omega_suc n) ∙ (numbers_last f 0 n ∙ ap (λ (k : ℕ). length (numbers f 0 n) + k) e)

pub count_is : (f : ℕ → Bool) (n : ℕ) → length (numbers f 0 n) ≡ sum_below (λ v. bit (f v)) n
count_is f zero = refl
count_is f (suc n) = ap (λ (k : ℕ). length (numbers f 0 k)) (sym (omega_suc n)) ∙ (count_more f n ∙ ap (λ (k : ℕ). k + bit (f n)) (count_is f n))

-- a set counts as the sum over all places
pub set_counts : (xs : List ℕ) (n count : ℕ) → xs ≡ filter (λ v. is_among v xs) (range_with_len 0 n) → count ≡ length xs → Counts (λ _ v. is_among v xs) 0 count
set_counts xs n count shape e = counts_from (λ _ v. is_among v xs) 0 n count
    (λ v h. let p = among_passes (λ u. is_among u xs) 0 n v (sym (ap (is_among v) shape) ∙ h) in omega arith)
    (e ∙ (ap (length {A = ℕ}) shape ∙ count_is (λ v. is_among v xs) n))

sum_same : (f g : ℕ → ℕ) (n : ℕ) → ((k : ℕ) → f k ≡ g k) → sum_below f n ≡ sum_below g n
sum_same f g zero h = refl
sum_same f g (suc n) h = let i = sum_same f g n h in let j = h n in omega arith

pub row_counts : (δ : Family) (x count : ℕ) (xs : List ℕ) → ((v : ℕ) → is_among v xs ≡ δ x v) → Counts (λ _ v. is_among v xs) 0 count → Counts δ x count
row_counts δ x count xs is counts n below = counts n (λ v h. below v (sym (is v) ∙ h)) ∙ sum_same (λ v. bit (is_among v xs)) (λ v. bit (δ x v)) n (λ v. ap bit (is v))

pub nothing_counts : (δ : Family) (x : ℕ) → ((v : ℕ) → δ x v ≡ false) → Counts δ x 0
nothing_counts δ x none n below = sym (sum_same (λ v. bit (δ x v)) (λ v. 0) n (λ v. ap bit (none v)) ∙ zeros n)
  where
    zeros : (n : ℕ) → sum_below (λ v. 0) n ≡ 0
    zeros zero = refl
    zeros (suc n) = let i = zeros n in omega arith
