-- How a number is read, digit by digit, and that it is one alone.
use Rattle.std.proofs.Common.{◌≡◌, ◌≢◌, ℕ, zero, suc, ◌+◌, ◌-◌, ◌*◌, ◌/◌, ◌%◌, ◌^◌, ◌<◌, ◌≤◌, ◌++◌, List, [], ◌∷◌, length, drop, slice_index, Some, None, Bool, true, false, refl, sym, ap, ◌∙◌, arith, inl, inr, append_assoc, length-append}
use Rattle.std.specs.Prelude.{Option, ◌==◌, ◌&&◌, nat_lt, if◌then◌else◌, MatchOption}
use Rattle.std.specs.Borrow.{Bor}
use Rattle.std.specs.Char.{is_ascii_digit}
use Rattle.std.specs.Fmt.{decimal}
use Rattle.std.proofs.lemmas.Bool.{cases_Bool, cases_lt, lt-ltb, le-ltb}
use Rattle.std.proofs.lemmas.Fmt.{decimal_by_steps, decimal_digit, decimal_nonempty, decimal_step}
use Rattle.std.proofs.lemmas.List.{drop_more, drop_all}
use Rattle.rf_proof.specs.Numbers.{EndsNumber, BeginsNumber, BeginsField}

-- a number has gone on past a first digit of zero
abbrev pub is_leading_zero : ℕ → ℕ → Bool
is_leading_zero value count = value == 0 && nat_lt 0 count

abbrev pub ends : ℕ → ℕ → List ℕ → Option (ℕ × List ℕ)
ends value count rest = if nat_lt 0 count then Some (value, rest) else None

-- what is read, from the value and the count of the digits so far
unfoldable pub digits_from : ℕ → ℕ → ℕ → List ℕ → Option (ℕ × List ℕ)
digits_from most value count [] = ends value count []
digits_from most value count (b ∷ rest) =
    if is_ascii_digit b then
    if is_leading_zero value count then None
    else if nat_lt most (value * 10 + (b - 48)) then None
    else digits_from most (value * 10 + (b - 48)) (count + 1) rest
    else ends value count (b ∷ rest)

-- ---- steps of it

pub digits_stop : (most value n : ℕ) (xs : List ℕ) (i : ℕ) → i < length xs → is_ascii_digit (slice_index xs i) ≡ false
    → digits_from most value n (drop i xs) ≡ ends value n (drop i xs)
unfolding digits_from
digits_stop most value n xs i lt d = rw (drop_more xs i 0 lt, d) refl

pub digits_zero : (most value n : ℕ) (xs : List ℕ) (i : ℕ) → i < length xs → is_ascii_digit (slice_index xs i) ≡ true → is_leading_zero value n ≡ true
    → digits_from most value n (drop i xs) ≡ None
unfolding digits_from
digits_zero most value n xs i lt d z = rw (drop_more xs i 0 lt, d, z) refl

pub digits_over : (most value n : ℕ) (xs : List ℕ) (i : ℕ) → i < length xs → is_ascii_digit (slice_index xs i) ≡ true → is_leading_zero value n ≡ false
    → most < value * 10 + (slice_index xs i - 48)
    → digits_from most value n (drop i xs) ≡ None
unfolding digits_from
digits_over most value n xs i lt d z o = rw (drop_more xs i 0 lt, d, z, lt-ltb _ _ o) refl

pub digits_next : (most value n : ℕ) (xs : List ℕ) (i : ℕ) → i < length xs → is_ascii_digit (slice_index xs i) ≡ true → is_leading_zero value n ≡ false
    → value * 10 + (slice_index xs i - 48) ≤ most
    → digits_from most value n (drop i xs) ≡ digits_from most (value * 10 + (slice_index xs i - 48)) (n + 1) (drop (i + 1) xs)
unfolding digits_from
digits_next most value n xs i lt d z o = rw (drop_more xs i 0 lt, d, z, le-ltb _ _ o) refl

pub digits_end : (most value n : ℕ) (xs : List ℕ) → digits_from most value n (drop (length xs) xs) ≡ ends value n (drop (length xs) xs)
unfolding digits_from
digits_end most value n xs = rw (drop_all (length xs) xs (omega arith)) refl

-- ---- what is read is there

some_value : {A : Type 0} (x y : A) → ◌≡◌ {A = Option A} (Some x) (Some y) → x ≡ y
some_value {A} x y e = ap (λ (o : Option A). from_some x o) e
  where
    from_some : A → Option A → A
    from_some z (Some a) = a
    from_some z None = z

ends_some : (value count : ℕ) (xs : List ℕ) (v : ℕ) (rest : List ℕ) → ends value count xs ≡ Some (v, rest)
    → (0 < count) × ((value ≡ v) × (xs ≡ rest))
ends_some value count xs v rest h = elim (cases_lt 0 count) [
  | inl some ↦
      let p = some_value _ _ (rw (lt-ltb 0 count some) at h) in
      (some, (ap (λ (q : ℕ × List ℕ). q.0) p, ap (λ (q : ℕ × List ℕ). q.1) p))
  | inr none ↦ cc (rw (le-ltb 0 count none) at h)
]

-- one digit more on the front of a number
next_front : (value count b : ℕ) (front : List ℕ) → is_ascii_digit b ≡ true → is_leading_zero value count ≡ false
    → value * 10 + (b - 48) < 2 ^ 64
    → (count ≡ 0 → (front ≡ []) × (value ≡ 0)) → (0 < count → front ≡ decimal value)
    → front ++ b ∷ [] ≡ decimal (value * 10 + (b - 48))
next_front value count b front d z small start run =
    let range : (48 ≤ b) × (b ≤ 57) = grind arith in
    elim (cases_lt 0 count) [
      | inl some ↦
          let other : 0 < value = grind arith in
          let step = decimal_step (value * 10 + (b - 48)) (omega arith) small in
          let top : (value * 10 + (b - 48)) / 10 ≡ value = omega arith in
          let low : 48 + (value * 10 + (b - 48)) % 10 ≡ b = omega arith in
          rw (run some) (sym (rw (top, low) at step))
      | inr none ↦
          let s = start (omega arith) in
          let e : value * 10 + (b - 48) ≡ b - 48 = rw s.1 (omega arith) in
          let low : 48 + (b - 48) ≡ b = omega arith in
          rw (s.0, e, decimal_digit (b - 48) (omega arith), low) refl
    ]

-- what is read behind these digits is a number, with what is left after it
read_so : (most value count : ℕ) (xs front : List ℕ) (v : ℕ) (rest : List ℕ) → most < 2 ^ 64 → value ≤ most
    → (count ≡ 0 → (front ≡ []) × (value ≡ 0)) → (0 < count → front ≡ decimal value)
    → digits_from most value count xs ≡ Some (v, rest)
    → BeginsNumber (front ++ xs) most v rest
unfolding digits_from
read_so most value count [] front v rest fits small start run h =
    let d = ends_some value count [] v rest h in
    record { small = omega (arith, d.1.0); text_is = rw (run d.0, d.1.0, ← d.1.1) refl; ends = rw (← d.1.1) tt }
read_so most value count (b ∷ r) front v rest fits small start run h =
    elim (cases_Bool (is_ascii_digit b)) [
      | inl digit ↦ elim (cases_Bool (is_leading_zero value count)) [
        | inl leading ↦ cc (rw (digit, leading) at h)
        | inr plain ↦ elim (cases_lt most (value * 10 + (b - 48))) [
          | inl big ↦ cc (rw (digit, plain, lt-ltb _ _ big) at h)
          | inr fine ↦
              let more = rw (digit, plain, le-ltb _ _ fine) at h in
              let next = next_front value count b front digit plain (omega arith) start run in
              let ih = read_so most (value * 10 + (b - 48)) (count + 1) r (front ++ b ∷ []) v rest fits fine (λ e. absurd (omega (arith, e))) (λ _. next) more in
              record { small = ih.small; text_is = sym (append_assoc front (b ∷ []) r) ∙ ih.text_is; ends = ih.ends }
        ]
      ]
      | inr other ↦
          let d = ends_some value count (b ∷ r) v rest (rw other at h) in
          record { small = omega (arith, d.1.0); text_is = rw (run d.0, d.1.0, d.1.1) refl; ends = rw (← d.1.1) other }
    ]

pub read_is : (most : ℕ) (text : List ℕ) (v : ℕ) (rest : List ℕ) → most < 2 ^ 64 → digits_from most 0 0 text ≡ Some (v, rest)
    → BeginsNumber text most v rest
read_is most text v rest fits h = read_so most 0 0 text [] v rest fits (omega arith) (λ _. (refl, refl)) (λ e. absurd (omega (arith, e))) h

-- ---- what is there is read

digits_cons : (most value count b : ℕ) (r : List ℕ) → is_ascii_digit b ≡ true → is_leading_zero value count ≡ false
    → value * 10 + (b - 48) ≤ most → digits_from most value count (b ∷ r) ≡ digits_from most (value * 10 + (b - 48)) (count + 1) r
unfolding digits_from
digits_cons most value count b r d z small = rw (d, z, le-ltb _ _ small) refl

abbrev Runs : ℕ → ℕ → List ℕ → Type 0
Runs most n ds = n ≤ most → (rest : List ℕ) → digits_from most 0 0 (ds ++ rest) ≡ digits_from most n (length ds) rest

-- the digits of a number, read from the front
digits_run : (most n : ℕ) → most < 2 ^ 64 → n ≤ most → (rest : List ℕ)
    → digits_from most 0 0 (decimal n ++ rest) ≡ digits_from most n (length (decimal n)) rest
digits_run most n fits small rest = decimal_by_steps (Runs most)
    (λ k low le r.
    let d : is_ascii_digit (48 + k) ≡ true = grind arith in
    let e : 0 * 10 + ((48 + k) - 48) ≡ k = omega arith in
    digits_cons most 0 0 (48 + k) r d refl (omega arith) ∙ rw e refl)
    (λ k ds big ih le r.
    let top : k / 10 ≤ most = omega arith in
    let g = 48 + k % 10 in
    let d : is_ascii_digit g ≡ true = grind arith in
    let z : is_leading_zero (k / 10) (length ds) ≡ false = grind arith in
    let e : (k / 10) * 10 + (g - 48) ≡ k = omega arith in
    let l : length ds + 1 ≡ length (ds ++ g ∷ []) = sym (length-append ds (g ∷ [])) in
    rw (append_assoc ds (g ∷ []) r) (ih top (g ∷ r) ∙ digits_cons most (k / 10) (length ds) g r d z (omega arith) ∙ rw (e, l) refl))
    n (omega arith) small rest

digits_over_at : (most n count : ℕ) (rest : List ℕ) → 0 < count → EndsNumber rest → digits_from most n count rest ≡ Some (n, rest)
unfolding digits_from
digits_over_at most n count [] some h = rw (lt-ltb 0 count some) refl
digits_over_at most n count (b ∷ r) some h = rw (h, lt-ltb 0 count some) refl

-- the number that the text begins with is read
pub is_read : (most : ℕ) (text : List ℕ) (n : ℕ) (rest : List ℕ) → most < 2 ^ 64 → BeginsNumber text most n rest
    → digits_from most 0 0 text ≡ Some (n, rest)
is_read most text n rest fits has = rw has.text_is
    (digits_run most n fits has.small rest ∙ digits_over_at most n (length (decimal n)) rest (decimal_nonempty n (omega (arith, has.small))) has.ends)

-- ---- what the function that reads it says

pub none_read : (most : ℕ) (text : List ℕ) → most < 2 ^ 64 → digits_from most 0 0 text ≡ None → (n : ℕ) (rest : List ℕ) → BeginsNumber text most n rest → ⊥
none_read most text fits e n rest has = let f = sym e ∙ is_read most text n rest fits has in cc

pub ended_reads : (most : ℕ) (text : List ℕ) (value count : ℕ) (r : Option (ℕ × Bor (List ℕ))) → most < 2 ^ 64
    → MatchOption r (count ≡ 0) (λ found. (0 < count) × ((found.0 ≡ value) × (found.1.now ≡ drop count text)))
    → digits_from most 0 0 text ≡ ends value count (drop count text)
    → MatchOption r ((n : ℕ) (rest : List ℕ) → BeginsNumber text most n rest → ⊥) (λ found. BeginsNumber text most found.0 found.1.now)
ended_reads most text value count None fits zero_count e = none_read most text fits (e ∙ rw zero_count refl)
ended_reads most text value count (Some found) fits has e = let f : ends value count (drop count text) ≡ Some (found.0, found.1.now) = rw (lt-ltb 0 count has.0, has.1.0, has.1.1) refl in
    read_is most text found.0 found.1.now fits (e ∙ f)

-- ---- a number is one alone

pub number_is_one : (most : ℕ) (text : List ℕ) (n m : ℕ) (rest more : List ℕ) → most < 2 ^ 64 → BeginsNumber text most n rest → BeginsNumber text most m more
    → (n ≡ m) × (rest ≡ more)
number_is_one most text n m rest more fits one other =
    let e = some_value _ _ (sym (is_read most text n rest fits one) ∙ is_read most text m more fits other) in
    (ap (λ (q : ℕ × List ℕ). q.0) e, ap (λ (q : ℕ × List ℕ). q.1) e)

pub field_is_one : (most : ℕ) (text : List ℕ) (n m : ℕ) (rest more : List ℕ) → most < 2 ^ 64 → BeginsField text most n rest → BeginsField text most m more
    → (n ≡ m) × (rest ≡ more)
field_is_one most text n m rest more fits one other = let e : one.behind ≡ other.behind = cons_tail (sym one.text_is ∙ other.text_is) in
    number_is_one most other.behind n m rest more fits (rw e at one.number) other.number
  where
    cons_tail : {x y : ℕ} {xs ys : List ℕ} → x ∷ xs ≡ y ∷ ys → xs ≡ ys
    cons_tail e = cc
