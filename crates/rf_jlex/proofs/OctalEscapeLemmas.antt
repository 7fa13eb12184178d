-- The longest octal escape at the front of a text.
use Rattle.std.proofs.Common.{◌≡◌, ◌≢◌, ℕ, ◌+◌, ◌-◌, ◌<◌, ◌≤◌, Bool, true, false, cond, leb, suc, List, [], ◌∷◌, ◌++◌, ◌⊎◌, ⊎_elim, inl, inr, length, take, drop, get_or, refl, sym, ap, ◌∙◌, subst, arith, length-append, length-take}
use Rattle.std.specs.List.{AllPass, prefix_len}
use Rattle.std.proofs.lemmas.Bool.{cond-true, cond-false, leb-true, le-leb, false≢true, cases_lt, cases_Bool}
use Rattle.std.proofs.lemmas.List.{take-append-drop, take_rest, drop_more, take-take, get_or-take, length-take-le, get_or_append_left}
use Rattle.std.proofs.lemmas.List.Elements.{All-drop, All-get_or}
use Rattle.std.proofs.lemmas.List.Sums.{prefix_len_passes, prefix_len_stops, prefix_len-le-length}
use Rattle.rf_jtree.specs.Digits.{is_octal_digit}
use Rattle.rf_jtree.specs.Escapes.{IsOctalEscape}
use Rattle.rf_jlex.specs.EscapeFronts.{IsFrontOf, HasNoFrontOf, IsLongestFront, most_octal_digits}
use Rattle.rf_jlex.proofs.FrontOfLemmas.{cut_of, front_of}

-- a list is at least as long a run as its front of bytes that pass
le_prefix_len : (p : ℕ → Bool) (xs : List ℕ) (k : ℕ) → k ≤ length xs → ((i : ℕ) → i < k → p (get_or xs i 0) ≡ true) → k ≤ prefix_len p xs
le_prefix_len p xs k within passes =
    let n = prefix_len p xs in
    ⊎_elim (λ less. absurd (false≢true (sym (prefix_len_stops p xs 0 (omega arith)) ∙ passes n less))) (λ more. more) (cases_lt n k)

pub run_passes : (p : ℕ → Bool) (xs : List ℕ) → AllPass p (take (prefix_len p xs) xs)
run_passes p xs = λ k d below.
    let n = prefix_len p xs in
    let within : k < n = omega (arith, below, length-take-le n xs (prefix_len-le-length p xs)) in
    ap p (get_or-take n xs k d within) ∙ prefix_len_passes p xs k d within

abbrev pub octal_len : List ℕ → ℕ
octal_len text = prefix_len is_octal_digit (take (most_octal_digits text) text)

most_cases : (text : List ℕ) → (2 ≤ most_octal_digits text) × (most_octal_digits text ≤ 3)
most_cases [] = (omega arith, omega arith)
most_cases (first ∷ rest) =
    elim (leb first 51) as (λ b. (2 ≤ cond b 3 2) × (cond b 3 2 ≤ 3)) [ true ↦ (omega arith, omega arith) | false ↦ (omega arith, omega arith) ]

most_low : (first : ℕ) (rest : List ℕ) → first ≤ 51 → most_octal_digits (first ∷ rest) ≡ 3
most_low first rest low = cond-true (leb first 51) 3 2 (le-leb first 51 low)

most_three : (first : ℕ) (rest : List ℕ) → most_octal_digits (first ∷ rest) ≡ 3 → first ≤ 51
most_three first rest is = ⊎_elim (λ low. leb-true first 51 low) (λ high. absurd (omega (arith, is, cond-false {A = ℕ} (leb first 51) 3 2 high))) (cases_Bool (leb first 51))

-- an escape's digits are no more than its first one allows
allowed_digits : (digits rest : List ℕ) → ((length digits ≤ 2) ⊎ ((length digits ≡ 3) × ((digit : ℕ) (more : List ℕ) → digits ≡ digit ∷ more → digit ≤ 51))) → length digits ≤ most_octal_digits (digits ++ rest)
allowed_digits [] rest short = omega arith
allowed_digits (first ∷ digits) rest short =
    let most = most_cases (first ∷ (digits ++ rest)) in
    ⊎_elim (λ two. omega arith) (λ three. omega (arith, three.0, most_low first (digits ++ rest) (three.1 first digits refl))) short

le_octal_len : (digits rest : List ℕ) → AllPass is_octal_digit digits → length digits ≤ most_octal_digits (digits ++ rest) → length digits ≤ octal_len (digits ++ rest)
le_octal_len digits rest octal allowed =
    let whole = digits ++ rest in
    let most = most_octal_digits whole in
    le_prefix_len is_octal_digit (take most whole) (length digits) (omega (arith, length-take most whole, length-append digits rest, allowed))
    (λ i below.
    let within : i < most = omega arith in
    ap is_octal_digit (get_or-take most whole i 0 within ∙ get_or_append_left digits rest 0 i below) ∙ All-get_or (λ byte. is_octal_digit byte ≡ true) digits i 0 below octal)

pub record FitsOctal (text : List ℕ) (n : ℕ) : Type 0 where
  pub first : get_or text 0 0 ≡ 92
  pub second : is_octal_digit (get_or text 1 0) ≡ true
  pub some : 2 ≤ n
  pub most : n ≤ octal_len (drop 1 text) + 1

first_octal : (digits rest : List ℕ) → digits ≢ [] → AllPass is_octal_digit digits → (0 < length digits) × (is_octal_digit (get_or (digits ++ rest) 0 0) ≡ true)
first_octal [] rest some octal = absurd (some refl)
first_octal (first ∷ digits) rest some octal = (omega arith, octal 0 0 (omega arith))

pub octal_fits : (text : List ℕ) (n : ℕ) → IsFrontOf IsOctalEscape text n → FitsOctal text n
octal_fits text n front =
    let cut = cut_of IsOctalEscape text n front in
    let escape = cut.is_such in
    let digits = escape.digits in
    let whole : text ≡ 92 ∷ (digits ++ cut.rest) = cut.parts ∙ ap (λ xs. xs ++ cut.rest) escape.parts in
    let begin = first_octal digits cut.rest escape.some escape.octal in
    let least = le_octal_len digits cut.rest escape.octal (allowed_digits digits cut.rest escape.short) in
    let size : n ≡ length digits + 1 = omega (arith, cut.size, ap length escape.parts) in
    record {
      first = ap (λ xs. get_or xs 0 0) whole;
      second = ap (λ xs. is_octal_digit (get_or xs 1 0)) whole ∙ begin.1;
      some = omega (arith, begin.0);
      most = omega (arith, least, ap (λ xs. octal_len (drop 1 xs)) whole);
    }

octal_run : (tail : List ℕ) → AllPass is_octal_digit (take (octal_len tail) tail)
octal_run tail =
    let most = most_octal_digits tail in
    let fewer : octal_len tail ≤ most = omega (arith, prefix_len-le-length is_octal_digit (take most tail), length-take most tail) in
    subst (λ xs. AllPass is_octal_digit xs) (take-take (octal_len tail) most tail fewer) (run_passes is_octal_digit (take most tail))

short_run : (tail : List ℕ) → let digits = take (octal_len tail) tail in (length digits ≤ 2) ⊎ ((length digits ≡ 3) × ((digit : ℕ) (more : List ℕ) → digits ≡ digit ∷ more → digit ≤ 51))
short_run [] = inl (omega arith)
short_run (first ∷ rest) =
    let tail = first ∷ rest in
    let most = most_octal_digits tail in
    let n = octal_len tail in
    let fewer : n ≤ most = omega (arith, prefix_len-le-length is_octal_digit (take most tail), length-take most tail) in
    let size = length-take n tail in
    ⊎_elim
    (λ two. inl (omega (arith, two, size)))
    (λ three. inr (
      omega (arith, three, size, most_cases tail, prefix_len-le-length is_octal_digit (take most tail), length-take most tail),
      λ digit more is.
          let three_allowed : most ≡ 3 = omega (arith, three, fewer, (most_cases tail).1) in
          let some : 0 < n = omega (arith, three) in
          let same : first ≡ digit = sym (get_or-take n tail 0 0 some) ∙ ap (λ xs. get_or xs 0 0) is in
          omega (arith, same, most_three first rest three_allowed),
    ))
    (cases_lt n 3)

-- the digits that the code counts make an escape, and no other is longer
digits_follow : (text : List ℕ) (other count : ℕ) → 0 < length text → count ≡ octal_len (drop 1 text) → 0 < other → AllPass is_octal_digit (drop other (take (count + 1) text))
digits_follow text other count some counted begun =
    let tail = drop 1 text in
    let P = λ (byte : ℕ). is_octal_digit byte ≡ true in
    let whole : text ≡ get_or text 0 0 ∷ tail = drop_more text 0 0 some in
    let longer : count + 1 ≡ suc (octal_len tail) = omega (arith, counted) in
    let later : other ≡ suc (other - 1) = omega arith in
    let same : drop other (take (count + 1) text) ≡ drop (other - 1) (take (octal_len tail) tail) =
    ap (λ k. drop other (take k text)) longer ∙ ap (λ k. drop k (take (suc (octal_len tail)) text)) later ∙ ap (λ xs. drop (suc (other - 1)) (take (suc (octal_len tail)) xs)) whole in
    subst (λ xs. AllPass is_octal_digit xs) (sym same) (All-drop P (other - 1) (take (octal_len tail) tail) (octal_run tail))

some_digits : (text : List ℕ) (n : ℕ) → length text ≡ n → 0 < n → text ≢ []
some_digits text n size some = λ is. absurd (omega (arith, size, some, ap length is))

pub octal_longest : (text : List ℕ) (count : ℕ) → 0 < length text → get_or text 0 0 ≡ 92 → 0 < count → count ≡ octal_len (drop 1 text) → IsLongestFront IsOctalEscape text (count + 1)
octal_longest text count some first some_digit counted =
    let tail = drop 1 text in
    let n = octal_len tail in
    let digits = take n tail in
    let within : n ≤ length tail = omega (arith, prefix_len-le-length is_octal_digit (take (most_octal_digits tail) tail), length-take (most_octal_digits tail) tail) in
    let size : length digits ≡ n = length-take-le n tail within in
    let whole : text ≡ (92 ∷ digits) ++ drop n tail =
    drop_more text 0 0 some ∙ ap (λ byte. byte ∷ tail) first ∙ ap (λ xs. 92 ∷ xs) (sym (take-append-drop n tail)) in
    let escape : IsOctalEscape (92 ∷ digits) = record {
      digits = digits;
      parts = refl;
      octal = octal_run tail;
      some = some_digits digits n size (omega (arith, some_digit, counted));
      short = short_run tail;
    } in
    record {
      front = front_of IsOctalEscape text (92 ∷ digits) (drop n tail) (count + 1) whole escape (omega (arith, size, counted));
      longest = λ other front. omega (arith, (octal_fits text other front).most, counted);
      digits = λ other front. digits_follow text other count some counted (omega (arith, (octal_fits text other front).some));
    }

pub octal_none : (text : List ℕ) (count : ℕ) → count ≡ octal_len (drop 1 text) → (get_or text 0 0 ≡ 92 → count ≡ 0) → HasNoFrontOf IsOctalEscape text
octal_none text count counted fails n front =
    let fits = octal_fits text n front in
    omega (arith, fits.some, fits.most, counted, fails fits.first)

-- the same behind the first byte, as a slice
pub octal_behind : (text : List ℕ) (count : ℕ) → count ≡ octal_len (take (length text - 1) (drop 1 text)) → count ≡ octal_len (drop 1 text)
octal_behind text count counted = counted ∙ ap octal_len (take_rest text 1)
