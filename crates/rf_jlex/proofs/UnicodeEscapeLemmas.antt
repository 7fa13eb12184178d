-- The Unicode escape at the front of a text: a run of `u`, and the code of four hexadecimal digits.
use Rattle.std.proofs.Common.{◌≡◌, ◌≢◌, ℕ, ◌+◌, ◌-◌, ◌<◌, ◌≤◌, Bool, true, false, ◌==◌, List, [], ◌∷◌, ◌++◌, length, take, drop, get_or, Option, Some, None, Contains, refl, sym, ap, ◌∙◌, subst, arith, append_assoc, length-append}
use Rattle.std.specs.List.{AllPass, list_any, prefix_len}
use Rattle.std.proofs.lemmas.Bool.{cond-true, cond-false, eqb-true, false≢true}
use Rattle.std.proofs.lemmas.Bool.Decides.{Decides-eqb}
use Rattle.std.proofs.lemmas.List.{take-append-drop, drop_at, take_rest, drop_more, get_or-take, length-take-le}
use Rattle.std.proofs.lemmas.List.Elements.{All-head, All-tail}
use Rattle.std.proofs.lemmas.List.Folds.{list_any_at}
use Rattle.std.proofs.lemmas.Map.Views.{Contains-from_any}
use Rattle.std.proofs.lemmas.List.Sums.{prefix_len_passes, prefix_len-le-length}
use Rattle.rf_jtree.specs.Digits.{is_hex_digit}
use Rattle.rf_jtree.specs.Escapes.{code_of, IsUnicodeEscape}
use Rattle.rf_jlex.specs.EscapeFronts.{IsFrontOf, HasNoFrontOf, hex_code, GivesOnlyFront}
use Rattle.rf_jlex.proofs.FrontOfLemmas.{cut_of, front_of}
use Rattle.rf_jlex.proofs.HexLemmas.{coded, hex_code-digits}

abbrev is_u : ℕ → Bool
is_u byte = byte == 117

-- a digit is no `u`
hex_no_u : (byte : ℕ) → is_hex_digit byte ≡ true → is_u byte ≡ false
hex_no_u byte hex =
    elim (is_u byte) as (λ b. is_u byte ≡ b → b ≡ false)
    [ true ↦ λ is. absurd (false≢true (sym (ap is_hex_digit (eqb-true byte 117 is)) ∙ hex)) | false ↦ λ is. refl ] refl

-- the run of `u` ends at the first digit
us_counted : (us rest : List ℕ) (a : ℕ) → AllPass is_u us → is_hex_digit a ≡ true → prefix_len is_u (us ++ a ∷ rest) ≡ length us
us_counted [] rest a all_u hex = cond-false (is_u a) _ _ (hex_no_u a hex)
us_counted (byte ∷ us) rest a all_u hex =
    let first : is_u byte ≡ true = All-head (λ x. is_u x ≡ true) byte us all_u in
    let more = us_counted us rest a (All-tail (λ x. is_u x ≡ true) byte us all_u) hex in
    cond-true (is_u byte) _ _ first ∙ omega (arith, more)

us_pass : (text : List ℕ) → AllPass is_u (take (prefix_len is_u text) text)
us_pass text = λ k d below.
    let n = prefix_len is_u text in
    let within : k < n = omega (arith, below, length-take-le n text (prefix_len-le-length is_u text)) in
    ap is_u (get_or-take n text k d within) ∙ prefix_len_passes is_u text k d within

-- what the code looks at behind the first byte of a text: a run of so many `u`, and a code
pub record Reads (refused text : List ℕ) (count n : ℕ) : Type 0 where
  pub code : ℕ
  pub first : get_or text 0 0 ≡ 92
  pub counted : count ≡ prefix_len is_u (drop 1 text)
  pub some_u : 0 < count
  pub found : hex_code (drop count (drop 1 text)) ≡ Some code
  pub allowed : ¬ Contains refused code
  pub size : n ≡ count + 5

length_some : (us : List ℕ) → us ≢ [] → 0 < length us
length_some [] some = absurd (some refl)
length_some (byte ∷ us) some = omega arith

reads_escape : (refused text piece rest : List ℕ) (count n : ℕ) → count ≡ prefix_len is_u (drop 1 text) → text ≡ piece ++ rest → length piece ≡ n → IsUnicodeEscape refused piece → Reads refused text count n
reads_escape refused text piece rest count n counted parts size escape =
    let us = escape.us in
    let more = escape.a ∷ escape.b ∷ escape.c ∷ escape.d ∷ rest in
    let digits = escape.a ∷ escape.b ∷ escape.c ∷ escape.d ∷ [] in
    let whole : text ≡ 92 ∷ (us ++ more) = parts ∙ ap (λ xs. xs ++ rest) escape.parts ∙ ap (λ xs. 92 ∷ xs) (append_assoc us digits rest) in
    let tail : drop 1 text ≡ us ++ more = ap (drop 1) whole in
    let same : count ≡ length us = counted ∙ ap (prefix_len is_u) tail ∙ us_counted us (escape.b ∷ escape.c ∷ escape.d ∷ rest) escape.a escape.all_u (All-head (λ byte. is_hex_digit byte ≡ true) escape.a (escape.b ∷ escape.c ∷ escape.d ∷ []) escape.hex) in
    let behind : drop count (drop 1 text) ≡ more = ap (drop count) tail ∙ drop_at us more count (sym same) in
    record {
      code = code_of escape.a escape.b escape.c escape.d;
      first = ap (λ xs. get_or xs 0 0) whole;
      counted = counted;
      some_u = omega (arith, length_some us escape.some_u);
      found = ap hex_code behind ∙ hex_code-digits escape.a escape.b escape.c escape.d rest escape.hex;
      allowed = escape.allowed;
      size = omega (arith, ap length escape.parts, length-append us digits);
    }

pub reads_front : (refused text : List ℕ) (count n : ℕ) → count ≡ prefix_len is_u (drop 1 text) → IsFrontOf (IsUnicodeEscape refused) text n → Reads refused text count n
reads_front refused text count n counted front =
    let cut = cut_of (IsUnicodeEscape refused) text n front in
    reads_escape refused text cut.piece cut.rest count n counted cut.parts cut.size cut.is_such

take_some : (us : List ℕ) (count : ℕ) → length us ≡ count → 0 < count → us ≢ []
take_some us count size some = λ is. absurd (omega (arith, ap length is))

pub front_read : (refused text : List ℕ) (count n : ℕ) → 0 < length text → Reads refused text count n → IsFrontOf (IsUnicodeEscape refused) text n
front_read refused text count n some reads =
    let tail = drop 1 text in
    let us = take count tail in
    let digits = coded (drop count tail) reads.code reads.found in
    let four = digits.a ∷ digits.b ∷ digits.c ∷ digits.d ∷ [] in
    let within : count ≤ length tail = omega (arith, reads.counted, prefix_len-le-length is_u tail) in
    let size : length us ≡ count = length-take-le count tail within in
    let split : tail ≡ us ++ (digits.a ∷ digits.b ∷ digits.c ∷ digits.d ∷ digits.rest) = sym (take-append-drop count tail) ∙ ap (λ xs. us ++ xs) digits.parts in
    let whole : text ≡ 92 ∷ (us ++ (four ++ digits.rest)) = drop_more text 0 0 some ∙ ap (λ byte. byte ∷ tail) reads.first ∙ ap (λ xs. 92 ∷ xs) split in
    let all_u : AllPass is_u us = subst (λ k. AllPass is_u (take k tail)) (sym reads.counted) (us_pass tail) in
    let escape : IsUnicodeEscape refused (92 ∷ (us ++ four)) = record {
      us = us;
      a = digits.a;
      b = digits.b;
      c = digits.c;
      d = digits.d;
      parts = refl;
      some_u = take_some us count size reads.some_u;
      all_u = all_u;
      hex = digits.hex;
      allowed = subst (λ code. ¬ Contains refused code) digits.is_code reads.allowed;
    } in
    front_of (IsUnicodeEscape refused) text (92 ∷ (us ++ four)) digits.rest n
    (whole ∙ ap (λ xs. 92 ∷ xs) (sym (append_assoc us four digits.rest)))
    escape
    (omega (arith, length-append us four, size, reads.size))

-- the same behind the first byte, as a slice
pub counted_behind : (text : List ℕ) (count : ℕ) → count ≡ prefix_len is_u (take (length text - 1) (drop 1 text)) → count ≡ prefix_len is_u (drop 1 text)
counted_behind text count counted = counted ∙ ap (prefix_len is_u) (take_rest text 1)

pub behind_us : (text : List ℕ) (count : ℕ) → take (length (take (length text - 1) (drop 1 text)) - count) (drop count (take (length text - 1) (drop 1 text))) ≡ drop count (drop 1 text)
behind_us text count = take_rest (take (length text - 1) (drop 1 text)) count ∙ ap (drop count) (take_rest text 1)

-- no front, where one of the tests fails
pub none_not_begun : (refused text : List ℕ) (count n : ℕ) → count ≡ prefix_len is_u (drop 1 text) → (get_or text 0 0 ≡ 92 → count ≡ 0) → IsFrontOf (IsUnicodeEscape refused) text n → ⊥
none_not_begun refused text count n counted fails front =
    let reads = reads_front refused text count n counted front in
    let zero = fails reads.first in
    let some = reads.some_u in
    omega arith

pub none_not_coded : (refused text : List ℕ) (count n : ℕ) → count ≡ prefix_len is_u (drop 1 text) → None ≡ hex_code (drop count (drop 1 text)) → IsFrontOf (IsUnicodeEscape refused) text n → ⊥
none_not_coded refused text count n counted none front =
    let found = (reads_front refused text count n counted front).found in
    cc

pub none_refused : (refused text : List ℕ) (count code n : ℕ) → count ≡ prefix_len is_u (drop 1 text) → Some code ≡ hex_code (drop count (drop 1 text)) → Contains refused code → IsFrontOf (IsUnicodeEscape refused) text n → ⊥
none_refused refused text count code n counted found has front =
    let reads = reads_front refused text count n counted front in
    let same : code ≡ reads.code = let also = reads.found in cc in
    reads.allowed (subst (λ k. Contains refused k) same has)

pub only_front : (refused text : List ℕ) (count code : ℕ) → 0 < length text → get_or text 0 0 ≡ 92 → 0 < count → count ≡ prefix_len is_u (drop 1 text) → Some code ≡ hex_code (drop count (drop 1 text)) → ¬ Contains refused code
    → GivesOnlyFront (IsUnicodeEscape refused) text (Some (count + 5))
only_front refused text count code some first some_u counted found allowed = (
  front_read refused text count (count + 5) some (record { code = code; first = first; counted = counted; some_u = some_u; found = sym found; allowed = allowed; size = refl }),
  λ other front. (reads_front refused text count other counted front).size,
)

pub gives_none : (P : List ℕ → Type 0) (text : List ℕ) (result : Option ℕ) → result ≡ None → HasNoFrontOf P text → GivesOnlyFront P text result
gives_none P text result is none = subst (GivesOnlyFront P text) (sym is) none

-- what the test of a list of codes says
pub Contains-from_test : (refused : List ℕ) (code : ℕ) → list_any (λ y. y == code) refused ≡ true → Contains refused code
Contains-from_test refused code is = Contains-from_any {eq = λ (x y : ℕ). y == x} (λ x y same. sym (eqb-true y x same)) code refused is

pub not_Contains-from_test : (refused : List ℕ) (code : ℕ) → list_any (λ y. y == code) refused ≡ false → ¬ Contains refused code
not_Contains-from_test refused code is has = false≢true (sym is ∙ list_any_at (λ y. y == code) refused has.0 code has.1 ((Decides-eqb _ code).1 has.2))
