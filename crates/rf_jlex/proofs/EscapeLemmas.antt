-- The longest escape at the front of a text, by the byte behind `\`.
use Rattle.std.proofs.Common.{◌≡◌, ◌≢◌, ℕ, ◌<◌, ◌≤◌, true, not, ◌==◌, List, [], ◌∷◌, ◌++◌, length, take, drop, get_or, Option, Some, None, Contains, refl, sym, ap, ◌∙◌, subst, arith, append_assoc, length-append, length-drop, length-take}
use Rattle.std.specs.List.{AllPass}
use Rattle.std.proofs.lemmas.Bool.{false≢true, not-true, eqb-true, eq-eqb}
use Rattle.std.proofs.lemmas.List.{drop_more, take-append-drop, length-take-le}
use Rattle.std.proofs.lemmas.List.Elements.{All-contains}
use Rattle.std.proofs.lemmas.List.Sums.{AllPass-from_list_all}
use Rattle.rf_jtree.specs.Digits.{is_octal_digit}
use Rattle.rf_jtree.specs.Escapes.{SIMPLE_ESCAPES, IsEscape, IsOctalEscape, IsUnicodeEscape, simple, octal, unicode}
use Rattle.rf_jlex.specs.EscapeFronts.{IsFrontOf, HasNoFrontOf, GivesOnlyFront, IsLongestFront, GivesLongestFront}
use Rattle.rf_jlex.proofs.FrontOfLemmas.{front_of}
use Rattle.rf_jlex.proofs.OctalEscapeLemmas.{octal_fits}

-- the sort of an escape at the front of a text
pub data Sort (refused text : List ℕ) (n : ℕ) : Type 0 where
  as_simple : Contains SIMPLE_ESCAPES (get_or text 1 0) → n ≡ 2 → Sort refused text n
  as_octal : is_octal_digit (get_or text 1 0) ≡ true → IsFrontOf IsOctalEscape text n → Sort refused text n
  as_unicode : get_or text 1 0 ≡ 117 → IsFrontOf (IsUnicodeEscape refused) text n → Sort refused text n

-- an escape begins with `\` and has a byte behind it, which says its sort
pub record Sorted (refused text : List ℕ) (n : ℕ) : Type 0 where
  pub first : get_or text 0 0 ≡ 92
  pub long : 2 ≤ length text
  pub some : 2 ≤ n
  pub sort : Sort refused text n

first_u : (us more : List ℕ) → us ≢ [] → AllPass (λ byte. byte == 117) us → (0 < length us) × (get_or (us ++ more) 0 0 ≡ 117)
first_u [] more some all_u = absurd (some refl)
first_u (byte ∷ us) more some all_u = (omega arith, eqb-true byte 117 (all_u 0 0 (omega arith)))

module _ (refused text : List ℕ) (n : ℕ) (front : IsFrontOf (IsEscape refused) text n) where
  whole_of : (piece : List ℕ) → take n text ≡ piece → text ≡ piece ++ drop n text
  whole_of piece is = sym (take-append-drop n text) ∙ ap (λ xs. xs ++ drop n text) is

  size_of : (piece : List ℕ) → take n text ≡ piece → n ≡ length piece
  size_of piece is = sym (length-take-le n text front.within) ∙ ap length is

  sorted_simple : (byte : ℕ) → take n text ≡ 92 ∷ byte ∷ [] → Contains SIMPLE_ESCAPES byte → Sorted refused text n
  sorted_simple byte is has =
      let whole = whole_of (92 ∷ byte ∷ []) is in
      let size : n ≡ 2 = size_of (92 ∷ byte ∷ []) is in
      let second : get_or text 1 0 ≡ byte = ap (λ xs. get_or xs 1 0) whole in
      record {
        first = ap (λ xs. get_or xs 0 0) whole;
        long = omega (arith, front.within);
        some = omega arith;
        sort = as_simple (subst (λ x. Contains SIMPLE_ESCAPES x) (sym second) has) size;
      }

  sorted_octal : IsOctalEscape (take n text) → Sorted refused text n
  sorted_octal escape =
      let here : IsFrontOf IsOctalEscape text n = record { within = front.within; is_such = escape } in
      let fits = octal_fits text n here in
      record { first = fits.first; long = omega (arith, fits.some, front.within); some = fits.some; sort = as_octal fits.second here }

  sorted_unicode : IsUnicodeEscape refused (take n text) → Sorted refused text n
  sorted_unicode escape =
      let four = escape.a ∷ escape.b ∷ escape.c ∷ escape.d ∷ [] in
      let piece = 92 ∷ (escape.us ++ four) in
      let whole = whole_of piece escape.parts in
      let more = first_u escape.us (four ++ drop n text) escape.some_u escape.all_u in
      let second : get_or text 1 0 ≡ 117 = ap (λ xs. get_or xs 1 0) whole ∙ ap (λ xs. get_or xs 0 0) (append_assoc escape.us four (drop n text)) ∙ more.1 in
      let some : 2 ≤ n = omega (arith, size_of piece escape.parts, length-append escape.us four, more.0) in
      record {
        first = ap (λ xs. get_or xs 0 0) whole;
        long = omega (arith, front.within);
        some = some;
        sort = as_unicode second (record { within = front.within; is_such = escape });
      }

  pub sorted : Sorted refused text n
  sorted = elim front.is_such [ simple byte is has ↦ sorted_simple byte is has | octal escape ↦ sorted_octal escape | unicode escape ↦ sorted_unicode escape ]

-- no byte is of two sorts
simple_not_octal : (byte : ℕ) → Contains SIMPLE_ESCAPES byte → is_octal_digit byte ≡ true → ⊥
simple_not_octal byte has digit =
    let none : AllPass (λ x. not (is_octal_digit x)) SIMPLE_ESCAPES = AllPass-from_list_all (λ x. not (is_octal_digit x)) SIMPLE_ESCAPES refl in
    let other : not (is_octal_digit byte) ≡ true = All-contains (λ x. not (is_octal_digit x) ≡ true) SIMPLE_ESCAPES byte none has in
    false≢true (sym (not-true (is_octal_digit byte) other) ∙ digit)

simple_not_u : (byte : ℕ) → Contains SIMPLE_ESCAPES byte → byte ≡ 117 → ⊥
simple_not_u byte has is =
    let none : AllPass (λ x. not (x == 117)) SIMPLE_ESCAPES = AllPass-from_list_all (λ x. not (x == 117)) SIMPLE_ESCAPES refl in
    let other : not (byte == 117) ≡ true = All-contains (λ x. not (x == 117) ≡ true) SIMPLE_ESCAPES byte none has in
    false≢true (sym (not-true (byte == 117) other) ∙ eq-eqb byte 117 is)

octal_not_u : (byte : ℕ) → is_octal_digit byte ≡ true → byte ≡ 117 → ⊥
octal_not_u byte digit is = false≢true (sym (ap is_octal_digit is) ∙ digit)

-- nothing is left of a front behind it
none_left : (text : List ℕ) (n other : ℕ) → n ≤ other → AllPass is_octal_digit (drop other (take n text))
none_left text n other more = λ k d below. absurd (omega (arith, below, length-drop other (take n text), length-take n text))

pub no_escape : (refused text : List ℕ) → (get_or text 0 0 ≡ 92 → 2 ≤ length text → ⊥) → HasNoFrontOf (IsEscape refused) text
no_escape refused text fails n front = let s = sorted refused text n front in fails s.first s.long

pub simple_longest : (refused text : List ℕ) → get_or text 0 0 ≡ 92 → 2 ≤ length text → Contains SIMPLE_ESCAPES (get_or text 1 0) → IsLongestFront (IsEscape refused) text 2
simple_longest refused text first long has =
    let byte = get_or text 1 0 in
    let whole : text ≡ (92 ∷ byte ∷ []) ++ drop 2 text = drop_more text 0 0 (omega arith) ∙ ap (λ xs. get_or text 0 0 ∷ xs) (drop_more text 1 0 (omega arith)) ∙ ap (λ x. x ∷ byte ∷ drop 2 text) first in
    let only = λ (other : ℕ) (front : IsFrontOf (IsEscape refused) text other).
    let goal : other ≡ 2 = elim (sorted refused text other front).sort [ as_simple x size ↦ size | as_octal digit x ↦ absurd (simple_not_octal byte has digit) | as_unicode is x ↦ absurd (simple_not_u byte has is) ] in goal in
    record {
      front = front_of (IsEscape refused) text (92 ∷ byte ∷ []) (drop 2 text) 2 whole (simple byte refl has) refl;
      longest = λ other front. omega (arith, only other front);
      digits = λ other front. none_left text 2 other (omega (arith, only other front));
    }

pub unicode_longest : (refused text : List ℕ) (result : Option ℕ) → get_or text 1 0 ≡ 117 → GivesOnlyFront (IsUnicodeEscape refused) text result → GivesLongestFront (IsEscape refused) text result
unicode_longest refused text None is gives = λ n front.
    elim (sorted refused text n front).sort [ as_simple has size ↦ simple_not_u (get_or text 1 0) has is | as_octal digit x ↦ octal_not_u (get_or text 1 0) digit is | as_unicode x here ↦ gives n here ]
unicode_longest refused text (Some n) is gives =
    let only = λ (other : ℕ) (front : IsFrontOf (IsEscape refused) text other).
    let goal : other ≡ n = elim (sorted refused text other front).sort
    [ as_simple has size ↦ absurd (simple_not_u (get_or text 1 0) has is) | as_octal digit x ↦ absurd (octal_not_u (get_or text 1 0) digit is) | as_unicode x here ↦ gives.1 other here ] in goal in
    record {
      front = record { within = gives.0.within; is_such = unicode gives.0.is_such };
      longest = λ other front. omega (arith, only other front);
      digits = λ other front. none_left text n other (omega (arith, only other front));
    }

pub octal_escape_longest : (refused text : List ℕ) (result : Option ℕ) → ¬ Contains SIMPLE_ESCAPES (get_or text 1 0) → (get_or text 1 0 ≡ 117 → ⊥) → GivesLongestFront IsOctalEscape text result → GivesLongestFront (IsEscape refused) text result
octal_escape_longest refused text None not_simple not_u gives = λ n front.
    elim (sorted refused text n front).sort [ as_simple has size ↦ not_simple has | as_octal digit here ↦ gives n here | as_unicode is x ↦ not_u is ]
octal_escape_longest refused text (Some n) not_simple not_u gives =
    let here = λ (other : ℕ) (front : IsFrontOf (IsEscape refused) text other).
    let goal : IsFrontOf IsOctalEscape text other = elim (sorted refused text other front).sort
    [ as_simple has size ↦ absurd (not_simple has) | as_octal digit x ↦ x | as_unicode is x ↦ absurd (not_u is) ] in goal in
    record {
      front = record { within = gives.front.within; is_such = octal gives.front.is_such };
      longest = λ other front. gives.longest other (here other front);
      digits = λ other front. gives.digits other (here other front);
    }
