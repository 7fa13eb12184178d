-- The longest front of a text that passes a test, the name that a text begins with, and a word that it begins with.
use Rattle.std.proofs.Common.{◌≡◌, ℕ, Bool, true, false, ◌==◌, cond, List, [], ◌∷◌, ◌++◌, length, take, drop, get_or, Option, Some, None, is_none, Contains, Decides, refl, ap, sym, ◌∙◌, subst}
use Rattle.std.specs.List.{AllPass, list_any}
use Rattle.std.specs.Str.{bytes_eq}
use Rattle.std.proofs.lemmas.Bool.{false≢true}
use Rattle.std.proofs.lemmas.Bool.Decides.{Decides-and, Decides-not, Decides-like}
use Rattle.std.proofs.lemmas.List.{take_at, drop_at, take-append-drop}
use Rattle.std.proofs.lemmas.List.Elements.{All-nil, All-cons, All-head, All-tail}
use Rattle.std.proofs.lemmas.List.Folds.{list_any_at}
use Rattle.std.proofs.lemmas.List.Sums.{AllPass-from_list_all, list_all-from_AllPass}
use Rattle.std.proofs.lemmas.Map.Views.{Contains-from_any}
use Rattle.std.proofs.lemmas.Slice.Eq.{bytes_eq-Decides}
use Rattle.rf_jtree.specs.Words.{keyword_of}
use Rattle.rf_engine.specs.Words.{is_letter_or_digit, BeginsWithLetter, LITERAL_WORDS, IsName}
use Rattle.rf_engine.specs.Scan.{Stops, IsLongestFront, BeginsWithName, front_of, begins_with_letter, is_name, name_of, after_word}

-- a text that begins with a byte that passes doesn't stop
goes_on : (test : ℕ → Bool) (text : List ℕ) (byte : ℕ) (bytes : List ℕ) → text ≡ byte ∷ bytes → Stops test text → test byte ≡ true → ⊥
goes_on test text byte bytes is stops passes = false≢true (sym (subst (Stops test) is stops) ∙ passes)

-- two fronts of one text that pass as far as they can are one
pub same_front : (test : ℕ → Bool) (front rest other left : List ℕ) → front ++ rest ≡ other ++ left → AllPass test front → Stops test rest → AllPass test other → Stops test left → (front ≡ other) × (rest ≡ left)
same_front test [] rest [] left same passes stops also_passes also_stops = (refl, same)
same_front test [] rest (byte ∷ other) left same passes stops also_passes also_stops =
    absurd (goes_on test rest byte (other ++ left) same stops (All-head (λ x. test x ≡ true) byte other also_passes))
same_front test (byte ∷ front) rest [] left same passes stops also_passes also_stops =
    absurd (goes_on test left byte (front ++ rest) (sym same) also_stops (All-head (λ x. test x ≡ true) byte front passes))
same_front test (first ∷ front) rest (byte ∷ other) left same passes stops also_passes also_stops =
    let tails : front ++ rest ≡ other ++ left = cc in
    let further = same_front test front rest other left tails (All-tail (λ x. test x ≡ true) first front passes) stops (All-tail (λ x. test x ≡ true) byte other also_passes) also_stops in
    let fronts : front ≡ other = further.0 in
    (cc, further.1)

-- the longest front of letters and digits is the name that the text begins with, if there is one
pub name_is_front : (text front rest name left : List ℕ) → IsLongestFront is_letter_or_digit text front rest → BeginsWithName text name left → (front ≡ name) × (rest ≡ left)
name_is_front text front rest name left longest begins =
    same_front is_letter_or_digit front rest name left (sym longest.whole ∙ begins.whole) longest.passes longest.stops begins.is_name.goes_on begins.stops

-- a word is found where the text begins with it, and nowhere else
pub after_word-append : (word rest : List ℕ) → after_word word (word ++ rest) ≡ Some rest
unfolding after_word
after_word-append word rest =
    let front : take (length word) (word ++ rest) ≡ word = take_at word rest (length word) refl in
    let left : drop (length word) (word ++ rest) ≡ rest = drop_at word rest (length word) refl in
    let same : bytes_eq word word ≡ true = (bytes_eq-Decides word word).1 refl in
    rw (front, left, same)

pub after_word-other : (first : ℕ) (word : List ℕ) (other : ℕ) (text : List ℕ) → (other == first) ≡ false → after_word (first ∷ word) (other ∷ text) ≡ None
unfolding after_word
after_word-other first word other text differs = rw differs

word_found : (test : Bool) (word text rest : List ℕ) → test ≡ bytes_eq (take (length word) text) word → cond test (Some (drop (length word) text)) None ≡ Some rest → text ≡ word ++ rest
word_found true word text rest is gives =
    let front : take (length word) text ≡ word = (bytes_eq-Decides (take (length word) text) word).0 (sym is) in
    let left : drop (length word) text ≡ rest = cc in
    sym (take-append-drop (length word) text) ∙ cc
word_found false word text rest is gives = cc

pub after_word-Some : (word text rest : List ℕ) → after_word word text ≡ Some rest → text ≡ word ++ rest
unfolding after_word
after_word-Some word text rest gives = word_found (bytes_eq (take (length word) text) word) word text rest refl gives

-- one more byte: it passes and goes to the front, or the front ends before it
longest_more : (test : ℕ → Bool) (passes : Bool) (byte : ℕ) (bytes front rest : List ℕ) → test byte ≡ passes → IsLongestFront test bytes front rest → let cut : List ℕ × List ℕ = cond passes (byte ∷ front, rest) ([], byte ∷ bytes) in IsLongestFront test (byte ∷ bytes) cut.0 cut.1
longest_more test true byte bytes front rest is longest = record {
  whole = ap (λ tail. byte ∷ tail) longest.whole;
  passes = All-cons (λ x. test x ≡ true) byte front is longest.passes;
  stops = longest.stops;
}
longest_more test false byte bytes front rest is longest = record {
  whole = refl;
  passes = All-nil (λ x. test x ≡ true);
  stops = is;
}

pub front_of-longest : (test : ℕ → Bool) (text : List ℕ) → IsLongestFront test text (front_of test text).0 (front_of test text).1
unfolding front_of
front_of-longest test [] = record { whole = refl; passes = All-nil (λ x. test x ≡ true); stops = tt }
front_of-longest test (byte ∷ bytes) =
    longest_more test (test byte) byte bytes (front_of test bytes).0 (front_of test bytes).1 refl (front_of-longest test bytes)

both : (pair : List ℕ × List ℕ) (front rest : List ℕ) → pair.0 ≡ front → pair.1 ≡ rest → pair ≡ (front, rest)
both pair front rest at_front at_rest = let parts : (pair.0, pair.1) ≡ (front, rest) = cc in parts

-- so it is the one that passes and stops
pub front_of-is : (test : ℕ → Bool) (text front rest : List ℕ) → IsLongestFront test text front rest → front_of test text ≡ (front, rest)
front_of-is test text front rest longest =
    let found = front_of-longest test text in
    let same = same_front test (front_of test text).0 (front_of test text).1 front rest (sym found.whole ∙ longest.whole) found.passes found.stops longest.passes longest.stops in
    both (front_of test text) front rest same.0 same.1

begins_with_letter-Decides : (text : List ℕ) → Decides (begins_with_letter text) (BeginsWithLetter text)
begins_with_letter-Decides [] = (λ is. absurd (false≢true is), λ no_byte. absurd no_byte)
begins_with_letter-Decides (byte ∷ bytes) = (λ is. is, λ is. is)

literal-Decides : (text : List ℕ) → Decides (list_any (bytes_eq text) LITERAL_WORDS) (Contains LITERAL_WORDS text)
literal-Decides text = (
  Contains-from_any (λ a b. (bytes_eq-Decides a b).0) text LITERAL_WORDS,
  λ has. list_any_at (bytes_eq text) LITERAL_WORDS has.0 text has.1 ((bytes_eq-Decides text (get_or LITERAL_WORDS has.0 text)).1 (sym has.2)),
)

is_none-Decides : {A : Type 0} (o : Option A) → Decides (is_none o) (o ≡ None)
is_none-Decides None = (λ is. refl, λ is. refl)
is_none-Decides (Some x) = (λ is. absurd (false≢true is), λ is. cc)

-- `is_name` is the test of `IsName`
is_name-Decides : (text : List ℕ) → Decides (is_name text) (IsName text)
unfolding is_name
is_name-Decides text =
    let letters = Decides-and _ _ (begins_with_letter-Decides text) (AllPass-from_list_all is_letter_or_digit text, list_all-from_AllPass is_letter_or_digit text) in
    let no_keyword = Decides-and _ _ letters (is_none-Decides (keyword_of text)) in
    let no_literal = Decides-and _ _ no_keyword (Decides-not _ (literal-Decides text)) in
    Decides-like _
    (λ parts. record { begins = parts.0.0.0; goes_on = parts.0.0.1; no_keyword = parts.0.1; no_literal = parts.1 })
    (λ is. (((is.begins, is.goes_on), is.no_keyword), is.no_literal))
    no_literal

-- the name that a text begins with, whole
name_here : (named : Bool) (text front rest : List ℕ) → IsLongestFront is_letter_or_digit text front rest → Decides named (IsName front) → (cut : List ℕ × List ℕ) → cond named (Some (front, rest)) None ≡ Some cut → BeginsWithName text cut.0 cut.1
name_here true text front rest longest decides cut gives =
    let fronts : front ≡ cut.0 = cc in
    let rests : rest ≡ cut.1 = cc in
    record {
      whole = longest.whole ∙ cc;
      is_name = subst IsName fronts (decides.0 refl);
      stops = subst (Stops is_letter_or_digit) rests longest.stops;
    }
name_here false text front rest longest decides cut gives = cc

pub name_of-Some : (text : List ℕ) (cut : List ℕ × List ℕ) → name_of text ≡ Some cut → BeginsWithName text cut.0 cut.1
unfolding name_of
name_of-Some text cut gives =
    let front = front_of is_letter_or_digit text in
    name_here (is_name front.0) text front.0 front.1 (front_of-longest is_letter_or_digit text) (is_name-Decides front.0) cut gives

pub name_of-is : (text name rest : List ℕ) → BeginsWithName text name rest → name_of text ≡ Some (name, rest)
unfolding name_of
name_of-is text name rest begins =
    let front : front_of is_letter_or_digit text ≡ (name, rest) = front_of-is is_letter_or_digit text name rest (record { whole = begins.whole; passes = begins.is_name.goes_on; stops = begins.stops }) in
    let named : is_name name ≡ true = (is_name-Decides name).1 begins.is_name in
    rw (front, named)

-- what the calls of the scanner say, as these functions
pub after_word-is : (word text rest : List ℕ) → text ≡ word ++ rest → after_word word text ≡ Some rest
after_word-is word text rest is = ap (after_word word) is ∙ after_word-append word rest

pub after_word-None : (word text : List ℕ) → ((rest : List ℕ) → text ≡ word ++ rest → ⊥) → after_word word text ≡ None
after_word-None word text none =
    elim (after_word word text) as (λ found. after_word word text ≡ found → found ≡ None)
    [ None ↦ λ is. refl | Some rest ↦ λ is. absurd (none rest (after_word-Some word text rest is)) ] refl

pub name_of-None : (text : List ℕ) → ((name rest : List ℕ) → BeginsWithName text name rest → ⊥) → name_of text ≡ None
name_of-None text none =
    elim (name_of text) as (λ found. name_of text ≡ found → found ≡ None)
    [ None ↦ λ is. refl | Some cut ↦ λ is. absurd (none cut.0 cut.1 (name_of-Some text cut is)) ] refl
