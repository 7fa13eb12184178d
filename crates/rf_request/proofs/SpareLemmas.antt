-- Names, each listed once.
use Rattle.std.proofs.Common.{◌≡◌, ◌∙◌, ap, sym, refl, ℕ, zero, suc, Bool, true, false, not, ◌||◌, List, [], ◌∷◌, ◌++◌, Contains, Option, Some, None, MatchOption, slice_get, if◌then◌else◌, true≢false, arith}
use Rattle.std.specs.Option.{is_some}
use Rattle.std.specs.Str.{bytes_eq}
use Rattle.std.proofs.lemmas.Option.{slice_get_within, get_or_from_slice_get}
use Rattle.std.proofs.lemmas.Slice.Eq.{bytes_eq-Decides}
use Rattle.rf_request.specs.Opened.{is_among, with_new}

abbrev Words : Type 0
Words = List (List ℕ)

either_true : (a b : Bool) → a ≡ true → (a || b) ≡ true
either_true true b is = refl
either_true false b is = absurd (true≢false (sym is))

or_true : (a b : Bool) → b ≡ true → (a || b) ≡ true
or_true true b is = refl
or_true false b is = is

listed : (word : List ℕ) (words : Words) → is_among word words ≡ true → Contains words word
listed word [] is = absurd (true≢false (sym is))
listed word (other ∷ words) is = by (bytes_eq other word) refl (listed word words) is
  where
    by : (b : Bool) → bytes_eq other word ≡ b → (is_among word words ≡ true → Contains words word) → (b || is_among word words) ≡ true → Contains (other ∷ words) word
    by true same more is = (0, omega arith, (bytes_eq-Decides other word).0 same)
    by false same more is =
        let rest = more is in
        (suc rest.0, omega (arith, rest.1), rest.2)

among : (word : List ℕ) (words : Words) → Contains words word → is_among word words ≡ true
among word [] (k, within, is) = absurd (omega (arith, within))
among word (other ∷ words) (zero, within, is) = either_true (bytes_eq other word) (is_among word words) ((bytes_eq-Decides other word).1 is)
among word (other ∷ words) (suc k, within, is) = or_true (bytes_eq other word) (is_among word words) (among word words (k, omega (arith, within), is))

one_word : (before : Words) (word : List ℕ) (words : Words) (b : Bool) → is_among word before ≡ b →
    with_new before (word ∷ words) ≡ with_new (if b then before else before ++ word ∷ []) words
one_word before word words b is = ap (λ (b : Bool). with_new (if b then before else before ++ word ∷ []) words) is

pub old_word : (before : Words) (word : List ℕ) (words : Words) → Contains before word → with_new before (word ∷ words) ≡ with_new before words
old_word before word words has = one_word before word words true (among word before has)

pub new_word : (before : Words) (word : List ℕ) (words : Words) → ¬ Contains before word → with_new before (word ∷ words) ≡ with_new (before ++ word ∷ []) words
new_word before word words fresh = one_word before word words false (by (is_among word before) refl)
  where
    by : (b : Bool) → is_among word before ≡ b → is_among word before ≡ false
    by true is = absurd (fresh (listed word before is))
    by false is = is

-- what looking a word up tells
pub none_of : {X : Type 0} (found : Option X) (P : Type 0) (Q : X → Type 0) (fresh : Bool) → is_some found ≡ not fresh → fresh ≡ true → MatchOption found P Q → P
none_of None P Q fresh is holds answer = answer
none_of (Some x) P Q fresh is holds answer = absurd (true≢false (is ∙ ap not holds))

pub known_by : {X : Type 0} (number : X → ℕ) (found : Option X) (names : Words) (word : List ℕ) (fresh : Bool) → is_some found ≡ not fresh → fresh ≡ false →
    MatchOption found (¬ Contains names word) (λ place. slice_get names (number place) ≡ Some word) → Contains names word
known_by number None names word fresh is fails answer = absurd (true≢false (sym (is ∙ ap not fails)))
known_by number (Some place) names word fresh is fails answer =
    (number place, slice_get_within names (number place) word answer, get_or_from_slice_get names (number place) word word answer)
