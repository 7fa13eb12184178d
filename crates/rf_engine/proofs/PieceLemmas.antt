-- The pieces of a class between its blanks: what is read is there, and what is there is read.
use Rattle.std.proofs.Common.{◌≡◌, ◌≢◌, ℕ, true, false, ◌==◌, List, [], ◌∷◌, ◌++◌, Option, Some, None, refl, ap, ◌∙◌, subst, arith}
use Rattle.std.proofs.lemmas.Bool.Decides.{nat_tests}
use Rattle.std.proofs.lemmas.List.Elements.{All-head}
use Rattle.rf_engine.specs.Words.{is_blank, AreBlanks, is_letter, is_letter_or_digit, IsName}
use Rattle.rf_engine.specs.Scan.{Stops, IsLongestFront, name_of, after_word}
use Rattle.rf_engine.specs.ClassReader.{◌>>=◌, blanks_of, before_word, unless_empty, gap_of, parted_name}
use Rattle.rf_engine.proofs.ScanLemmas.{front_of-longest, front_of-is, name_of-is, name_of-Some, after_word-append, after_word-other, after_word-Some, after_word-is, after_word-None, name_of-None}

-- the two steps of a chain that gives something
pub record Chained {A B : Type 0} (first : Option A) (next : A → Option B) (given : B) : Type 0 where
  pub value : A
  pub first_gives : first ≡ Some value
  pub next_gives : next value ≡ Some given

pub chained : {A B : Type 0} (first : Option A) (next : A → Option B) (given : B) → (first >>= next) ≡ Some given → Chained first next given
chained None next given gives = cc
chained (Some value) next given gives = record { value = value; first_gives = refl; next_gives = gives }

-- blanks are read up to the first byte that is none
pub blanks_of-is : (text front rest : List ℕ) → IsLongestFront is_blank text front rest → blanks_of text ≡ (front, rest)
unfolding blanks_of
blanks_of-is text front rest longest = front_of-is is_blank text front rest longest

pub blanks_of-longest : (text : List ℕ) → IsLongestFront is_blank text (blanks_of text).0 (blanks_of text).1
unfolding blanks_of
blanks_of-longest text = front_of-longest is_blank text

pub blanks_of-append : (blanks rest : List ℕ) → AreBlanks blanks → Stops is_blank rest → blanks_of (blanks ++ rest) ≡ (blanks, rest)
blanks_of-append blanks rest are stops = blanks_of-is (blanks ++ rest) blanks rest (record { whole = refl; passes = are; stops = stops })

-- a word with blanks before it
pub before_word-append : (word blanks rest : List ℕ) → AreBlanks blanks → Stops is_blank (word ++ rest) → before_word word (blanks ++ (word ++ rest)) ≡ Some (blanks, rest)
unfolding before_word
before_word-append word blanks rest are stops = rw (blanks_of-append blanks (word ++ rest) are stops, after_word-append word rest)

pub before_word-other : (first : ℕ) (word blanks : List ℕ) (other : ℕ) (rest : List ℕ) → AreBlanks blanks → is_blank other ≡ false → (other == first) ≡ false → before_word (first ∷ word) (blanks ++ (other ∷ rest)) ≡ None
unfolding before_word
before_word-other first word blanks other rest are stops differs = rw (blanks_of-append blanks (other ∷ rest) are stops, after_word-other first word other rest differs)

pub record IsBeforeWord (word text front rest : List ℕ) : Type 0 where
  pub whole : text ≡ front ++ (word ++ rest)
  pub blanks : AreBlanks front

pub before_word-Some : (word text : List ℕ) (cut : List ℕ × List ℕ) → before_word word text ≡ Some cut → IsBeforeWord word text cut.0 cut.1
unfolding before_word
before_word-Some word text cut gives =
    let blanks = blanks_of-longest text in
    let found = chained (after_word word (blanks_of text).1) _ cut gives in
    let same : ((blanks_of text).0, found.value) ≡ cut = cc found.next_gives in
    subst (λ (found : List ℕ × List ℕ). IsBeforeWord word text found.0 found.1) same
    (record {
      whole = blanks.whole ∙ ap (λ rest. (blanks_of text).0 ++ rest) (after_word-Some word (blanks_of text).1 found.value found.first_gives);
      blanks = blanks.passes;
    })

-- a letter or a digit is no blank
letter_goes_on : (byte : ℕ) → is_letter byte ≡ true → is_letter_or_digit byte ≡ true
letter_goes_on byte letter = grind (arith, nat_tests)

no_blank : (byte : ℕ) → is_letter_or_digit byte ≡ true → is_blank byte ≡ false
no_blank byte letter = grind (arith, nat_tests)

blank_ends_name : (byte : ℕ) → is_blank byte ≡ true → is_letter_or_digit byte ≡ false
blank_ends_name byte blank = grind (arith, nat_tests)

-- so a name begins with no blank
pub name_stops_blanks : (name rest : List ℕ) → IsName name → Stops is_blank (name ++ rest)
name_stops_blanks [] rest is = absurd is.begins
name_stops_blanks (byte ∷ bytes) rest is = no_blank byte (letter_goes_on byte is.begins)

-- and blanks end a name, with what ends it behind them
pub blanks_end_name : (blanks rest : List ℕ) → AreBlanks blanks → Stops is_letter_or_digit rest → Stops is_letter_or_digit (blanks ++ rest)
blanks_end_name [] rest are stops = stops
blanks_end_name (byte ∷ bytes) rest are stops = blank_ends_name byte (All-head (λ x. is_blank x ≡ true) byte bytes are)

pub name_of-append : (name rest : List ℕ) → IsName name → Stops is_letter_or_digit rest → name_of (name ++ rest) ≡ Some (name, rest)
name_of-append name rest is stops = name_of-is (name ++ rest) name rest (record { whole = refl; is_name = is; stops = stops })

-- a name with a gap before it
gap_of-append : (gap rest : List ℕ) → gap ≢ [] → AreBlanks gap → Stops is_blank rest → gap_of (gap ++ rest) ≡ Some (gap, rest)
unfolding gap_of
gap_of-append [] rest parted are stops = absurd (parted refl)
gap_of-append (byte ∷ bytes) rest parted are stops = rw (blanks_of-append (byte ∷ bytes) rest are stops)

pub parted_name-append : (gap name rest : List ℕ) → gap ≢ [] → AreBlanks gap → IsName name → Stops is_letter_or_digit rest → parted_name (gap ++ (name ++ rest)) ≡ Some (gap, name, rest)
unfolding parted_name
parted_name-append gap name rest parted are is stops =
    rw (gap_of-append gap (name ++ rest) parted are (name_stops_blanks name rest is), name_of-append name rest is stops)

record IsGap (text gap rest : List ℕ) : Type 0 where
  pub whole : text ≡ gap ++ rest
  pub blanks : AreBlanks gap
  pub parted : gap ≢ []

gap_here : (text front rest : List ℕ) (cut : List ℕ × List ℕ) → IsLongestFront is_blank text front rest → unless_empty front rest ≡ Some cut → IsGap text cut.0 cut.1
gap_here text [] rest cut longest gives = cc
gap_here text (byte ∷ bytes) rest cut longest gives =
    let same : (byte ∷ bytes, rest) ≡ cut = cc in
    subst (λ (found : List ℕ × List ℕ). IsGap text found.0 found.1) same (record { whole = longest.whole; blanks = longest.passes; parted = λ is. cc })

gap_of-Some : (text : List ℕ) (cut : List ℕ × List ℕ) → gap_of text ≡ Some cut → IsGap text cut.0 cut.1
unfolding gap_of
gap_of-Some text cut gives = gap_here text (blanks_of text).0 (blanks_of text).1 cut (blanks_of-longest text) gives

pub record IsPartedName (text gap name rest : List ℕ) : Type 0 where
  pub whole : text ≡ gap ++ (name ++ rest)
  pub blanks : AreBlanks gap
  pub parted : gap ≢ []
  pub is_name : IsName name

pub parted_name-Some : (text : List ℕ) (cut : List ℕ × List ℕ × List ℕ) → parted_name text ≡ Some cut → IsPartedName text cut.0 cut.1 cut.2
unfolding parted_name
parted_name-Some text cut gives =
    let gap = chained (gap_of text) _ cut gives in
    let name = chained (name_of gap.value.1) _ cut gap.next_gives in
    let is_gap = gap_of-Some text gap.value gap.first_gives in
    let begins = name_of-Some gap.value.1 name.value name.first_gives in
    let same : (gap.value.0, name.value.0, name.value.1) ≡ cut = cc name.next_gives in
    subst (λ (found : List ℕ × List ℕ × List ℕ). IsPartedName text found.0 found.1 found.2) same
    (record {
      whole = is_gap.whole ∙ ap (λ rest. gap.value.0 ++ rest) begins.whole;
      blanks = is_gap.blanks;
      parted = is_gap.parted;
      is_name = begins.is_name;
    })

-- what the calls of the scanner say, as the functions of the reader
pub ruleset scans = (blanks_of-is, after_word-is, after_word-None, name_of-is, name_of-None)
