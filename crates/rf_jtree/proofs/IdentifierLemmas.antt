-- Words by the characters of a text.
use Rattle.std.proofs.Common.{◌≡◌, ℕ, Bool, true, false, List, [], ◌∷◌, IsTrue, ◌↔◌, All, refl, sym, ap, ◌∙◌, subst}
use Rattle.std.specs.Char.{IsScalar}
use Rattle.std.specs.List.{list_all}
use Rattle.std.specs.Str.{chars, IsUtf8}
use Rattle.std.proofs.Math.Utf8.{scalars}
use Rattle.std.proofs.lemmas.Bool.{and_parts, and_from, false≢true}
use Rattle.std.proofs.lemmas.List.Elements.{All-nil, All-cons, All-head, All-tail}
use Rattle.std.proofs.lemmas.List.Sums.{AllPass-from_list_all, list_all-from_AllPass}
use Rattle.std.proofs.lemmas.Str.{encodes-chars, scalars-chars, chars-encodes}
use Rattle.rf_jtree.specs.Identifiers.{is_letter_or_digit, BeginsWithLetter, IsWord}

-- the test of std on characters, and what the definition of a word says of each
All-scalars : (characters : List ℕ) → scalars characters ≡ true → All IsScalar characters
All-scalars [] are = All-nil IsScalar
All-scalars (character ∷ characters) are =
    All-cons IsScalar character characters (and_parts _ _ are).0 (All-scalars characters (and_parts _ _ are).1)

scalars-All : (characters : List ℕ) → All IsScalar characters → scalars characters ≡ true
scalars-All [] each = refl
scalars-All (character ∷ characters) each =
    and_from _ _ (All-head IsScalar character characters each) (scalars-All characters (All-tail IsScalar character characters each))

-- a text of such characters is a word
is_spelled : (bytes : List ℕ) → IsUtf8 bytes → BeginsWithLetter (chars bytes) → list_all is_letter_or_digit (chars bytes) ≡ true → IsWord bytes
is_spelled bytes utf8 begins passes = record {
  characters = chars bytes;
  parts = sym (encodes-chars bytes utf8);
  scalars = All-scalars (chars bytes) (scalars-chars bytes utf8);
  begins = begins;
  goes_on = AllPass-from_list_all is_letter_or_digit (chars bytes) passes;
}

-- and a word is such a text
utf8_of_word : (bytes : List ℕ) → IsWord bytes → IsUtf8 bytes
utf8_of_word bytes word = (word.characters, (scalars-All word.characters word.scalars, sym word.parts))

chars_of_word : (bytes : List ℕ) (word : IsWord bytes) → chars bytes ≡ word.characters
chars_of_word bytes word = ap chars word.parts ∙ chars-encodes word.characters (scalars-All word.characters word.scalars)

word_begins : (bytes : List ℕ) → IsWord bytes → BeginsWithLetter (chars bytes)
word_begins bytes word = subst BeginsWithLetter (sym (chars_of_word bytes word)) word.begins

word_passes : (bytes : List ℕ) → IsWord bytes → list_all is_letter_or_digit (chars bytes) ≡ true
word_passes bytes word =
    ap (list_all is_letter_or_digit) (chars_of_word bytes word) ∙ list_all-from_AllPass is_letter_or_digit word.characters word.goes_on

-- what the test for a word answers: for a text that begins with a letter, for one that does not, and for bytes that are
-- no text
pub letters_decide : (text bytes : List ℕ) (result : Bool) → (text ≡ bytes) × IsUtf8 bytes → BeginsWithLetter (chars text)
    → result ≡ list_all is_letter_or_digit (chars text) → IsTrue result ↔ IsWord bytes
letters_decide text bytes result read begins is =
    let same : list_all is_letter_or_digit (chars text) ≡ list_all is_letter_or_digit (chars bytes) = ap (λ t. list_all is_letter_or_digit (chars t)) read.0 in (
      λ passes. is_spelled bytes read.1 (subst (λ t. BeginsWithLetter (chars t)) read.0 begins) (sym same ∙ sym is ∙ passes),
      λ word. is ∙ same ∙ word_passes bytes word,
    )

pub no_letter_decides : (text bytes : List ℕ) (result : Bool) → (text ≡ bytes) × IsUtf8 bytes → (IsTrue result ↔ BeginsWithLetter (chars text))
    → result ≡ false → IsTrue result ↔ IsWord bytes
no_letter_decides text bytes result read begins is = (
  λ true_is. absurd (false≢true (sym is ∙ true_is)),
  λ word. begins.1 (subst (λ t. BeginsWithLetter (chars t)) (sym read.0) (word_begins bytes word)),
)

pub no_text_decides : (bytes : List ℕ) → ¬ IsUtf8 bytes → IsTrue false ↔ IsWord bytes
no_text_decides bytes none = (λ is. absurd (false≢true is), λ word. absurd (none (utf8_of_word bytes word)))
