-- The list of keywords and the places of its words.
use Rattle.std.proofs.Common.{◌≡◌, ℕ, Bool, List, Option, Some, None, map, slice_get, get_or, length, ◌<◌, Bor, refl}
use Rattle.rf_jtree.specs.declared.words.Kw.{Kw}
use Rattle.rf_jtree.specs.Words.{KEYWORDS, keyword_of, at_place}
use Rattle.rf_jtree.specs.Guesses.{keyword_guess, stands_at}
use Rattle.rf_jtree.proofs.TableLemmas.{Table, place_in, numbered, if_there, names_at, names_at_borrowed, text_at, names_as_guessed}

places : map (place_in KEYWORDS) KEYWORDS ≡ numbered 0 KEYWORDS
unfolding KEYWORDS
places = refl

-- a guess finds each text of the list at its place
guesses : map (λ word. Some (keyword_guess word)) KEYWORDS ≡ numbered 0 KEYWORDS
unfolding KEYWORDS keyword_guess
guesses = refl

abbrev place : Option Kw → Option ℕ
place None = None
place (Some word) = Some word.0

place-at_place : (found : Option ℕ) → place (at_place found) ≡ found
place-at_place None = refl
place-at_place (Some n) = refl

abbrev table : Table Kw
table = record {
  texts = KEYWORDS;
  guess = keyword_guess;
  named = at_place;
  place = place;
  place-named = place-at_place;
  places = places;
  guesses = guesses;
}

-- each word of the list is the keyword of its place
pub keyword_of-word : (n : ℕ) (word : List ℕ) → slice_get KEYWORDS n ≡ Some word → keyword_of word ≡ Some (record { 0 = n })
unfolding keyword_of
keyword_of-word n word at = names_at table n word at

-- also where the list is one of borrowed texts
pub keyword_of_borrowed : (words : List (Bor (List ℕ))) (n : ℕ) (absent : Bor (List ℕ)) → map (λ word. word.now) words ≡ KEYWORDS → n < length words → keyword_of (get_or words n absent).now ≡ Some (record { 0 = n })
unfolding keyword_of
keyword_of_borrowed words n absent same within = names_at_borrowed table words n absent same within

-- and a text that is a keyword stands in the list at its place
pub slice_get-keyword : (n : ℕ) (text : List ℕ) → keyword_of text ≡ Some (record { 0 = n }) → slice_get KEYWORDS n ≡ Some text
unfolding keyword_of
slice_get-keyword n text is = text_at table n text is

-- so a text is looked up there alone
pub keyword_of-guess : (text : List ℕ) (stands : Bool) → stands_at KEYWORDS (keyword_guess text) text ≡ stands → keyword_of text ≡ at_place (if_there stands (keyword_guess text))
unfolding keyword_of
keyword_of-guess text stands is = names_as_guessed table text stands is
