-- The list of separators and operators and the places of its texts.
use Rattle.std.proofs.Common.{◌≡◌, ℕ, Bool, List, Option, Some, None, map, slice_get, get_or, length, ◌<◌, Bor, refl}
use Rattle.rf_jtree.specs.declared.operators.Op.{Op}
use Rattle.rf_jtree.specs.Operators.{OPERATORS, operator_of, operator_at}
use Rattle.rf_jtree.specs.Guesses.{operator_guess, stands_at}
use Rattle.rf_jtree.proofs.TableLemmas.{Table, place_in, numbered, if_there, names_at, names_at_borrowed, text_at, names_as_guessed}

places : map (place_in OPERATORS) OPERATORS ≡ numbered 0 OPERATORS
unfolding OPERATORS
places = refl

-- a guess finds each text of the list at its place
guesses : map (λ word. Some (operator_guess word)) OPERATORS ≡ numbered 0 OPERATORS
unfolding OPERATORS operator_guess
guesses = refl

abbrev place : Option Op → Option ℕ
place None = None
place (Some op) = Some op.0

place-operator_at : (found : Option ℕ) → place (operator_at found) ≡ found
place-operator_at None = refl
place-operator_at (Some n) = refl

abbrev table : Table Op
table = record {
  texts = OPERATORS;
  guess = operator_guess;
  named = operator_at;
  place = place;
  place-named = place-operator_at;
  places = places;
  guesses = guesses;
}

-- each text of the list is the operator of its place
pub operator_of-word : (n : ℕ) (word : List ℕ) → slice_get OPERATORS n ≡ Some word → operator_of word ≡ Some (record { 0 = n })
unfolding operator_of
operator_of-word n word at = names_at table n word at

-- also where the list is one of borrowed texts
pub operator_of_borrowed : (words : List (Bor (List ℕ))) (n : ℕ) (absent : Bor (List ℕ)) → map (λ word. word.now) words ≡ OPERATORS → n < length words → operator_of (get_or words n absent).now ≡ Some (record { 0 = n })
unfolding operator_of
operator_of_borrowed words n absent same within = names_at_borrowed table words n absent same within

-- and a text that is an operator stands in the list at its place
pub slice_get-operator : (n : ℕ) (text : List ℕ) → operator_of text ≡ Some (record { 0 = n }) → slice_get OPERATORS n ≡ Some text
unfolding operator_of
slice_get-operator n text is = text_at table n text is

-- so a text is looked up there alone
pub operator_of-guess : (text : List ℕ) (stands : Bool) → stands_at OPERATORS (operator_guess text) text ≡ stands → operator_of text ≡ operator_at (if_there stands (operator_guess text))
unfolding operator_of
operator_of-guess text stands is = names_as_guessed table text stands is
