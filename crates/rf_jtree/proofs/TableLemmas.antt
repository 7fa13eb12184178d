-- A table of texts and the places of its texts.
use Rattle.std.proofs.Common.{◌≡◌, ℕ, zero, suc, ◌+◌, List, [], ◌∷◌, Option, Some, None, Bool, true, false, map, position, slice_get, get_or, length, ◌<◌, ◌≤◌, option_map, Bor, refl, sym, ap, ◌∙◌, arith}
use Rattle.std.specs.Str.{bytes_eq}
use Rattle.std.proofs.lemmas.List.Quantifiers.{position-Some}
use Rattle.std.proofs.lemmas.Option.{slice_get-get_or, slice_get-map, slice_get_past}
use Rattle.std.proofs.lemmas.Slice.Eq.{bytes_eq-Decides}
use Rattle.rf_jtree.specs.Guesses.{is_found, stands_at}

-- the place of a text in a table
abbrev pub place_in : List (List ℕ) → List ℕ → Option ℕ
place_in table text = position (λ word. bytes_eq word text) table

-- the places from this one on, one for each text
abbrev pub numbered : ℕ → List (List ℕ) → List (Option ℕ)
numbered n [] = []
numbered n (word ∷ words) = Some n ∷ numbered (n + 1) words

-- where a walk over the table finds each text at its place, so does a look-up
pub at_place : (place : List ℕ → Option ℕ) (words : List (List ℕ)) (from n : ℕ) (word : List ℕ) → map place words ≡ numbered from words → slice_get words n ≡ Some word → place word ≡ Some (from + n)
at_place place [] from n word same at = cc
at_place place (first ∷ words) from zero word same at = let e : first ≡ word = cc in let f : place first ≡ Some from = cc in ap place (sym e) ∙ f ∙ ap Some (omega arith)
at_place place (first ∷ words) from (suc n) word same at =
    let rest : map place words ≡ numbered (from + 1) words = cc in
    at_place place words (from + 1) n word rest at ∙ ap Some (omega arith)

-- the borrowed texts of a table stand at the places of the table
pub stands_borrowed : (words : List (Bor (List ℕ))) (table : List (List ℕ)) (n : ℕ) (absent : Bor (List ℕ)) → map (λ word. word.now) words ≡ table → n < length words → slice_get table n ≡ Some (get_or words n absent).now
stands_borrowed words table n absent same within =
    ap (λ texts. slice_get texts n) (sym same) ∙ slice_get-map (λ word. word.now) words n ∙ ap (option_map (λ word. word.now)) (slice_get-get_or words n absent within)

-- and a text that has a place stands there
pub stands_at_place : (table : List (List ℕ)) (n : ℕ) (text : List ℕ) → place_in table text ≡ Some n → slice_get table n ≡ Some text
stands_at_place table n text is =
    let found = position-Some (λ word. bytes_eq word text) table n [] is in
    slice_get-get_or table n [] found.0 ∙ ap Some ((bytes_eq-Decides (get_or table n []) text).0 found.1)

-- Where a guess gives each text of a table its place, a text stands in the table if it stands at the place that is guessed,
-- and else nowhere.
abbrev pub if_there : Bool → ℕ → Option ℕ
if_there true n = Some n
if_there false n = None

there : (guess : List ℕ → ℕ) (table : List (List ℕ)) (text : List ℕ) (found : Option (List ℕ)) → map (place_in table) table ≡ numbered 0 table → slice_get table (guess text) ≡ found → is_found found text ≡ true → place_in table text ≡ Some (guess text)
there guess table text None places at stands = cc
there guess table text (Some word) places at stands =
    let same : word ≡ text = (bytes_eq-Decides word text).0 stands in
    at_place (place_in table) table 0 (guess text) text places (at ∙ ap Some same) ∙ ap Some (omega arith)

place_of : Option ℕ → ℕ
place_of None = 0
place_of (Some n) = n

not_there : (guess : List ℕ → ℕ) (table : List (List ℕ)) (text : List ℕ) → map (λ word. Some (guess word)) table ≡ numbered 0 table → stands_at table (guess text) text ≡ false → (found : Option ℕ) → place_in table text ≡ found → found ≡ None
unfolding stands_at place_of
not_there guess table text guesses absent None is = refl
not_there guess table text guesses absent (Some n) is =
    let stands : slice_get table n ≡ Some text = stands_at_place table n text is in
    let guessed : Some (guess text) ≡ Some (0 + n) = at_place (λ word. Some (guess word)) table 0 n text guesses stands in
    let e : guess text ≡ n = ap place_of guessed ∙ omega arith in
    let found : is_found (slice_get table (guess text)) text ≡ true = ap (λ m. is_found (slice_get table m) text) e ∙ ap (λ found. is_found found text) stands ∙ (bytes_eq-Decides text text).1 refl in
    cc

pub place_in-guess : (guess : List ℕ → ℕ) (table : List (List ℕ)) → map (place_in table) table ≡ numbered 0 table → map (λ word. Some (guess word)) table ≡ numbered 0 table → (text : List ℕ) (stands : Bool) → stands_at table (guess text) text ≡ stands → place_in table text ≡ if_there stands (guess text)
unfolding stands_at
place_in-guess guess table places guesses text true is = there guess table text (slice_get table (guess text)) places refl is
place_in-guess guess table places guesses text false is = not_there guess table text guesses is (place_in table text) refl

-- What a look-up in a table of borrowed texts finds.
pub stands_within : (table : List (Bor (List ℕ))) (place : ℕ) (text : Bor (List ℕ)) (bytes : List ℕ) → place < length table → text ≡ get_or table place text → bytes_eq text.now bytes ≡ stands_at (map (λ text. text.now) table) place bytes
unfolding stands_at
stands_within table place text bytes within is =
    let at : slice_get table place ≡ Some text = slice_get-get_or table place text within ∙ ap Some (sym is) in
    sym (ap (λ found. is_found found bytes) (slice_get-map (λ text. text.now) table place ∙ ap (option_map (λ text. text.now)) at))

pub stands_not_behind : (table : List (Bor (List ℕ))) (place : ℕ) (bytes : List ℕ) → length table ≤ place → false ≡ stands_at (map (λ text. text.now) table) place bytes
unfolding stands_at
stands_not_behind table place bytes behind =
    sym (ap (λ found. is_found found bytes) (slice_get-map (λ text. text.now) table place ∙ ap (option_map (λ text. text.now)) (slice_get_past table place behind)))

-- A table whose texts name things of a type, each by its place, as the keywords do: what a place names, the place of what is
-- named, and a guess that gives each text its place.
pub record Table (A : Type 0) : Type 0 where
  pub texts : List (List ℕ)
  pub guess : List ℕ → ℕ
  pub named : Option ℕ → Option A
  pub place : Option A → Option ℕ
  pub place-named : (found : Option ℕ) → place (named found) ≡ found
  pub places : map (place_in texts) texts ≡ numbered 0 texts
  pub guesses : map (λ text. Some (guess text)) texts ≡ numbered 0 texts

-- each text names what its place names
pub names_at : {A : Type 0} (table : Table A) (n : ℕ) (text : List ℕ) → slice_get table.texts n ≡ Some text → table.named (place_in table.texts text) ≡ table.named (Some n)
names_at table n text at = ap table.named (at_place (place_in table.texts) table.texts 0 n text table.places at ∙ ap Some (omega arith))

-- also where the table is one of borrowed texts
pub names_at_borrowed : {A : Type 0} (table : Table A) (texts : List (Bor (List ℕ))) (n : ℕ) (absent : Bor (List ℕ)) → map (λ text. text.now) texts ≡ table.texts → n < length texts → table.named (place_in table.texts (get_or texts n absent).now) ≡ table.named (Some n)
names_at_borrowed table texts n absent same within = names_at table n (get_or texts n absent).now (stands_borrowed texts table.texts n absent same within)

-- and a text that names what a place names stands there
pub text_at : {A : Type 0} (table : Table A) (n : ℕ) (text : List ℕ) → table.named (place_in table.texts text) ≡ table.named (Some n) → slice_get table.texts n ≡ Some text
text_at table n text is = stands_at_place table.texts n text (sym (table.place-named (place_in table.texts text)) ∙ ap table.place is ∙ table.place-named (Some n))

-- so what a text names is looked up at the place that is guessed, and nowhere else
pub names_as_guessed : {A : Type 0} (table : Table A) (text : List ℕ) (stands : Bool) → stands_at table.texts (table.guess text) text ≡ stands → table.named (place_in table.texts text) ≡ table.named (if_there stands (table.guess text))
names_as_guessed table text stands is = ap table.named (place_in-guess table.guess table.texts table.places table.guesses text stands is)
