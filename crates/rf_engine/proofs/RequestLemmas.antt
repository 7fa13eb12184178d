-- The one way to read a request.
use Rattle.std.proofs.Common.{◌≡◌, ◌≢◌, ℕ, List, [], ◌++◌, inl, inr, Option, Some, None, MatchOption, Bor, codes, refl, ap, sym, ◌∙◌, subst}
use Rattle.std.proofs.lemmas.List.{append_cancel_left, append-nil, append_assoc}
use Rattle.rf_engine.specs.FirstForm.{line_end}
use Rattle.rf_engine.specs.Words.{is_letter_or_digit}
use Rattle.rf_engine.specs.Scan.{Stops, BeginsWithName}
use Rattle.rf_engine.specs.declared.request.RequestParts.{RequestParts}
use Rattle.rf_engine.specs.Request.{renames_field_of, old_to_new, IsLineEnd, AreNames, AreOnlyNames, IsRequest, IsOnlyRequest}
use Rattle.rf_engine.proofs.ScanLemmas.{same_front}

-- the dot behind the class is all that is left to read
pub after_dot : (request class after_words after_name : List ℕ) (found : Option (Bor (List ℕ))) → request ≡ codes "rename field " ++ after_words → after_words ≡ class ++ after_name → MatchOption found ((rest : List ℕ) → after_name ≢ codes "." ++ rest) (λ rest. after_name ≡ codes "." ++ rest.now) → MatchOption found ((rest : List ℕ) → request ≢ renames_field_of class rest) (λ rest. request ≡ renames_field_of class rest.now)
after_dot request class after_words after_name None words name none = λ rest same.
    let behind_words = append_cancel_left (codes "rename field ") _ _ (sym words ∙ same) in
    none rest (append_cancel_left class _ _ (sym name ∙ behind_words))
after_dot request class after_words after_name (Some rest) words name dot =
    words ∙ ap (λ text. codes "rename field " ++ text) (name ∙ ap (λ text. class ++ text) dot)

-- a text begins with one name only
name_is_one : (text name rest other left : List ℕ) → BeginsWithName text name rest → BeginsWithName text other left → (name ≡ other) × (rest ≡ left)
name_is_one text name rest other left begins also =
    same_front is_letter_or_digit name rest other left (sym begins.whole ∙ also.whole) begins.is_name.goes_on begins.stops also.is_name.goes_on also.stops

-- no letter or digit stands where a line ends
stops_at_end : (text : List ℕ) → IsLineEnd text → Stops is_letter_or_digit text
stops_at_end text (inl empty) = subst (Stops is_letter_or_digit) (sym empty) tt
stops_at_end text (inr feed) = subst (Stops is_letter_or_digit) (sym feed) refl

begins_with_old : (text old new : List ℕ) (names : AreNames text old new) → BeginsWithName text old (codes " to " ++ (new ++ names.ending))
begins_with_old text old new names = record { whole = names.whole; is_name = names.old_name; stops = refl }

-- the name that a text begins with is the old one of any two names that the text is of
pub old_is_one : (text old rest other_old other_new : List ℕ) → BeginsWithName text old rest → (names : AreNames text other_old other_new) → (other_old ≡ old) × (rest ≡ codes " to " ++ (other_new ++ names.ending))
old_is_one text old rest other_old other_new begins names =
    let same = name_is_one text old rest other_old _ begins (begins_with_old text other_old other_new names) in
    (sym same.0, same.1)

-- what follows ` to ` begins with the new one
pub begins_with_new : (text old rest after_to other_old other_new : List ℕ) → BeginsWithName text old rest → rest ≡ codes " to " ++ after_to → (names : AreNames text other_old other_new) → BeginsWithName after_to other_new names.ending
begins_with_new text old rest after_to other_old other_new begins to names = record {
  whole = append_cancel_left (codes " to ") _ _ (sym to ∙ (old_is_one text old rest other_old other_new begins names).1);
  is_name = names.new_name;
  stops = stops_at_end names.ending names.ends;
}

-- so the new name is one, and so is what follows it
pub new_is_one : (text old rest after_to new ending other_old other_new : List ℕ) → BeginsWithName text old rest → rest ≡ codes " to " ++ after_to → BeginsWithName after_to new ending → (names : AreNames text other_old other_new) → (other_new ≡ new) × (names.ending ≡ ending)
new_is_one text old rest after_to new ending other_old other_new begins to also names =
    name_is_one after_to other_new names.ending new ending (begins_with_new text old rest after_to other_old other_new begins to names) also

-- the names read are the only ones
pub names_are_read : (text old rest after_to new ending : List ℕ) → BeginsWithName text old rest → rest ≡ codes " to " ++ after_to → BeginsWithName after_to new ending → IsLineEnd ending → AreOnlyNames text old new
names_are_read text old rest after_to new ending begins to also ends = record {
  are_names = record {
    old_name = begins.is_name;
    new_name = also.is_name;
    ending = ending;
    ends = ends;
    whole = begins.whole ∙ ap (λ left. old ++ left) (to ∙ ap (λ left. codes " to " ++ left) also.whole);
  };
  only = λ other_old other_new names.
      ((old_is_one text old rest other_old other_new begins names).0, (new_is_one text old rest after_to new ending other_old other_new begins to also names).0);
}

-- the end of a request behind the class is of the names that the request is of
names_of_request : (request class old new : List ℕ) → IsRequest request class old new → (rest : List ℕ) × (request ≡ renames_field_of class rest) × AreNames rest old new
names_of_request request class old new is =
    elim is.line [
      | inl line ↦ (
        old_to_new old new,
        line,
        record { old_name = is.old_name; new_name = is.new_name; ending = []; ends = inl refl; whole = simp append-nil },
      )
      | inr line ↦ (
        old_to_new old (new ++ line_end),
        line ∙ simp append_assoc,
        record { old_name = is.old_name; new_name = is.new_name; ending = line_end; ends = inr refl; whole = refl },
      )
    ]

request_of_names : (request class rest old new : List ℕ) → request ≡ renames_field_of class rest → AreNames rest old new → IsRequest request class old new
request_of_names request class rest old new is names = record {
  old_name = names.old_name;
  new_name = names.new_name;
  line = elim names.ends [
    | inl empty ↦ inl (is ∙ ap (renames_field_of class) (names.whole ∙ ap (λ ending. old_to_new old (new ++ ending)) empty ∙ simp append-nil))
    | inr feed ↦ inr (is ∙ ap (renames_field_of class) (names.whole ∙ ap (λ ending. old_to_new old (new ++ ending)) feed) ∙ simp append_assoc)
  ];
}

-- one text stands behind the class
rest_is_one : (request class rest other : List ℕ) → request ≡ renames_field_of class rest → request ≡ renames_field_of class other → other ≡ rest
rest_is_one request class rest other is also =
    append_cancel_left (codes ".") _ _ (append_cancel_left class _ _ (append_cancel_left (codes "rename field ") _ _ (sym also ∙ is)))

-- so the names in a request are those of that text
names_behind_class : (request class rest old new : List ℕ) → request ≡ renames_field_of class rest → IsRequest request class old new → AreNames rest old new
names_behind_class request class rest old new is also =
    let names = names_of_request request class old new also in
    subst (λ text. AreNames text old new) (rest_is_one request class rest names.0 is names.1) names.2

-- a request is read where the text behind the class is
pub request_is_read : (request class rest : List ℕ) (found : Option RequestParts) → request ≡ renames_field_of class rest → MatchOption found ((old new : List ℕ) → ¬ AreNames rest old new) (λ names. AreOnlyNames rest names.old.now names.new.now) → MatchOption found ((old new : List ℕ) → ¬ IsRequest request class old new) (λ names. IsOnlyRequest request class names.old.now names.new.now)
request_is_read request class rest None is none = λ old new also. none old new (names_behind_class request class rest old new is also)
request_is_read request class rest (Some found) is names = record {
  is_request = request_of_names request class rest found.old.now found.new.now is names.are_names;
  only = λ old new also. names.only old new (names_behind_class request class rest old new is also);
}

-- and none is read where the class doesn't stand
pub request_of_another : (request class : List ℕ) → ((rest : List ℕ) → request ≢ renames_field_of class rest) → (old new : List ℕ) → ¬ IsRequest request class old new
request_of_another request class none old new also =
    let names = names_of_request request class old new also in
    none names.0 names.1
