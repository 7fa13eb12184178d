-- Fields: what is read is a field, and each field is read.
use Rattle.std.proofs.Common.{◌≡◌, ℕ, ◌<◌, List, [], ◌∷◌, ◌++◌, length, Option, Some, None, All, refl, ap, ◌∙◌, subst, codes, IfSome, arith, append_assoc, length-append}
use Rattle.std.specs.List.{flat_map}
use Rattle.std.proofs.lemmas.List.{append-nil}
use Rattle.std.proofs.lemmas.List.Concat.{flat_map-append}
use Rattle.std.proofs.lemmas.List.Elements.{All-nil, All-push}
use Rattle.rf_engine.specs.Words.{AreBlanks, is_letter_or_digit}
use Rattle.rf_engine.specs.Scan.{Stops, name_of}
use Rattle.rf_engine.specs.ClassFile.{Initializer, Field, IsInitializer, IsField, initializer_bytes, field_bytes}
use Rattle.rf_engine.specs.ClassReader.{blanks_of, before_word, parted_name, initializer_of, initializer_behind, field_of}
use Rattle.rf_engine.proofs.ScanLemmas.{name_of-Some}
use Rattle.rf_engine.proofs.PieceLemmas.{chained, blanks_of-append, blanks_of-longest, before_word-append, before_word-other, before_word-Some, name_of-append, name_stops_blanks, blanks_end_name, parted_name-append, parted_name-Some}

-- what follows the name of a field ends it
initializer_ends_name : (initializer : Option Initializer) (after rest : List ℕ) → IfSome initializer IsInitializer → AreBlanks after → Stops is_letter_or_digit (initializer_bytes initializer ++ (after ++ (codes ";" ++ rest)))
initializer_ends_name None after rest is are = blanks_end_name after (codes ";" ++ rest) are refl
initializer_ends_name (Some initializer) after rest is are =
    let end = after ++ (codes ";" ++ rest) in
    rw append_assoc (blanks_end_name initializer.before ((codes "=" ++ (initializer.gap ++ initializer.name)) ++ end) is.before refl)

-- an initializer is read, and none where there is none
initializer_of-append : (initializer : Option Initializer) (after rest : List ℕ) → IfSome initializer IsInitializer → AreBlanks after → initializer_of (initializer_bytes initializer ++ (after ++ (codes ";" ++ rest))) ≡ Some (initializer, after ++ (codes ";" ++ rest))
unfolding initializer_of initializer_behind
initializer_of-append None after rest is are = rw (before_word-other 61 [] after 59 rest are refl refl)
initializer_of-append (Some initializer) after rest is are =
    let end = after ++ (codes ";" ++ rest) in
    let regrouped : initializer_bytes (Some initializer) ++ end ≡ initializer.before ++ (codes "=" ++ (initializer.gap ++ (initializer.name ++ end))) = simp append_assoc in
    let equals = before_word-append (codes "=") initializer.before (initializer.gap ++ (initializer.name ++ end)) is.before refl in
    let gap = blanks_of-append initializer.gap (initializer.name ++ end) is.gap (name_stops_blanks initializer.name end is.name) in
    let name = name_of-append initializer.name end is.name (blanks_end_name after (codes ";" ++ rest) are refl) in
    rw (regrouped, equals, gap, name)

-- a field is read, whatever follows it
pub field_of-append : (field : Field) (rest : List ℕ) → IsField field → field_of (field_bytes field ++ rest) ≡ Some (field, rest)
unfolding field_of
field_of-append field rest is =
    let behind_name = initializer_bytes field.initializer ++ (field.after ++ (codes ";" ++ rest)) in
    let regrouped : field_bytes field ++ rest ≡ field.before ++ (codes "int" ++ (field.gap ++ (field.name ++ behind_name))) = simp append_assoc in
    let int = before_word-append (codes "int") field.before (field.gap ++ (field.name ++ behind_name)) is.before refl in
    let name = parted_name-append field.gap field.name behind_name is.parted is.gap is.name (initializer_ends_name field.initializer field.after rest is.initializer is.after) in
    let initializer = initializer_of-append field.initializer field.after rest is.initializer is.after in
    let end = before_word-append (codes ";") field.after rest is.after refl in
    rw (regrouped, int, name, initializer, end)

-- what is read as an initializer is one, or there is none and nothing is read
record IsInitializerAt (text : List ℕ) (initializer : Option Initializer) (rest : List ℕ) : Type 0 where
  pub whole : text ≡ initializer_bytes initializer ++ rest
  pub is_initializer : IfSome initializer IsInitializer

initializer_whole : (initializer : Initializer) (text behind_equals from_name rest : List ℕ) → text ≡ initializer.before ++ (codes "=" ++ behind_equals) → behind_equals ≡ initializer.gap ++ from_name → from_name ≡ initializer.name ++ rest → text ≡ initializer_bytes (Some initializer) ++ rest
initializer_whole initializer text behind_equals from_name rest equals gap name = rw (equals, gap, name) (simp append_assoc)

initializer_here : (text : List ℕ) (found : Option (List ℕ × List ℕ)) (cut : Option Initializer × List ℕ) → before_word (codes "=") text ≡ found → initializer_behind text found ≡ Some cut → IsInitializerAt text cut.0 cut.1
unfolding initializer_behind
initializer_here text None cut is gives =
    let same : (None, text) ≡ cut = cc in
    subst (λ (found : Option Initializer × List ℕ). IsInitializerAt text found.0 found.1) same (record { whole = refl; is_initializer = tt })
initializer_here text (Some equals) cut is gives =
    let before = before_word-Some (codes "=") text equals is in
    let gap = blanks_of-longest equals.1 in
    let name = chained (name_of (blanks_of equals.1).1) _ cut gives in
    let begins = name_of-Some (blanks_of equals.1).1 name.value name.first_gives in
    let initializer : Initializer = record { before = equals.0; gap = (blanks_of equals.1).0; name = name.value.0 } in
    let same : (Some initializer, name.value.1) ≡ cut = cc name.next_gives in
    subst (λ (found : Option Initializer × List ℕ). IsInitializerAt text found.0 found.1) same
    (record {
      whole = initializer_whole initializer text equals.1 (blanks_of equals.1).1 name.value.1 before.whole gap.whole begins.whole;
      is_initializer = record { before = before.blanks; gap = gap.passes; name = begins.is_name };
    })

initializer_of-Some : (text : List ℕ) (cut : Option Initializer × List ℕ) → initializer_of text ≡ Some cut → IsInitializerAt text cut.0 cut.1
unfolding initializer_of
initializer_of-Some text cut gives = initializer_here text (before_word (codes "=") text) cut refl gives

-- what is read as a field is one
pub record IsFieldAt (text : List ℕ) (field : Field) (rest : List ℕ) : Type 0 where
  pub whole : text ≡ field_bytes field ++ rest
  pub is_field : IsField field

field_whole : (field : Field) (text behind_int behind_name from_after rest : List ℕ) → text ≡ field.before ++ (codes "int" ++ behind_int) → behind_int ≡ field.gap ++ (field.name ++ behind_name) → behind_name ≡ initializer_bytes field.initializer ++ from_after → from_after ≡ field.after ++ (codes ";" ++ rest) → text ≡ field_bytes field ++ rest
field_whole field text behind_int behind_name from_after rest int name initializer end = rw (int, name, initializer, end) (simp append_assoc)

pub field_of-Some : (text : List ℕ) (cut : Field × List ℕ) → field_of text ≡ Some cut → IsFieldAt text cut.0 cut.1
unfolding field_of
field_of-Some text cut gives =
    let int = chained (before_word (codes "int") text) _ cut gives in
    let name = chained (parted_name int.value.1) _ cut int.next_gives in
    let initializer = chained (initializer_of name.value.2) _ cut name.next_gives in
    let end = chained (before_word (codes ";") initializer.value.1) _ cut initializer.next_gives in
    let before = before_word-Some (codes "int") text int.value int.first_gives in
    let named = parted_name-Some int.value.1 name.value name.first_gives in
    let is_initializer = initializer_of-Some name.value.2 initializer.value initializer.first_gives in
    let after = before_word-Some (codes ";") initializer.value.1 end.value end.first_gives in
    let field : Field = record { before = int.value.0; gap = name.value.0; name = name.value.1; initializer = initializer.value.0; after = end.value.0 } in
    let same : (field, end.value.1) ≡ cut = cc end.next_gives in
    subst (λ (found : Field × List ℕ). IsFieldAt text found.0 found.1) same
    (record {
      whole = field_whole field text int.value.1 name.value.2 initializer.value.1 end.value.1 before.whole named.whole is_initializer.whole after.whole;
      is_field = record { before = before.blanks; gap = named.blanks; parted = named.parted; name = named.is_name; initializer = is_initializer.is_initializer; after = after.blanks };
    })

-- fields that were read from the front of a text, and the rest
pub record FieldsSoFar (text : List ℕ) (fields : List Field) (rest : List ℕ) : Type 0 where
  pub whole : text ≡ flat_map field_bytes fields ++ rest
  pub are_fields : All IsField fields

pub no_fields : (text : List ℕ) → FieldsSoFar text [] text
no_fields text = record { whole = refl; are_fields = All-nil IsField }

pub fields_more : (text : List ℕ) (fields : List Field) (rest : List ℕ) (field : Field) (left : List ℕ) → FieldsSoFar text fields rest → field_of rest ≡ Some (field, left) → FieldsSoFar text (fields ++ field ∷ []) left
fields_more text fields rest field left so_far read =
    let at = field_of-Some rest (field, left) read in
    record {
      whole = so_far.whole ∙ ap (λ t. flat_map field_bytes fields ++ t) at.whole ∙ simp (flat_map-append, append_assoc, append-nil);
      are_fields = All-push IsField fields field so_far.are_fields at.is_field;
    }

-- a field takes at least one byte
pub field_shortens : (text : List ℕ) (field : Field) (rest : List ℕ) → field_of text ≡ Some (field, rest) → length rest < length text
field_shortens text field rest read =
    omega (arith, simp length-append at (ap length (field_of-Some text (field, rest) read).whole))
