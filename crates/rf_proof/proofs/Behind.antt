-- What stands behind the word of a line, and that it can't be read another way.
use Rattle.std.proofs.Common.{◌≡◌, ◌≢◌, ℕ, suc, ◌+◌, ◌^◌, ◌<◌, ◌≤◌, ◌++◌, List, [], ◌∷◌, length, Some, None, refl, sym, ap, ap₂, ◌∙◌, arith, append_assoc, length-append}
use Rattle.std.specs.Prelude.{codes, flat_map, Option, Result, Ok, Err, MatchOption, IfOk}
use Rattle.std.specs.Borrow.{Bor}
use Rattle.std.proofs.lemmas.List.{append-nil, append_cancel_left}
use Rattle.std.proofs.lemmas.Grind.{flat_map-append}
use Rattle.std.specs.Fmt.{decimal}
use Rattle.rf_refute.specs.Shown.{shown}
use Rattle.rf_refute.specs.declared.nodes.Node as code
use Rattle.rf_refute.specs.Trees.{Node, Remove, Split, Fail}
use Rattle.rf_proof.specs.Numbers.{EndsNumber, BeginsNumber, BeginsField}
use Rattle.rf_proof.specs.Texts.{spaced, line_of, line_end, ArePlaces, HasLine}
use Rattle.rf_proof.specs.Lines.{BeginsNode, BeginsNoNode, BeginsPlaces}
use Rattle.rf_proof.proofs.Lines.{remove_tail, split_tail, fail_tail, remove_onto, split_onto, fail_onto, field_text, field_there, field_same, places_end, places_same}
use Rattle.rf_proof.proofs.Fronts.{apart}

-- the text doesn't go on with a number of at most so much
abbrev pub NoField : ℕ → List ℕ → Type 0
NoField most text = (n : ℕ) (rest : List ℕ) → BeginsField text most n rest → ⊥

-- ---- the last number of a line

abbrev pub NoLast : List ℕ → Type 0
NoLast text = (c : ℕ) (rest : List ℕ) → c < 2 ^ 64 → text ≡ spaced c ++ (line_end ++ rest) → ⊥

pub no_last_number : (text : List ℕ) → NoField 18446744073709551615 text → NoLast text
no_last_number text none c rest fits e = none c (line_end ++ rest) (field_there text 18446744073709551615 c (line_end ++ rest) (omega (arith, fits)) refl e)

pub no_last_end : (text : List ℕ) (d : ℕ) (left : List ℕ) → BeginsField text 18446744073709551615 d left → ((rest : List ℕ) → left ≢ line_end ++ rest) → NoLast text
no_last_end text d left has none c rest fits e =
    none rest (field_same text 18446744073709551615 d c left (line_end ++ rest) (omega arith) has (omega (arith, fits)) refl e).1

pub last_is : (text : List ℕ) (c : ℕ) (left rest : List ℕ) → BeginsField text 18446744073709551615 c left → left ≡ line_end ++ rest
    → text ≡ spaced c ++ (line_end ++ rest)
last_is text c left rest has e = field_text text 18446744073709551615 c left has ∙ ap (λ (l : List ℕ). spaced c ++ l) e

pub last_fits : (text : List ℕ) (c : ℕ) (left : List ℕ) → BeginsField text 18446744073709551615 c left → c < 2 ^ 64
last_fits text c left has = omega (arith, has.number.small)

-- ---- behind `remove`

abbrev pub NoRemove : List ℕ → Type 0
NoRemove text = (x v c : ℕ) (rest : List ℕ) → HasLine (Remove x v c) → text ≡ remove_tail x v c rest → ⊥

pub no_remove_x : (text : List ℕ) → NoField 4294967295 text → NoRemove text
no_remove_x text none x v c rest h e = none x _ (field_there text 4294967295 x (spaced v ++ (spaced c ++ (line_end ++ rest))) (omega (arith, h.0)) refl e)

behind_x : (text : List ℕ) (y : ℕ) (left : List ℕ) → BeginsField text 4294967295 y left → (x : ℕ) (more : List ℕ) → x < 2 ^ 32 → EndsNumber more
    → text ≡ spaced x ++ more → left ≡ more
behind_x text y left has x more fits ends e = (field_same text 4294967295 y x left more (omega arith) has (omega (arith, fits)) ends e).1

behind_v : (text : List ℕ) (y : ℕ) (left : List ℕ) → BeginsField text 65535 y left → (x : ℕ) (more : List ℕ) → x < 2 ^ 16 → EndsNumber more
    → text ≡ spaced x ++ more → left ≡ more
behind_v text y left has x more fits ends e = (field_same text 65535 y x left more (omega arith) has (omega (arith, fits)) ends e).1

pub no_remove_v : (text : List ℕ) (y : ℕ) (left : List ℕ) → BeginsField text 4294967295 y left → NoField 65535 left → NoRemove text
no_remove_v text y left has none x v c rest h e =
    let f = behind_x text y left has x (spaced v ++ (spaced c ++ (line_end ++ rest))) h.0 refl e in
    none v (spaced c ++ (line_end ++ rest)) (field_there left 65535 v (spaced c ++ (line_end ++ rest)) (omega (arith, h.1.0)) refl f)

pub no_remove_c : (text : List ℕ) (y : ℕ) (left : List ℕ) (w : ℕ) (more : List ℕ) → BeginsField text 4294967295 y left → BeginsField left 65535 w more
    → NoLast more → NoRemove text
no_remove_c text y left w more has next none x v c rest h e =
    let f = behind_x text y left has x (spaced v ++ (spaced c ++ (line_end ++ rest))) h.0 refl e in
    let g = behind_v left w more next v (spaced c ++ (line_end ++ rest)) h.1.0 refl f in
    none c rest h.1.1 g

pub remove_is : (text : List ℕ) (x : ℕ) (left : List ℕ) (v : ℕ) (more : List ℕ) (c : ℕ) (rest : List ℕ) → c < 2 ^ 64
    → BeginsField text 4294967295 x left → BeginsField left 65535 v more
    → more ≡ spaced c ++ (line_end ++ rest) → BeginsNode (codes "remove" ++ text) (Remove x v c) rest
remove_is text x left v more c rest fits has next e =
    record {
      line = (omega (arith, has.number.small), (omega (arith, next.number.small), fits));
      text_is = ap (λ (l : List ℕ). codes "remove" ++ l) (field_text text 4294967295 x left has
          ∙ ap (λ (l : List ℕ). spaced x ++ l) (field_text left 65535 v more next ∙ ap (λ (l : List ℕ). spaced v ++ l) e))
          ∙ sym (remove_onto x v c rest);
    }

-- ---- the places of a split, as far as they were read

pub record PlacesTo (text vs left : List ℕ) : Type 0 where
  pub places : ArePlaces vs
  pub text_is : text ≡ flat_map spaced vs ++ left
  pub ends : EndsNumber left

pub places_none : (text : List ℕ) → EndsNumber text → PlacesTo text [] text
places_none text ends = record { places = tt; text_is = refl; ends = ends }

are_more : (vs : List ℕ) (v : ℕ) → ArePlaces vs → v < 2 ^ 16 → ArePlaces (vs ++ v ∷ [])
are_more [] v all one = (one, tt)
are_more (w ∷ vs) v all one = (all.0, are_more vs v all.1 one)

pub places_more : (text vs left : List ℕ) (v : ℕ) (rest : List ℕ) → PlacesTo text vs left → BeginsField left 65535 v rest → PlacesTo text (vs ++ v ∷ []) rest
places_more text vs left v rest h has =
    record {
      places = are_more vs v h.places (omega (arith, has.number.small));
      text_is = h.text_is ∙ (ap (λ (l : List ℕ). flat_map spaced vs ++ l) (field_text left 65535 v rest has)
          ∙ (sym (append_assoc (flat_map spaced vs) (spaced v) rest)
          ∙ ap (λ (l : List ℕ). l ++ rest) (sym (flat_map-append spaced vs (v ∷ []) ∙ ap (λ (l : List ℕ). flat_map spaced vs ++ l) (append-nil (spaced v))))));
      ends = has.number.ends;
    }

pub places_all : (text vs left : List ℕ) → PlacesTo text vs left → NoField 65535 left → BeginsPlaces text vs left
places_all text vs left h none = record { places = h.places; text_is = h.text_is; ends = h.ends; none = none }

pub field_shorter : (text : List ℕ) (most n : ℕ) (rest : List ℕ) → BeginsField text most n rest → length rest < length text
field_shorter text most n rest has =
    let e : length text ≡ suc (length (decimal n) + length rest) = ap (λ (l : List ℕ). length l) (field_text text most n rest has) ∙ ap (λ (k : ℕ). suc k) (length-append (decimal n) rest) in
    omega (arith, e)

-- ---- behind `split`

abbrev pub NoSplit : List ℕ → Type 0
NoSplit text = (x : ℕ) (vs : List ℕ) (rest : List ℕ) → HasLine (Split x vs) → text ≡ split_tail x vs rest → ⊥

pub no_split_x : (text : List ℕ) → NoField 4294967295 text → NoSplit text
no_split_x text none x vs rest h e =
    none x _ (field_there text 4294967295 x (flat_map spaced vs ++ (line_end ++ rest)) (omega (arith, h.0)) (places_end vs rest) e)

behind_places : (text : List ℕ) (y : ℕ) (left ws more : List ℕ) → BeginsField text 4294967295 y left → BeginsPlaces left ws more
    → (x : ℕ) (vs rest : List ℕ) → HasLine (Split x vs) → text ≡ split_tail x vs rest → (ws ≡ vs) × (more ≡ line_end ++ rest)
behind_places text y left ws more has all x vs rest h e =
    places_same left ws more vs rest all h.1.0 (behind_x text y left has x (flat_map spaced vs ++ (line_end ++ rest)) h.0 (places_end vs rest) e)

pub no_split_places : (text : List ℕ) (y : ℕ) (left ws more : List ℕ) → BeginsField text 4294967295 y left → BeginsPlaces left ws more → ws ≡ [] → NoSplit text
no_split_places text y left ws more has all none x vs rest h e =
    let same = behind_places text y left ws more has all x vs rest h e in
    let long : length vs ≡ 0 = ap (λ (l : List ℕ). length l) (sym same.0 ∙ none) in
    omega (arith, h.1.1, long)

pub no_split_end : (text : List ℕ) (y : ℕ) (left ws more : List ℕ) → BeginsField text 4294967295 y left → BeginsPlaces left ws more
    → ((rest : List ℕ) → more ≢ line_end ++ rest) → NoSplit text
no_split_end text y left ws more has all none x vs rest h e = none rest (behind_places text y left ws more has all x vs rest h e).1

some_places : (vs : List ℕ) → vs ≢ [] → 0 < length vs
some_places [] other = absurd (other refl)
some_places (v ∷ vs) other = omega arith

pub split_is : (text : List ℕ) (x : ℕ) (left vs more rest : List ℕ) → BeginsField text 4294967295 x left → BeginsPlaces left vs more → vs ≢ []
    → more ≡ line_end ++ rest → BeginsNode (codes "split" ++ text) (Split x vs) rest
split_is text x left vs more rest has all some e =
    record {
      line = (omega (arith, has.number.small), (all.places, some_places vs some));
      text_is = ap (λ (l : List ℕ). codes "split" ++ l) (field_text text 4294967295 x left has
          ∙ ap (λ (l : List ℕ). spaced x ++ l) (all.text_is ∙ ap (λ (l : List ℕ). flat_map spaced vs ++ l) e))
          ∙ sym (split_onto x vs rest);
    }

-- ---- which word it is

pub no_word : (text : List ℕ) → ((rest : List ℕ) → text ≢ codes "remove" ++ rest) → ((rest : List ℕ) → text ≢ codes "split" ++ rest)
    → ((rest : List ℕ) → text ≢ codes "fail" ++ rest) → BeginsNoNode text
no_word text r s f (Remove x v c) rest has = r (remove_tail x v c rest) (has.text_is ∙ remove_onto x v c rest)
no_word text r s f (Split x vs) rest has = s (split_tail x vs rest) (has.text_is ∙ split_onto x vs rest)
no_word text r s f (Fail c) rest has = f (fail_tail c rest) (has.text_is ∙ fail_onto c rest)

only_remove : (text tail : List ℕ) → text ≡ codes "remove" ++ tail → NoRemove tail → BeginsNoNode text
only_remove text tail e none (Remove x v c) rest has =
    none x v c rest has.line (append_cancel_left (codes "remove") _ _ (sym e ∙ (has.text_is ∙ remove_onto x v c rest)))
only_remove text tail e none (Split x vs) rest has = apart 114 115 _ _ (λ f. omega (arith, f)) (sym e ∙ has.text_is)
only_remove text tail e none (Fail c) rest has = apart 114 102 _ _ (λ f. omega (arith, f)) (sym e ∙ has.text_is)

only_split : (text tail : List ℕ) → text ≡ codes "split" ++ tail → NoSplit tail → BeginsNoNode text
only_split text tail e none (Remove x v c) rest has = apart 115 114 _ _ (λ f. omega (arith, f)) (sym e ∙ has.text_is)
only_split text tail e none (Split x vs) rest has =
    none x vs rest has.line (append_cancel_left (codes "split") _ _ (sym e ∙ (has.text_is ∙ split_onto x vs rest)))
only_split text tail e none (Fail c) rest has = apart 115 102 _ _ (λ f. omega (arith, f)) (sym e ∙ has.text_is)

only_fail : (text tail : List ℕ) → text ≡ codes "fail" ++ tail → NoLast tail → BeginsNoNode text
only_fail text tail e none (Remove x v c) rest has = apart 102 114 _ _ (λ f. omega (arith, f)) (sym e ∙ has.text_is)
only_fail text tail e none (Split x vs) rest has = apart 102 115 _ _ (λ f. omega (arith, f)) (sym e ∙ has.text_is)
only_fail text tail e none (Fail c) rest has =
    none c rest has.line (append_cancel_left (codes "fail") _ _ (sym e ∙ (has.text_is ∙ fail_onto c rest)))

pub fail_is : (text : List ℕ) (c : ℕ) (rest : List ℕ) → c < 2 ^ 64 → text ≡ spaced c ++ (line_end ++ rest) → BeginsNode (codes "fail" ++ text) (Fail c) rest
fail_is text c rest fits e = record { line = fits; text_is = ap (λ (l : List ℕ). codes "fail" ++ l) e ∙ sym (fail_onto c rest) }

-- ---- what is told of the whole line

abbrev pub Read : Type 0
Read = Option (code.Node × Bor (List ℕ))

abbrev pub Told : List ℕ → Type 0 → Read → Type 0
Told text none r = MatchOption r none (λ found. BeginsNode text (shown found.0) found.1.now)

told : (text there : List ℕ) (absent : Type 0) (r : Read) → text ≡ there → (absent → BeginsNoNode text) → Told there absent r → Told text (BeginsNoNode text) r
told text there absent None e to has = to has
told text there absent (Some found) e to has = record { line = has.line; text_is = e ∙ has.text_is }

pub told_remove : (text tail : List ℕ) (r : Read) → text ≡ codes "remove" ++ tail → Told (codes "remove" ++ tail) (NoRemove tail) r → Told text (BeginsNoNode text) r
told_remove text tail r e has = told text (codes "remove" ++ tail) (NoRemove tail) r e (only_remove text tail e) has

pub told_fail : (text tail : List ℕ) (r : Read) → text ≡ codes "fail" ++ tail → Told (codes "fail" ++ tail) (NoLast tail) r → Told text (BeginsNoNode text) r
told_fail text tail r e has = told text (codes "fail" ++ tail) (NoLast tail) r e (only_fail text tail e) has

pub told_split : {E : Type 0} (text tail : List ℕ) (r : Result Read E) → text ≡ codes "split" ++ tail
    → IfOk r (λ read. Told (codes "split" ++ tail) (NoSplit tail) read) → IfOk r (λ read. Told text (BeginsNoNode text) read)
told_split text tail (Ok read) e has = told text (codes "split" ++ tail) (NoSplit tail) read e (only_split text tail e) has
told_split text tail (Err none) e has = has
