-- The names of fields, one after the other, and whether a name is among them.
use Rattle.std.proofs.Common.{◌≡◌, ◌≢◌, ℕ, ◌+◌, ◌<◌, ◌≤◌, true, false, List, [], ◌∷◌, ◌++◌, ◌⊎◌, inl, inr, length, get_or, take, map, Some, slice_get, Contains, AllPairs, ap, sym, ◌∙◌, subst, arith, length-take, get_or-take}
use Rattle.std.specs.List.{list_any}
use Rattle.std.specs.Str.{bytes_eq}
use Rattle.std.proofs.lemmas.Bool.{true≢false, cases_Bool}
use Rattle.std.proofs.lemmas.Cmp.{nat_list_eq_equiv}
use Rattle.std.proofs.lemmas.Slice.Eq.{bytes_eq-Decides}
use Rattle.std.proofs.lemmas.Map.Views.{list_any-from_Contains, Contains-from_any}
use Rattle.std.proofs.lemmas.List.{map-append, length-map, take_more, take-map, get_or-map, get_or_append_left}
use Rattle.std.proofs.lemmas.List.Elements.{Contains-get_or}
use Rattle.std.proofs.lemmas.List.Quantifiers.{all_pairs_push}
use Rattle.std.proofs.lemmas.Option.{slice_get_within, get_or_from_slice_get}
use Rattle.rf_text.specs.Names.{Interned}
use Rattle.rf_engine.specs.declared.class_file.FieldParts.{FieldParts}
use Rattle.rf_engine.specs.Seen.{field_seen}

-- a text is found in a list exactly where it is there
list_any-Contains : (text : List ℕ) (texts : List (List ℕ)) → list_any (bytes_eq text) texts ≡ true → Contains texts text
list_any-Contains text texts found = Contains-from_any (λ x y. (bytes_eq-Decides x y).0) text texts found

pub Contains-list_any : (text : List ℕ) (texts : List (List ℕ)) → Contains texts text → list_any (bytes_eq text) texts ≡ true
Contains-list_any text texts there = list_any-from_Contains nat_list_eq_equiv text texts there

pub list_any-missing : (text : List ℕ) (texts : List (List ℕ)) → ¬ Contains texts text → list_any (bytes_eq text) texts ≡ false
list_any-missing text texts missing =
    elim (cases_Bool (list_any (bytes_eq text) texts)) [
      | inl found ↦ absurd (missing (list_any-Contains text texts found))
      | inr missed ↦ missed
    ]

-- the names of the fields cut from a file
abbrev pub names_seen : List FieldParts → List (List ℕ)
names_seen fields = map (λ field. field.name) (map field_seen fields)

names_seen-more : (fields : List FieldParts) (i : ℕ) (d : FieldParts) → i < length fields → names_seen (take (i + 1) fields) ≡ names_seen (take i fields) ++ (get_or fields i d).name.now ∷ []
names_seen-more fields i d within =
    ap names_seen (take_more fields i d within) ∙ simp map-append

length-names_seen : (fields : List FieldParts) → length (names_seen fields) ≡ length fields
length-names_seen fields = simp length-map

take-names_seen : (i : ℕ) (fields : List FieldParts) → names_seen (take i fields) ≡ take i (names_seen fields)
take-names_seen i fields = sym (take-map (λ field. field.name) i (map field_seen fields) ∙ ap (map (λ field. field.name)) (take-map field_seen i fields))

get_or-names_seen : (fields : List FieldParts) (i : ℕ) (d : FieldParts) (e : List ℕ) → i < length fields → get_or (names_seen fields) i e ≡ (get_or fields i d).name.now
get_or-names_seen fields i d e within =
    let within_seen : i < length (map field_seen fields) = omega (arith, length-map fields field_seen) in
    get_or-map (λ field. field.name) (map field_seen fields) i (field_seen d) e within_seen ∙ ap (λ field. field.name) (get_or-map field_seen fields i d (field_seen d) within)

-- a text is in a list or not
contains_or_not : (texts : List (List ℕ)) (text : List ℕ) → Contains texts text ⊎ (¬ Contains texts text)
contains_or_not texts text =
    elim (cases_Bool (list_any (bytes_eq text) texts)) [
      | inl found ↦ inl (list_any-Contains text texts found)
      | inr missed ↦ inr (λ there. true≢false (sym (Contains-list_any text texts there) ∙ missed))
    ]

-- a text that got an old place was there, and one that got a new place was not
interned_before : (old : List (List ℕ)) (text : List ℕ) (place : ℕ) (new : List (List ℕ)) → Interned old text place new → place < length old → Contains old text
interned_before old text place new interned before =
    elim (contains_or_not old text) [
      | inl there ↦ there
      | inr missing ↦
          let at_place = subst (λ texts. slice_get texts place ≡ Some text) (interned.fresh missing) interned.stands in
          (place, before, sym (get_or_append_left old (text ∷ []) text place before) ∙ get_or_from_slice_get (old ++ text ∷ []) place text text at_place)
    ]

interned_behind : (old : List (List ℕ)) (text : List ℕ) (place : ℕ) (new : List (List ℕ)) → Interned old text place new → length old ≤ place → ¬ Contains old text
interned_behind old text place new interned behind there =
    let at_place = subst (λ texts. slice_get texts place ≡ Some text) (interned.known there) interned.stands in
    let within = slice_get_within old place text at_place in
    absurd (omega arith)

-- distinct texts stay so with one more that is not among them
distinct_push : (texts : List (List ℕ)) (text : List ℕ) → AllPairs (λ a b. a ≢ b) texts → ¬ Contains texts text → AllPairs (λ a b. a ≢ b) (texts ++ text ∷ [])
distinct_push texts text distinct missing = all_pairs_push (λ a b. a ≢ b) texts text distinct (λ k d within same. missing (subst (Contains texts) same (Contains-get_or texts k d within)))

-- texts are not distinct where one stands before itself
not_distinct : (texts : List (List ℕ)) (i : ℕ) (text : List ℕ) → i < length texts → get_or texts i text ≡ text → Contains (take i texts) text → ¬ AllPairs (λ a b. a ≢ b) texts
not_distinct texts i text within at before distinct =
    let below : before.0 < i = omega (arith, before.1, length-take i texts) in
    distinct before.0 i text below within (sym (get_or-take i texts before.0 text below) ∙ before.2 ∙ sym at)

-- a field whose name got an old place has the name of a field before it
pub field_twice : (fields : List FieldParts) (i : ℕ) (d : FieldParts) (names : List (List ℕ)) (place : ℕ) (new : List (List ℕ)) → i < length fields → names ≡ names_seen (take i fields) → Interned names (get_or fields i d).name.now place new → place < length names → ¬ AllPairs (λ a b. a ≢ b) (names_seen fields)
field_twice fields i d names place new within are interned before =
    let name = (get_or fields i d).name.now in
    let there = interned_before names name place new interned before in
    let there_before = subst (λ texts. Contains texts name) (are ∙ take-names_seen i fields) there in
    not_distinct (names_seen fields) i name (omega (arith, length-names_seen fields)) (get_or-names_seen fields i d name within) there_before

-- and one whose name got a new place adds a name to the distinct ones before it
pub field_once : (fields : List FieldParts) (i : ℕ) (d : FieldParts) (names : List (List ℕ)) (place : ℕ) (new : List (List ℕ)) → i < length fields → names ≡ names_seen (take i fields) → AllPairs (λ a b. a ≢ b) names → Interned names (get_or fields i d).name.now place new → length names ≤ place → (new ≡ names_seen (take (i + 1) fields)) × AllPairs (λ a b. a ≢ b) new
field_once fields i d names place new within are distinct interned behind =
    let name = (get_or fields i d).name.now in
    let missing = interned_behind names name place new interned behind in
    let pushed = interned.fresh missing in (
      pushed ∙ ap (λ texts. texts ++ name ∷ []) are ∙ sym (names_seen-more fields i d within),
      subst (AllPairs (λ a b. a ≢ b)) (sym pushed) (distinct_push names name distinct missing),
    )
