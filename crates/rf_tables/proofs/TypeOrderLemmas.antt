-- The keys of the types of a whole project in element order.
use Rattle.std.proofs.Common.{◌≡◌, ℕ, ◌+◌, ◌<◌, ◌↔◌, Bool, true, false, cond, ltb, nat_eq, List, Option, Some, None, AllPairs, Contains, length, map, get_or, position, option_map, refl, sym, ap, ◌∙◌, subst, inl, inr, slice_get, arith}
use Rattle.std.specs.List.Sorted.{IsPermutation}
use Rattle.std.proofs.lemmas.Bool.{cases_lt, eq-eqb, cond-true, lt-ltb}
use Rattle.std.proofs.lemmas.Cmp.{nat_eq_equiv}
use Rattle.std.proofs.lemmas.List.{get_or-map, length-map}
use Rattle.std.proofs.lemmas.List.Elements.{Contains-get_or}
use Rattle.std.proofs.lemmas.List.Sorted.{Contains-permutation, IsPermutation-sym}
use Rattle.std.proofs.lemmas.List.Sums.{position_or_len_is}
use Rattle.std.proofs.lemmas.Map.Keys.{apart_from_distinct, IsDistinct-IsPermutation}
use Rattle.std.proofs.lemmas.Option.{slice_get-get_or, slice_get-map, slice_get_within, get_or_from_slice_get}
use Rattle.rf_jview.specs.declared.marks.Mark.{Mark}
use Rattle.rf_jview.specs.declared.marks.Mark.TheVariants as m
use Rattle.rf_jmodel.specs.declared.ids.TypeId.{TypeId}
use Rattle.rf_jmodel.specs.declared.ids.UnitId.{UnitId}
use Rattle.rf_jmodel.specs.declared.projects.PlacedUnit.{PlacedUnit}
use Rattle.rf_jmodel.specs.declared.projects.Project.{Project}
use Rattle.rf_jmodel.specs.Elements.{AreKeys, HasElement, IsBefore, StandsAt, is_type}
use Rattle.rf_jmodel.specs.OneType.{DeclaresOneType}
use Rattle.rf_jmodel.specs.Subtypes.{IsTypeId}
use Rattle.rf_jmodel.specs.Units.{HasUnit, MarkAt, tree_of, marks_of}
use Rattle.rf_jmodel.specs.Whole.{IsWhole}
use Rattle.rf_jmodel.proofs.DeclTypes.{unit_typed}
use Rattle.rf_symtab.proofs.ListLemmas.{some-is, none-some, there}
use Rattle.rf_symtab.proofs.TypeIdLemmas.{unit-one}
use Rattle.rf_tables.specs.declared.type_keys.TypeKey.{TypeKey}
use Rattle.rf_tables.specs.TypeKeys.{AreInOrder, entry_at, entry_of, file_of, key_of, type_entry, type_keys}
use Rattle.rf_tables.proofs.TypeMarkLemmas.{is-type, place}
use Rattle.rf_tables.proofs.KeyLemmas.{made, keys-from, keys-have, is_same_file, distinct-files}

not-both : true ≡ false → ⊥
not-both same = cc

-- of two different keys the first is before the second where the second isn't before the first
stands-before : (one other : ℕ × ℕ) → (IsBefore other one → ⊥) → (one ≡ other → ⊥) → IsBefore one other
stands-before one other not-after differ =
    elim (cases_lt one.0 other.0) [
      | inl less ↦ inl less
      | inr least ↦ elim (cases_lt other.0 one.0) [
        | inl more ↦ absurd (not-after (inl more))
        | inr most ↦ same-file one other not-after differ (omega (arith, least, most))
      ]
    ]
  where
    pair : (a b c d : ℕ) → a ≡ c → b ≡ d → ◌≡◌ {A = ℕ × ℕ} (a, b) (c, d)
    pair a b c d first second = cc

    same-file : (one other : ℕ × ℕ) → (IsBefore other one → ⊥) → (one ≡ other → ⊥) → one.0 ≡ other.0 → IsBefore one other
    same-file one other not-after differ same =
        elim (cases_lt one.1 other.1) [
          | inl less ↦ inr (same, less)
          | inr least ↦ elim (cases_lt other.1 one.1) [
            | inl more ↦ absurd (not-after (inr (sym same, more)))
            | inr most ↦ absurd (differ (pair one.0 one.1 other.0 other.1 same (omega (arith, least, most))))
          ]
        ]

-- the first mark that declares a type is the one
not-before : (marks : List Mark) (typed : DeclaresOneType marks) (k : ℕ) → k < typed.at → (test : Bool) → is_type (get_or marks k m.Plain) ≡ test → test ≡ false
not-before marks typed k less false is = refl
not-before marks typed k less true is =
    let within = slice_get_within marks typed.at m.Type typed.declared in
    let at = slice_get-get_or marks k m.Plain (omega (arith, less, within)) ∙ ap (λ (mark : Mark). Some mark) (is-type (get_or marks k m.Plain) is) in
    let same = typed.only k at in
    absurd (omega (arith, less, same))

first-place : (marks : List Mark) (typed : DeclaresOneType marks) → position is_type marks ≡ Some typed.at
first-place marks typed =
    let within = slice_get_within marks typed.at m.Type typed.declared in
    let here = position_or_len_is is_type marks typed.at m.Plain (omega (arith, within))
    (λ k less. not-before marks typed k less (is_type (get_or marks k m.Plain)) refl)
    (λ below. ap (λ (mark : Mark). is_type mark) (get_or_from_slice_get marks typed.at m.Type m.Plain typed.declared)) in
    ap (λ (n : ℕ). cond (ltb n (length marks)) (Some n) None) here
    ∙ cond-true (ltb typed.at (length marks)) (Some typed.at) None (lt-ltb typed.at (length marks) within)

-- the entry of a file's type
abbrev place_of : PlacedUnit → ℕ
place_of file = (unit_typed (tree_of file)).at

entry-is : (file : PlacedUnit) → type_entry file ≡ entry_of (slice_get file.from (place_of file))
entry-is file = ap (λ (at : Option ℕ). entry_at file.from at) (first-place (marks_of file) (unit_typed (tree_of file)))

entry-there : (from : List (Option (ℕ × ℕ))) (k : ℕ) (entry : ℕ × ℕ) → entry_of (slice_get from k) ≡ Some entry → slice_get from k ≡ Some (Some entry)
entry-there from k entry is = by (slice_get from k) refl
  where
    by : (found : Option (Option (ℕ × ℕ))) → slice_get from k ≡ found → slice_get from k ≡ Some (Some entry)
    by None at = absurd (none-some (sym (ap (λ (one : Option (Option (ℕ × ℕ))). entry_of one) at) ∙ is))
    by (Some found) at = at ∙ ap (λ (one : Option (ℕ × ℕ)). Some one) (sym (ap (λ (one : Option (Option (ℕ × ℕ))). entry_of one) at) ∙ is)

module _ (project : Project) (whole : IsWhole project) where
  -- the type of a file stands where its key says, and each has a key
  stands-there : (u : ℕ) (file : PlacedUnit) (entry : ℕ × ℕ) → HasUnit project u file → type_entry file ≡ Some entry
      → StandsAt project is_type u (place_of file) entry
  stands-there u file entry has is = record {
    mark = m.Type;
    has_mark = record { unit = file; has_unit = has; has_mark = (unit_typed (tree_of file)).declared };
    is_of = refl;
    has_key = record { unit = file; has_unit = has; has_key = entry-there file.from (place_of file) entry (sym (entry-is file) ∙ is) };
  }

  entry-from : (u : ℕ) (file : PlacedUnit) (entry : ℕ × ℕ) (k : ℕ) → HasUnit project u file → StandsAt project is_type u k entry
      → type_entry file ≡ Some entry
  entry-from u file entry k has stands =
      let same = unit-one project u stands.has_key.unit file stands.has_key.has_unit has in
      let key = subst (λ (one : PlacedUnit). slice_get one.from k ≡ Some (Some entry)) same stands.has_key.has_key in
      let at = subst (λ (place : ℕ). slice_get file.from place ≡ Some (Some entry)) (place project u k entry file has stands) key in
      entry-is file ∙ ap (λ (one : Option (Option (ℕ × ℕ))). entry_of one) at

  has-entry : (u : ℕ) (file : PlacedUnit) → HasUnit project u file → (entry : ℕ × ℕ) × (type_entry file ≡ Some entry)
  has-entry u file has =
      let mark : MarkAt project u (place_of file) m.Type = record { unit = file; has_unit = has; has_mark = (unit_typed (tree_of file)).declared } in
      let key = whole.keeps_declarations u (place_of file) m.Type mark refl in
      let stands : StandsAt project is_type u (place_of file) key.0 = record { mark = m.Type; has_mark = mark; is_of = refl; has_key = key.1 } in
      (key.0, entry-from u file key.0 (place_of file) has stands)

  module _ (keys : List TypeKey) (moved : IsPermutation (type_keys 0 project.units) keys) (order : AreInOrder keys) where
    abbrev entries : List (ℕ × ℕ)
    entries = map key_of keys

    record TypeOf (key : TypeKey) : Type 0 where
      file : PlacedUnit
      has : HasUnit project key.unit file
      stands : StandsAt project is_type key.unit (place_of file) (key_of key)

    type-of : (key : TypeKey) → Contains keys key → TypeOf key
    type-of key among =
        let found = keys-from 0 project.units key (Contains-permutation keys (type_keys 0 project.units) key (IsPermutation-sym (type_keys 0 project.units) keys moved) among) in
        let has = subst (λ (u : ℕ). HasUnit project u found.file) (sym (found.is_file ∙ none found.u)) found.at in
        record { file = found.file; has = has; stands = stands-there key.unit found.file (key_of key) has found.has_entry }
      where
        none : (u : ℕ) → 0 + u ≡ u
        none u = omega arith

    key-there : (u : ℕ) (file : PlacedUnit) (entry : ℕ × ℕ) → HasUnit project u file → type_entry file ≡ Some entry → Contains keys (made u entry)
    key-there u file entry has is =
        Contains-permutation (type_keys 0 project.units) keys (made u entry) moved
        (subst (λ (n : ℕ). Contains (type_keys 0 project.units) (made n entry)) none (keys-have 0 project.units u file entry has is))
      where
        none : 0 + u ≡ u
        none = omega arith

    -- the keys rise
    abbrev zeros : TypeKey
    zeros = record { file = 0; token = 0; unit = 0 }

    one-file : (one other : TypeKey) → Contains keys one → Contains keys other → key_of one ≡ key_of other → nat_eq one.unit other.unit ≡ true
    one-file one other among other-among same =
        let first = type-of one among in
        let second = type-of other other-among in
        let key = subst (λ (entry : ℕ × ℕ). StandsAt project is_type one.unit (place_of first.file) entry) same first.stands in
        eq-eqb one.unit other.unit
        (whole.once one.unit (place_of first.file) other.unit (place_of second.file) (key_of other) key.has_key second.stands.has_key).0

    rise : (i j : ℕ) (d : ℕ × ℕ) → i < j → j < length entries → IsBefore (get_or entries i d) (get_or entries j d)
    rise i j d less below =
        subst (λ (entry : ℕ × ℕ). IsBefore entry (get_or entries j d)) (sym (get_or-map key_of keys i zeros d before))
        (subst (λ (entry : ℕ × ℕ). IsBefore (key_of one) entry) (sym (get_or-map key_of keys j zeros d within))
        (stands-before (key_of one) (key_of other) (order i j zeros less within) differ))
      where
        within : j < length keys
        within = subst (λ (n : ℕ). j < n) (length-map keys key_of) below

        before : i < length keys
        before = omega (arith, less, within)

        one : TypeKey
        one = get_or keys i zeros

        other : TypeKey
        other = get_or keys j zeros

        apart : nat_eq one.unit other.unit ≡ false
        apart =
            apart_from_distinct is_same_file keys i j zeros
            (IsDistinct-IsPermutation is_same_file (λ x y. nat_eq_equiv.symm x.unit y.unit) (type_keys 0 project.units) keys moved (distinct-files 0 project.units))
            less within

        differ : key_of one ≡ key_of other → ⊥
        differ same = not-both (sym (one-file one other (Contains-get_or keys i zeros before) (Contains-get_or keys j zeros within) same) ∙ apart)

    rising : AllPairs IsBefore entries
    rising = λ i j d less below. rise i j d less below

    -- and are those of the project's types
    mapped : {A : Type 0} (f : TypeKey → A) (key : TypeKey) → Contains keys key → Contains (map f keys) (f key)
    mapped {A} f key among = (
      among.0,
      subst (λ (n : ℕ). among.0 < n) (sym (length-map keys f)) among.1,
      get_or-map f keys among.0 key (f key) among.1 ∙ ap f among.2,
    )

    record From (A : Type 0) (f : TypeKey → A) (item : A) : Type 0 where
      key : TypeKey
      among : Contains keys key
      is : f key ≡ item

    from-map : {A : Type 0} (f : TypeKey → A) (item : A) → Contains (map f keys) item → From A f item
    from-map {A} f item has =
        let within : has.0 < length keys = subst (λ (n : ℕ). has.0 < n) (length-map keys f) has.1 in
        record {
          key = get_or keys has.0 zeros;
          among = Contains-get_or keys has.0 zeros within;
          is = sym (get_or-map f keys has.0 zeros item within) ∙ has.2;
        }

    are-keys : AreKeys (HasElement project is_type) entries
    are-keys = record { rising = rising; exact = λ key. (to key, from key) }
      where
        to : (key : ℕ × ℕ) → Contains entries key → HasElement project is_type key
        to key has =
            let found = from-map key_of key has in
            let typed = type-of found.key found.among in
            record {
              u = found.key.unit;
              k = place_of typed.file;
              stands = subst (λ (entry : ℕ × ℕ). StandsAt project is_type found.key.unit (place_of typed.file) entry) found.is typed.stands;
            }

        from : (key : ℕ × ℕ) → HasElement project is_type key → Contains entries key
        from key element =
            let mark = element.stands.has_mark in
            mapped key_of (made element.u key)
            (key-there element.u mark.unit key mark.has_unit (entry-from element.u mark.unit key element.k mark.has_unit element.stands))

    -- so the place of a type's file is its id
    abbrev files : List UnitId
    files = map file_of keys

    pub ids : (id : TypeId) (unit : UnitId) → slice_get files id.0 ≡ Some unit → IsTypeId project id unit.0
    ids id unit has = by (slice_get keys id.0) refl
      where
        of-key : (key : TypeKey) → slice_get keys id.0 ≡ Some key → file_of key ≡ unit → IsTypeId project id unit.0
        of-key key at same =
            let among = subst (λ (one : TypeKey). Contains keys one) (get_or_from_slice_get keys id.0 key key at)
            (Contains-get_or keys id.0 key (slice_get_within keys id.0 key at)) in
            let typed = type-of key among in
            record {
              key = key_of key;
              has_id = record {
                keys = entries;
                are_keys = are-keys;
                at = slice_get-map key_of keys id.0 ∙ ap (λ (one : Option TypeKey). option_map key_of one) at;
              };
              k = place_of typed.file;
              stands = subst (λ (one : UnitId). StandsAt project is_type one.0 (place_of typed.file) (key_of key)) same typed.stands;
            }

        by : (found : Option TypeKey) → slice_get keys id.0 ≡ found → IsTypeId project id unit.0
        by None at = absurd (none-some (sym (slice_get-map file_of keys id.0 ∙ ap (λ (one : Option TypeKey). option_map file_of one) at) ∙ has))
        by (Some key) at =
            of-key key at (some-is (sym (slice_get-map file_of keys id.0 ∙ ap (λ (one : Option TypeKey). option_map file_of one) at) ∙ has))

    pub all : (unit : UnitId) → Contains files unit ↔ (unit.0 < length project.units)
    all unit = (to, from)
      where
        to : Contains files unit → unit.0 < length project.units
        to has =
            let found = from-map file_of unit has in
            let typed = type-of found.key found.among in
            subst (λ (one : UnitId). one.0 < length project.units) found.is (slice_get_within project.units found.key.unit typed.file typed.has)

        from : unit.0 < length project.units → Contains files unit
        from below =
            let file = there project.units unit.0 below in
            let entry = has-entry unit.0 file.0 file.1 in
            mapped file_of (made unit.0 entry.0) (key-there unit.0 file.0 entry.0 file.1 entry.1)
