-- A project that was numbered is whole, and its elements stand where the marks of its files say.
use Rattle.std.proofs.Common.{◌≡◌, ℕ, ◌+◌, ◌<◌, ◌≤◌, ◌^◌, Bool, List, [], ◌∷◌, Some, All, Contains, length, sum, sym, ap, ◌∙◌, subst, slice_get, arith}
use Rattle.std.specs.List.{AllByRecursion}
use Rattle.std.proofs.lemmas.List.Elements.{All-get_or, All-from_recursion, recursion_from_All}
use Rattle.std.proofs.lemmas.Option.{slice_get_within, get_or_from_slice_get}
use Rattle.rf_jtree.specs.declared.tokens.Tok.{Tok}
use Rattle.rf_jtree.specs.DeclTrees.{UnitTree, unit_yield}
use Rattle.rf_jtree.specs.Kinds.{IsIdent}
use Rattle.rf_jview.specs.declared.marks.Mark.{Mark}
use Rattle.rf_jview.specs.DeclMarks.{unit_marks}
use Rattle.rf_jmodel.specs.declared.projects.PlacedUnit.{PlacedUnit}
use Rattle.rf_jmodel.specs.ElementLists.{places_from, places_in}
use Rattle.rf_jmodel.specs.Elements.{HasElement, AreKeys}
use Rattle.rf_jmodel.specs.Numbering.{numbered_unit, numbered_units, numbered}
use Rattle.rf_jmodel.specs.ProjectNames.{texts_of, package_text}
use Rattle.rf_jmodel.specs.Units.{HasUnit, TokAt, MarkAt, KeyAt, tree_of, marks_of}
use Rattle.rf_jmodel.specs.Whole.{IsParsed, IsWhole, HasBasicTypes, HasKey, token_count}
use Rattle.rf_jmodel.proofs.KeyLemmas.{pairs-from}
use Rattle.rf_jmodel.proofs.ListLemmas.{marked-from, marked-in, in-file, from-file, rises-in}
use Rattle.rf_jmodel.proofs.NameLemmas.{with_texts-has, has-identifier, has-unit, package-there, identifier-there}
use Rattle.rf_jmodel.proofs.NumberLemmas.{came, entries-length, entries-has, key-is, numbered-length, numbered-counts, stays}

parsed-one : (u : ℕ) (unit : PlacedUnit) → IsParsed unit → IsParsed (numbered_unit u unit)
parsed-one u unit parsed = record { yields = parsed.yields; is_tree = parsed.is_tree }

parsed-each : (u : ℕ) (units : List PlacedUnit) → AllByRecursion IsParsed units → AllByRecursion IsParsed (numbered_units u units)
parsed-each u [] all = tt
parsed-each u (unit ∷ units) all = (parsed-one u unit all.0, parsed-each (u + 1) units all.1)

parsed-at : (units : List PlacedUnit) (u : ℕ) (unit : PlacedUnit) → All IsParsed units → slice_get units u ≡ Some unit → IsParsed unit
parsed-at units u unit all has = subst IsParsed (get_or_from_slice_get units u unit unit has) (All-get_or IsParsed units u unit (slice_get_within units u unit has) all)

zero-more : (n : ℕ) → 0 + n ≡ n
zero-more n = omega arith

module _ (units : List PlacedUnit) (own lib : ℕ) where
  in-place : (u k : ℕ) (key : ℕ × ℕ) → KeyAt (numbered units own lib) u k key → key ≡ (u, k)
  in-place u k key at =
      let old = came 0 u units at.unit at.has_unit in
      key-is (0 + u) 0 k old.old.toks.list key (subst (λ (unit : PlacedUnit). slice_get unit.from k ≡ Some (Some key)) old.is at.has_key)
      ∙ ap (λ (file : ℕ). (file, 0 + k)) (zero-more u) ∙ ap (λ (tok : ℕ). (u, tok)) (zero-more k)

  once : (u k v l : ℕ) (key : ℕ × ℕ) → KeyAt (numbered units own lib) u k key → KeyAt (numbered units own lib) v l key → (u ≡ v) × (k ≡ l)
  once u k v l key one other =
      let same : (u, k) ≡ (v, l) = sym (in-place u k key one) ∙ in-place v l key other in
      (ap (λ (place : ℕ × ℕ). place.0) same, ap (λ (place : ℕ × ℕ). place.1) same)

  has-entries : (u : ℕ) (unit : PlacedUnit) → HasUnit (numbered units own lib) u unit → length unit.from ≡ length unit.toks.list
  has-entries u unit has =
      let old = came 0 u units unit has in
      subst (λ (one : PlacedUnit). length one.from ≡ length one.toks.list) (sym old.is) (entries-length (0 + u) 0 old.old.toks.list)

  key-at : (u k : ℕ) (unit : PlacedUnit) → HasUnit (numbered units own lib) u unit → k < length unit.toks.list
      → KeyAt (numbered units own lib) u k (0 + u, 0 + k)
  key-at u k unit has below =
      let old = came 0 u units unit has in
      let within : k < length old.old.toks.list = subst (λ (one : PlacedUnit). k < length one.toks.list) old.is below in
      let entry = entries-has (0 + u) 0 k old.old.toks.list within in
      record {
        unit = unit;
        has_unit = has;
        has_key = subst (λ (one : PlacedUnit). slice_get one.from k ≡ Some (Some (0 + u, 0 + k))) (sym old.is) entry;
      }

  has-text : (u k : ℕ) (tok : Tok) → TokAt (numbered units own lib) u k tok → IsIdent tok → Contains (numbered units own lib).names tok.text
  has-text u k tok at is =
      let old = came 0 u units at.unit at.has_unit in
      let there : slice_get old.old.toks.list k ≡ Some tok = subst (λ (one : PlacedUnit). slice_get one.toks.list k ≡ Some tok) old.is at.has_tok in
      with_texts-has [] (texts_of units) tok.text
      (has-unit units u old.old tok.text old.stood (identifier-there old.old tok.text (has-identifier old.old.toks.list k tok there is)))

  has-package : (u : ℕ) (unit : PlacedUnit) → HasUnit (numbered units own lib) u unit → Contains (numbered units own lib).names (package_text unit.tree)
  has-package u unit has =
      let old = came 0 u units unit has in
      subst (λ (one : PlacedUnit). Contains (numbered units own lib).names (package_text one.tree)) (sym old.is)
      (with_texts-has [] (texts_of units) (package_text old.old.tree) (has-unit units u old.old (package_text old.old.tree) old.stood (package-there old.old)))

  module _ (all : All IsParsed units) (laws : (tree : UnitTree) → length (unit_marks tree) ≡ length (unit_yield tree)) where
    all-parsed : All IsParsed (numbered_units 0 units)
    all-parsed = All-from_recursion IsParsed (numbered_units 0 units) (parsed-each 0 units (recursion_from_All IsParsed units all))

    pub key-of-mark : (u k : ℕ) (mark : Mark) → MarkAt (numbered units own lib) u k mark → KeyAt (numbered units own lib) u k (0 + u, 0 + k)
    key-of-mark u k mark at =
        let within = slice_get_within (marks_of at.unit) k mark at.has_mark in
        let counts = laws (tree_of at.unit) ∙ ap (λ (toks : List Tok). length toks) (parsed-at (numbered_units 0 units) u at.unit all-parsed at.has_unit).yields in
        key-at u k at.unit at.has_unit (subst (λ (n : ℕ). k < n) counts within)

    marked-key : (u k : ℕ) (mark : Mark) → MarkAt (numbered units own lib) u k mark → HasKey (numbered units own lib) u k
    marked-key u k mark at = ((0 + u, 0 + k), key-of-mark u k mark at)

    -- each place in the files is an element's key, and no other is
    stands : (of : Mark → Bool) (key : ℕ × ℕ) → Contains (places_in of 0 units) key → HasElement (numbered units own lib) of key
    stands of key has =
        let found = in-file of 0 units key has in
        let marked = marked-from of (0 + found.v) 0 (marks_of found.unit) key found.has in
        let at : MarkAt (numbered units own lib) found.v marked.k marked.mark =
        record { unit = numbered_unit (0 + found.v) found.unit; has_unit = stays 0 found.v units found.unit found.at; has_mark = marked.at } in
        record {
          u = found.v;
          k = marked.k;
          stands = record {
            mark = marked.mark;
            has_mark = at;
            is_of = marked.is_of;
            has_key = subst (λ (one : ℕ × ℕ). KeyAt (numbered units own lib) found.v marked.k one) (sym marked.is) (key-of-mark found.v marked.k marked.mark at);
          };
        }

    stood : (of : Mark → Bool) (key : ℕ × ℕ) → HasElement (numbered units own lib) of key → Contains (places_in of 0 units) key
    stood of key element =
        let at = element.stands.has_mark in
        let old = came 0 element.u units at.unit at.has_unit in
        let mark-at : slice_get (marks_of old.old) element.k ≡ Some element.stands.mark =
        subst (λ (one : PlacedUnit). slice_get (marks_of one) element.k ≡ Some element.stands.mark) old.is at.has_mark in
        let place : (0 + element.u, 0 + element.k) ≡ key =
        ap (λ (file : ℕ). (file, 0 + element.k)) (zero-more element.u) ∙ ap (λ (tok : ℕ). (element.u, tok)) (zero-more element.k)
        ∙ sym (in-place element.u element.k key element.stands.has_key) in
        let has = marked-in of (0 + element.u) 0 element.k (marks_of old.old) element.stands.mark mark-at element.stands.is_of in
        from-file of 0 element.u units old.old key old.stood (subst (λ (one : ℕ × ℕ). Contains (places_from of (0 + element.u) 0 (marks_of old.old)) one) place has)

    pub are-keys : (of : Mark → Bool) → AreKeys (HasElement (numbered units own lib) of) (places_in of 0 units)
    are-keys of = record { rising = pairs-from (places_in of 0 units) (rises-in of 0 units); exact = λ key. (stands of key, stood of key) }

    pub whole : own + lib ≤ length units → token_count units < 2 ^ 30 → HasBasicTypes (numbered units own lib) → IsWhole (numbered units own lib)
    whole within few basic = record {
      counted = subst (λ (n : ℕ). own + lib ≤ n) (sym (numbered-length 0 units)) within;
      parsed = all-parsed;
      has_entries = has-entries;
      few = subst (λ (n : ℕ). n < 2 ^ 30) (sym (ap sum (numbered-counts 0 units))) few;
      once = once;
      keeps_declarations = λ u k mark at declared. marked-key u k mark at;
      keeps_references = λ u k at. marked-key u k at.mark at.has_mark;
      names_declarations = λ u k mark tok at declared has is. has-text u k tok has is;
      names_references = λ u k i tok at names has is. has-text u i tok has is;
      names_packages = has-package;
      has_basic_types = basic;
    }
