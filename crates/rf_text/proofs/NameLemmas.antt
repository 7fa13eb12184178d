-- A text among the keys of a set of texts.
use Rattle.std.proofs.Common.{◌≡◌, ◌≢◌, ℕ, zero, suc, ◌+◌, ◌<◌, ◌≤◌, Bool, true, false, not, ◌||◌, cond, nat_lt, List, [], ◌∷◌, ◌++◌, length, length-take, get_or, take, Some, None, position, slice_get, Contains, MatchOption, refl, sym, ap, subst, ◌∙◌, arith, true≢false}
use Rattle.std.specs.List.{list_any, position_or_len, IsDistinct, AllByRecursion, AllPairs}
use Rattle.std.specs.Str.{bytes_eq}
use Rattle.std.specs.declared.vec.Vec.{Vec}
use Rattle.std.specs.declared.alloc.Global.{Global}
use Rattle.std.proofs.lemmas.Slice.Eq.{bytes_eq-Decides}
use Rattle.std.proofs.lemmas.List.Elements.{Contains-append_right}
use Rattle.std.proofs.lemmas.List.{map-append, length-map, get_or-map, get_or-take, take-map}
use Rattle.std.proofs.lemmas.Map.Made.{AllPairs-from_IsDistinct}
use Rattle.std.proofs.lemmas.Bool.Decides.{nat_tests}
use Rattle.indexmap.specs.IndexSet.{insert_key}
use Rattle.rf_text.specs.Names.{texts_of}

abbrev Keys : Type 0
Keys = List (Vec ℕ Global)

same : (a b : List ℕ) → bytes_eq a b ≡ true → a ≡ b
same a b = (bytes_eq-Decides a b).0

differs : (a b : List ℕ) → bytes_eq a b ≡ false → a ≡ b → ⊥
differs a b unequal is = true≢false (sym ((bytes_eq-Decides a b).1 is) ∙ unequal)

module _ (text : List ℕ) where
  -- whether a key has the text
  abbrev has_text : Vec ℕ Global → Bool
  has_text key = bytes_eq text key.items

  abbrev first : Keys → ℕ
  first keys = position_or_len has_text keys

  -- where no key has the text, the test finds none
  pub list_any-absent : (keys : Keys) → (Contains (texts_of keys) text → ⊥) → list_any has_text keys ≡ false
  list_any-absent [] absent = refl
  list_any-absent (key ∷ keys) absent = by (has_text key) refl (list_any-absent keys (λ there. absent (Contains-append_right (key.items ∷ []) (texts_of keys) text there)))
    where
      by : (b : Bool) → has_text key ≡ b → list_any has_text keys ≡ false → (b || list_any has_text keys) ≡ false
      by true e rest = absurd (absent (0, omega arith, sym (same text key.items e)))
      by false e rest = rest

  -- and the first place is the length
  pub position_or_len-absent : (keys : Keys) → list_any has_text keys ≡ false → position_or_len has_text keys ≡ length keys
  position_or_len-absent [] absent = refl
  position_or_len-absent (key ∷ keys) absent = by (has_text key) absent (position_or_len-absent keys)
    where
      by : (b : Bool) → (b || list_any has_text keys) ≡ false → (list_any has_text keys ≡ false → first keys ≡ length keys) → cond (not b) (1 + first keys) 0 ≡ suc (length keys)
      by true absent rest = absurd (true≢false absent)
      by false absent rest = omega (arith, rest absent)

  at_next : (keys : Keys) (key : Vec ℕ Global) (m n : ℕ) → n ≡ suc m → slice_get (texts_of keys) m ≡ Some text → slice_get (texts_of (key ∷ keys)) n ≡ Some text
  at_next keys key m n is h = subst (λ k. slice_get (texts_of (key ∷ keys)) k ≡ Some text) (sym is) h

  -- a place that is found has the text
  slice_get-first : (keys : Keys) → first keys < length keys → slice_get (texts_of keys) (first keys) ≡ Some text
  slice_get-first [] lt = absurd (omega arith)
  slice_get-first (key ∷ keys) lt = by (has_text key) refl lt (slice_get-first keys)
    where
      by : (b : Bool) → has_text key ≡ b → cond (not b) (1 + first keys) 0 < suc (length keys) → (first keys < length keys → slice_get (texts_of keys) (first keys) ≡ Some text) → slice_get (texts_of (key ∷ keys)) (cond (not b) (1 + first keys) 0) ≡ Some text
      by true e lt rest = ap Some (sym (same text key.items e))
      by false e lt rest = at_next keys key (first keys) (1 + first keys) (omega arith) (rest (omega arith))

  -- and where none is found there is none
  absent-first : (keys : Keys) → length keys ≤ first keys → (k : ℕ) → k < length (texts_of keys) → get_or (texts_of keys) k text ≡ text → ⊥
  absent-first [] le k lt is = omega arith
  absent-first (key ∷ keys) le k lt is = by (has_text key) refl le k lt is (absent-first keys)
    where
      by : (b : Bool) → has_text key ≡ b → suc (length keys) ≤ cond (not b) (1 + first keys) 0 → (k : ℕ) → k < length (texts_of (key ∷ keys)) → get_or (texts_of (key ∷ keys)) k text ≡ text
          → (length keys ≤ first keys → (k : ℕ) → k < length (texts_of keys) → get_or (texts_of keys) k text ≡ text → ⊥) → ⊥
      by true e le k lt is rest = omega arith
      by false e le zero lt is rest = differs text key.items e (sym is)
      by false e le (suc k) lt is rest = rest (omega arith) k (omega arith) is

  -- what the place of a text among the keys says
  pub position-cases : (keys : Keys) → MatchOption (position has_text keys) (Contains (texts_of keys) text → ⊥) (λ n. slice_get (texts_of keys) n ≡ Some text)
  position-cases keys = by (nat_lt (first keys) (length keys)) refl
    where
      by : (b : Bool) → nat_lt (first keys) (length keys) ≡ b → MatchOption (cond b (Some (first keys)) None) (Contains (texts_of keys) text → ⊥) (λ n. slice_get (texts_of keys) n ≡ Some text)
      by true e = let lt : first keys < length keys = grind (arith, nat_tests) in slice_get-first keys lt
      by false e = let le : length keys ≤ first keys = grind (arith, nat_tests) in λ there. absent-first keys le there.0 there.1 there.2

abbrev pub same_text : Vec ℕ Global → Vec ℕ Global → Bool
same_text a b = bytes_eq a.items b.items

-- a key with a text that isn't there goes last
module _ (text : List ℕ) (key : Vec ℕ Global) (keys : Keys) (is : key.items ≡ text) (absent : Contains (texts_of keys) text → ⊥) where
  none : list_any (same_text key) keys ≡ false
  none = ap (λ t. list_any (λ (k : Vec ℕ Global). bytes_eq t k.items) keys) is ∙ list_any-absent text keys absent

  pub insert_key-fresh : texts_of (insert_key same_text keys key) ≡ texts_of keys ++ text ∷ []
  insert_key-fresh =
      ap (λ b. texts_of (cond b keys (keys ++ key ∷ []))) none ∙ map-append (λ k. k.items) keys (key ∷ []) ∙ ap (λ t. texts_of keys ++ t ∷ []) is

  pub insert_index-fresh : position_or_len (same_text key) keys ≡ length (texts_of keys)
  insert_index-fresh =
      ap (λ t. position_or_len (λ (k : Vec ℕ Global). bytes_eq t k.items) keys) is
      ∙ position_or_len-absent text keys (list_any-absent text keys absent) ∙ sym (length-map keys (λ k. k.items))

-- keys that are distinct have distinct texts
differ_too : (text : List ℕ) (keys : Keys) → AllByRecursion (λ (key : Vec ℕ Global). bytes_eq text key.items ≡ false) keys → AllByRecursion (λ other. bytes_eq text other ≡ false) (texts_of keys)
differ_too text [] differ = differ
differ_too text (key ∷ keys) differ = (differ.0, differ_too text keys differ.1)

distinct_too : (keys : Keys) → IsDistinct same_text keys → IsDistinct bytes_eq (texts_of keys)
unfolding IsDistinct
distinct_too [] distinct = distinct
distinct_too (key ∷ keys) distinct = (differ_too key.items keys distinct.0, distinct_too keys distinct.1)

pub texts_are_distinct : (keys : Keys) → IsDistinct same_text keys → AllPairs (λ a b. a ≢ b) (texts_of keys)
texts_are_distinct keys distinct = AllPairs-from_IsDistinct bytes_eq-Decides (texts_of keys) (distinct_too keys distinct)

-- and the text at a place is not among those before it
pub absent_before : (keys : Keys) (i : ℕ) (key : Vec ℕ Global) → IsDistinct same_text keys → i < length keys → key ≡ get_or keys i key → Contains (texts_of (take i keys)) key.items → ⊥
absent_before keys i key distinct lt is there =
    let k = there.0 in
    let short : k < i = omega (arith, there.1, length-map (take i keys) (λ key. key.items), length-take {A = Vec ℕ Global}) in
    let here : get_or (texts_of keys) i key.items ≡ key.items = get_or-map (λ (key : Vec ℕ Global). key.items) keys i key key.items lt ∙ ap (λ (key : Vec ℕ Global). key.items) (sym is) in
    let before : get_or (texts_of keys) k key.items ≡ key.items =
    sym (get_or-take i (texts_of keys) k key.items short) ∙ ap (λ ts. get_or ts k key.items) (take-map (λ (key : Vec ℕ Global). key.items) i keys) ∙ there.2 in
    texts_are_distinct keys distinct k i key.items short (omega (arith, length-map keys (λ key. key.items))) (before ∙ sym here)
