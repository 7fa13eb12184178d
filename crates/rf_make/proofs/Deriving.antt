-- A derived predicate's Boolean is that of the first tuple with the numbers asked for.
use Rattle.std.proofs.Common.{◌≡◌, ℕ, zero, suc, ◌+◌, ◌<◌, ◌≤◌, Bool, true, false, ◌&&◌, cond, eqb, List, [], ◌∷◌, get_or, length, map, position, slice_get, IfOk, Option, Some, None, refl, sym, ap, ap₂, ◌∙◌, subst, arith}
use Rattle.std.specs.List.{position_from}
use Rattle.std.specs.declared.result.Result.{Result}
use Rattle.std.proofs.lemmas.Result.{IfOk-weaker}
use Rattle.std.proofs.lemmas.Iterator.Adapters.{position_from-zero}
use Rattle.rf_facts.specs.Tuples.{fits, is_same, places, places_from}
use Rattle.rf_inst.specs.Directs.{Derived, World, at_tuple, boolean}
use Rattle.rf_inst.specs.Values.{Value, Missing}
use Rattle.rf_join.specs.Joins.{number_at}
use Rattle.rf_join.specs.Sources.{whole}
use Rattle.rf_make.specs.declared.makers.Maker.{Maker}
use Rattle.rf_make.specs.declared.meanings.Meaning.{Meaning}
use Rattle.rf_make.specs.Makers.{Knows}
use Rattle.rf_make.specs.Meanings.{meant}

fits_whole : (taken args u : List ℕ) → fits (whole taken args) u ≡ is_same (map (number_at taken) args) u
fits_whole taken [] [] = refl
fits_whole taken [] (v ∷ u) = refl
fits_whole taken (p ∷ args) [] = refl
fits_whole taken (p ∷ args) (v ∷ u) = ap (λ (b : Bool). eqb (number_at taken p) v && b) (fits_whole taken args u)

places_agree : (f g : List ℕ → Bool) (k : ℕ) (ts : List (List ℕ)) → ((t : List ℕ) → f t ≡ g t) → places_from f k ts ≡ places_from g k ts
places_agree f g k [] h = refl
places_agree f g k (t ∷ ts) h = ap₂ (λ (b : Bool) (l : List ℕ). cond b (k ∷ l) l) (h t) (places_agree f g (suc k) ts h)

next : (k : ℕ) → suc k ≡ k + 1
next k = omega arith

first_place : (f : List ℕ → Bool) (k : ℕ) (ts : List (List ℕ)) → slice_get (places_from f k ts) 0 ≡ position_from f k ts
first_place f k [] = refl
first_place f k (t ∷ ts) = by (f t) (first_place f (suc k) ts)
  where
    by : (b : Bool) → slice_get (places_from f (suc k) ts) 0 ≡ position_from f (suc k) ts
        → slice_get (cond b (k ∷ places_from f (suc k) ts) (places_from f (suc k) ts)) 0 ≡ cond b (Some k) (position_from f (k + 1) ts)
    by true h = refl
    by false h = h ∙ ap (λ (n : ℕ). position_from f n ts) (next k)

derived_at : (derived : List Derived) (which : ℕ) (t : List ℕ) → which < length (map (λ (one : Derived). one.base) derived)
    → at_tuple (get_or (map (λ (one : Derived). one.base) derived) which 0) (position (is_same t) (get_or (map (λ (one : Derived). one.tuples) derived) which [])) ≡ boolean (slice_get derived which) t
derived_at [] which t lt = absurd (omega arith)
derived_at (one ∷ derived) zero t lt = refl
derived_at (one ∷ derived) (suc k) t lt = derived_at derived k t (omega arith)

none_at : (derived : List Derived) (which : ℕ) (t : List ℕ) → length (map (λ (one : Derived). one.base) derived) ≤ which → Missing ≡ boolean (slice_get derived which) t
none_at [] which t le = refl
none_at (one ∷ derived) zero t le = absurd (omega arith)
none_at (one ∷ derived) (suc k) t le = none_at derived k t (omega arith)

module _ (maker : Maker) (which : ℕ) (args taken : List ℕ) where
  -- what is to be told of the Boolean
  abbrev pub Is : Value → Type 0
  Is value = (world : World) → Knows maker world → value ≡ boolean (slice_get world.derived which) (map (number_at taken) args)

  pub no_such : length maker.bases.now ≤ which → Is Missing
  no_such le world knows = none_at world.derived which (map (number_at taken) args) (subst (λ (l : List ℕ). length l ≤ which) (sym knows.bases) le)

  same_place : (partial : List (Option ℕ)) (found : List ℕ) → partial ≡ whole taken args → found ≡ places (fits partial) (get_or maker.derived.now which [])
      → slice_get found 0 ≡ position (is_same (map (number_at taken) args)) (get_or maker.derived.now which [])
  same_place partial found asked is = ap (λ (l : List ℕ). slice_get l 0) (is ∙ (ap (λ (p : List (Option ℕ)). places (fits p) (get_or maker.derived.now which [])) asked
      ∙ places_agree (fits (whole taken args)) (is_same (map (number_at taken) args)) 0 (get_or maker.derived.now which []) (fits_whole taken args)))
      ∙ (first_place (is_same (map (number_at taken) args)) 0 (get_or maker.derived.now which [])
      ∙ sym (position_from-zero (is_same (map (number_at taken) args)) (get_or maker.derived.now which [])))

  pub boolean_is : (base : ℕ) (partial : List (Option ℕ)) (found : List ℕ) (value : Value) → which < length maker.bases.now → base ≡ get_or maker.bases.now which 0
      → partial ≡ whole taken args → found ≡ places (fits partial) (get_or maker.derived.now which []) → value ≡ at_tuple base (slice_get found 0) → Is value
  boolean_is base partial found value lt first asked places_are is world knows = is ∙ (ap₂ at_tuple first (same_place partial found asked places_are)
      ∙ (ap₂ (λ (bases : List ℕ) (tuples : List (List (List ℕ))). at_tuple (get_or bases which 0) (position (is_same (map (number_at taken) args)) (get_or tuples which []))) (sym knows.bases) (sym knows.tuples)
      ∙ derived_at world.derived which (map (number_at taken) args) (subst (λ (l : List ℕ). which < length l) (sym knows.bases) lt)))

  pub boolean_made : {X : Type 0} (base : ℕ) (partial asked : List (Option ℕ)) (found items : List ℕ) (result : Result Meaning X) → which < length maker.bases.now → base ≡ get_or maker.bases.now which 0
      → partial ≡ whole taken args → asked ≡ partial → found ≡ places (fits asked) (get_or maker.derived.now which []) → items ≡ found
      → IfOk result (λ meaning. meant meaning ≡ at_tuple base (slice_get items 0)) → IfOk result (λ meaning. Is (meant meaning))
  boolean_made base partial asked found items result lt first partial_is same found_is same_items made = IfOk-weaker result (λ meaning. meant meaning ≡ at_tuple base (slice_get items 0)) (λ meaning. Is (meant meaning))
      (λ meaning it. boolean_is base asked items (meant meaning) lt first (same ∙ partial_is) (same_items ∙ found_is) it) made
