-- Rising lists of keys: each is told by its members.
use Rattle.std.proofs.Common.{◌≡◌, ℕ, suc, ◌<◌, ◌⊎◌, List, [], ◌∷◌, ◌++◌, Some, AllPairs, Contains, get_or, refl, sym, ap, ◌∙◌, subst, inl, inr, slice_get, arith}
use Rattle.std.proofs.lemmas.List.Elements.{Contains-append_left, Contains-append_right, Contains-append_cases, Contains-push, Contains-get_or}
use Rattle.std.proofs.lemmas.List.Kept.{AllPairs-cons}
use Rattle.std.proofs.lemmas.Option.{slice_get_within, get_or_from_slice_get}
use Rattle.rf_jmodel.specs.Elements.{IsBefore, AreKeys}
use Rattle.rf_jmodel.proofs.NameLemmas.{in-none, is-one}

-- each key is before all behind it
abbrev pub Rises : List (ℕ × ℕ) → Type 0
Rises [] = Unit {0}
Rises (key ∷ keys) = ((other : ℕ × ℕ) → Contains keys other → IsBefore key other) × Rises keys

-- no key is before itself, and of two keys one is before the other at most
irreflexive : (key : ℕ × ℕ) → IsBefore key key → ⊥
irreflexive key (inl less) = omega (arith, less)
irreflexive key (inr same) = let less = same.1 in omega (arith, less)

asymmetric : (one other : ℕ × ℕ) → IsBefore one other → IsBefore other one → ⊥
asymmetric one other (inl less) (inl more) = omega (arith, less, more)
asymmetric one other (inl less) (inr same) = let more = same.0 in omega (arith, less, more)
asymmetric one other (inr same) (inl more) = let less = same.0 in omega (arith, less, more)
asymmetric one other (inr same) (inr back) = let less = same.1 in let more = back.1 in omega (arith, less, more)

-- what is in a list with one more at its head
pub here : (key : ℕ × ℕ) (keys : List (ℕ × ℕ)) → Contains (key ∷ keys) key
here key keys = Contains-append_left (key ∷ []) keys key (Contains-push [] key)

pub behind : (key : ℕ × ℕ) (keys : List (ℕ × ℕ)) (other : ℕ × ℕ) → Contains keys other → Contains (key ∷ keys) other
behind key keys other has = Contains-append_right (key ∷ []) keys other has

pub either : (key : ℕ × ℕ) (keys : List (ℕ × ℕ)) (other : ℕ × ℕ) → Contains (key ∷ keys) other → (key ≡ other) ⊎ (Contains keys other)
either key keys other has = by (Contains-append_cases (key ∷ []) keys other has)
  where
    by : (Contains (key ∷ []) other) ⊎ (Contains keys other) → (key ≡ other) ⊎ (Contains keys other)
    by (inl first) = inl (is-one key other first)
    by (inr rest) = inr rest

-- between the two ways to say that keys rise
pub rises-from : (keys : List (ℕ × ℕ)) → AllPairs IsBefore keys → Rises keys
rises-from [] pairs = tt
rises-from (key ∷ keys) pairs = (
  (λ other has. let below = has.1 in subst (λ (one : ℕ × ℕ). IsBefore key one) has.2 (pairs 0 (suc has.0) other (omega arith) (omega (arith, below)))),
  rises-from keys (λ i j d less below. pairs (suc i) (suc j) d (omega (arith, less)) (omega (arith, below))),
)

pub pairs-from : (keys : List (ℕ × ℕ)) → Rises keys → AllPairs IsBefore keys
pairs-from [] rises = λ i j d less below. absurd (omega (arith, less, below))
pairs-from (key ∷ keys) rises =
    AllPairs-cons IsBefore key keys (λ k d below. rises.0 (get_or keys k d) (Contains-get_or keys k d below)) (pairs-from keys rises.1)

-- two rising lists, one behind the other
pub rises-append : (some more : List (ℕ × ℕ)) → Rises some → Rises more
    → ((one other : ℕ × ℕ) → Contains some one → Contains more other → IsBefore one other) → Rises (some ++ more)
rises-append [] more some-rise more-rise across = more-rise
rises-append (key ∷ some) more some-rise more-rise across = (
  (λ other has. by other (Contains-append_cases some more other has)),
  rises-append some more some-rise.1 more-rise (λ one other has has-other. across one other (behind key some one has) has-other),
)
  where
    by : (other : ℕ × ℕ) → (Contains some other) ⊎ (Contains more other) → IsBefore key other
    by other (inl has) = some-rise.0 other has
    by other (inr has) = across key other (here key some) has

-- a member of a list that isn't its head, which is before all of the other list's members, is in the rest
head-same : (key : ℕ × ℕ) (keys : List (ℕ × ℕ)) (other : ℕ × ℕ) (others : List (ℕ × ℕ)) → Rises (key ∷ keys) → Rises (other ∷ others)
    → Contains (other ∷ others) key → Contains (key ∷ keys) other → key ≡ other
head-same key keys other others rises others-rise has has-other = by (either other others key has) (either key keys other has-other)
  where
    by : (other ≡ key) ⊎ (Contains others key) → (key ≡ other) ⊎ (Contains keys other) → key ≡ other
    by (inl same) second = sym same
    by (inr first) (inl same) = same
    by (inr first) (inr second) = absurd (asymmetric other key (others-rise.0 key first) (rises.0 other second))

rest-has : (key : ℕ × ℕ) (keys others : List (ℕ × ℕ)) (other : ℕ × ℕ) → Rises (key ∷ keys) → Contains (key ∷ others) other → Contains keys other → Contains others other
rest-has key keys others other rises has among = by (either key others other has)
  where
    by : (key ≡ other) ⊎ (Contains others other) → Contains others other
    by (inl same) = absurd (irreflexive key (subst (λ (one : ℕ × ℕ). IsBefore key one) (sym same) (rises.0 other among)))
    by (inr rest) = rest

pub same-keys : (keys others : List (ℕ × ℕ)) → Rises keys → Rises others → ((key : ℕ × ℕ) → Contains keys key → Contains others key)
    → ((key : ℕ × ℕ) → Contains others key → Contains keys key) → keys ≡ others
same-keys [] [] rises others-rise to from = refl
same-keys [] (other ∷ others) rises others-rise to from = absurd (in-none other (from other (here other others)))
same-keys (key ∷ keys) [] rises others-rise to from = absurd (in-none key (to key (here key keys)))
same-keys (key ∷ keys) (other ∷ others) rises others-rise to from =
    let same = head-same key keys other others rises others-rise (to key (here key keys)) (from other (here other others)) in
    let others-key : Rises (key ∷ others) = subst (λ (one : ℕ × ℕ). Rises (one ∷ others)) (sym same) others-rise in
    ap (λ (one : ℕ × ℕ). one ∷ keys) same
    ∙ ap (λ (rest : List (ℕ × ℕ)). other ∷ rest) (same-keys keys others rises.1 others-rise.1
    (λ one has. rest-has key keys others one rises (subst (λ (first : ℕ × ℕ). Contains (first ∷ others) one) (sym same) (to one (behind key keys one has))) has)
    (λ one has. rest-has key others keys one others-key (from one (behind other others one has)) has))

-- the list of keys with a property is one alone, and has each of them once
pub keys-are-one : (has : ℕ × ℕ → Type 0) (keys others : List (ℕ × ℕ)) → AreKeys has keys → AreKeys has others → keys ≡ others
keys-are-one has keys others one other =
    same-keys keys others (rises-from keys one.rising) (rises-from others other.rising)
    (λ key among. (other.exact key).1 ((one.exact key).0 among))
    (λ key among. (one.exact key).1 ((other.exact key).0 among))

pub once : (keys : List (ℕ × ℕ)) (i j : ℕ) (key : ℕ × ℕ) → AllPairs IsBefore keys → slice_get keys i ≡ Some key → slice_get keys j ≡ Some key → i < j → ⊥
once keys i j key rising at-i at-j less =
    let below = slice_get_within keys j key at-j in
    irreflexive key (subst (λ (one : ℕ × ℕ). IsBefore one key) (get_or_from_slice_get keys i key key at-i)
    (subst (λ (one : ℕ × ℕ). IsBefore (get_or keys i key) one) (get_or_from_slice_get keys j key key at-j) (rising i j key less below)))
