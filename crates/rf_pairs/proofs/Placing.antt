-- One variable more in scope.
use Rattle.std.proofs.Common.{◌≡◌, ℕ, zero, suc, ◌+◌, ◌<◌, ◌≤◌, ◌⊎◌, Bool, true, false, cond, List, [], ◌∷◌, ◌++◌, length, get_or, refl, sym, ap, ap₂, ◌∙◌, subst, inl, inr, arith}
use Rattle.std.specs.Str.{bytes_eq}
use Rattle.std.proofs.lemmas.Bool.{cases_Bool, cond-true, cond-false}
use Rattle.std.proofs.lemmas.List.{get_or_append_left, get_or_at, get_or_past, length_push}
use Rattle.rf_rtree.specs.declared.words.Word.{Word}
use Rattle.rf_inst.specs.Bindings.{Bound, element_of}
use Rattle.rf_join.specs.Joins.{number_at}
use Rattle.rf_pairs.specs.Places.{NOWHERE, last_place, place_of, Shows}

last_more : (k found : ℕ) (names : List (List ℕ)) (other name : List ℕ)
    → last_place k found (names ++ other ∷ []) name ≡ cond (bytes_eq other name) (k + length names) (last_place k found names name)
last_more k found [] other name = ap (λ (n : ℕ). cond (bytes_eq other name) n found) (end k)
  where
    end : (k : ℕ) → k ≡ k + 0
    end k = omega arith
last_more k found (one ∷ names) other name = last_more (suc k) (cond (bytes_eq one name) k found) names other name
    ∙ ap (λ (n : ℕ). cond (bytes_eq other name) n (last_place (suc k) (cond (bytes_eq one name) k found) names name)) (next k (length names))
  where
    next : (k n : ℕ) → suc k + n ≡ k + suc n
    next k n = omega arith

-- it is one of the places, or what was found before
last_cases : (k found : ℕ) (names : List (List ℕ)) (name : List ℕ) → (last_place k found names name < k + length names) ⊎ (last_place k found names name ≡ found)
last_cases k found [] name = inr refl
last_cases k found (one ∷ names) name = elim (last_cases (suc k) (cond (bytes_eq one name) k found) names name) [
  | inl lt ↦ inl (omega arith)
  | inr e ↦ elim (cases_Bool (bytes_eq one name)) [
    | inl is_so ↦ inl (let is = e ∙ cond-true (bytes_eq one name) k found is_so in omega arith)
    | inr not_so ↦ inr (e ∙ cond-false (bytes_eq one name) k found not_so)
  ]
]

here : (names : List (List ℕ)) (name : List ℕ) → (place_of names name < length names) ⊎ (place_of names name ≡ NOWHERE)
here names name = elim (last_cases 0 NOWHERE names name) [
  | inl lt ↦ inl (omega arith)
  | inr e ↦ inr e
]

-- a number more doesn't change those that were there
still : (names : List (List ℕ)) (taken : List ℕ) (n : ℕ) (name : List ℕ) → length names ≡ length taken → length taken < NOWHERE
    → number_at (taken ++ n ∷ []) (place_of names name) ≡ number_at taken (place_of names name)
still names taken n name count few = elim (here names name) [
  | inl lt ↦ get_or_append_left taken (n ∷ []) 0 (place_of names name) (omega arith)
  | inr e ↦ get_or_past (taken ++ n ∷ []) (place_of names name) 0 (let l = length_push taken n in omega arith) ∙ sym (get_or_past taken (place_of names name) 0 (omega arith))
]

pub shows_more : (names : List (List ℕ)) (taken : List ℕ) (scope : List Bound) (other : List ℕ) (n : ℕ) → length taken < NOWHERE → Shows names taken scope
    → Shows (names ++ other ∷ []) (taken ++ n ∷ []) (record { name = other; element = n } ∷ scope)
shows_more names taken scope other n few shows = record {
  count = length_push names other ∙ (ap (λ (k : ℕ). k + 1) shows.count ∙ sym (length_push taken n));
  numbers = λ word. elim (cases_Bool (bytes_eq other word.text)) [
    | inl is_so ↦ cond-true (bytes_eq other word.text) n (element_of scope word) is_so ∙ sym (ap (number_at (taken ++ n ∷ []))
        (last_more 0 NOWHERE names other word.text ∙ cond-true (bytes_eq other word.text) (0 + length names) (place_of names word.text) is_so)
        ∙ get_or_at taken n [] 0 (0 + length names) (let c = shows.count in omega arith))
    | inr not_so ↦ cond-false (bytes_eq other word.text) n (element_of scope word) not_so ∙ (shows.numbers word
        ∙ (sym (still names taken n word.text shows.count few) ∙ sym (ap (number_at (taken ++ n ∷ []))
        (last_more 0 NOWHERE names other word.text ∙ cond-false (bytes_eq other word.text) (0 + length names) (place_of names word.text) not_so))))
  ];
}
