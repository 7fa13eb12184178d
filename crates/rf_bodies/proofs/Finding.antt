-- The place of a text among texts of which no two are the same.
use Rattle.std.proofs.Common.{◌≡◌, ◌≢◌, ℕ, ◌<◌, false, cond, List, [], Some, None, AllPairs, Contains, length, get_or, ltb, position, slice_get, sym, ap, ◌∙◌, inl, inr, arith, rules}
use Rattle.std.specs.Str.{bytes_eq}
use Rattle.std.proofs.lemmas.Bool.{cases_Bool, cond-true, cond-false, lt-ltb, le-ltb}
use Rattle.std.proofs.lemmas.List.Sums.{position_or_len_is}
use Rattle.std.proofs.lemmas.Option.{slice_get_within, get_or_from_slice_get}
use Rattle.std.proofs.lemmas.Slice.Eq.{bytes_eq-Decides}

differs : (text other : List ℕ) → (text ≡ other → ⊥) → bytes_eq text other ≡ false
differs text other apart = elim (cases_Bool (bytes_eq text other)) [
  | inl is_so ↦ absurd (apart ((bytes_eq-Decides text other).0 is_so))
  | inr not_so ↦ not_so
]

pub found_at : (names : List (List ℕ)) (text : List ℕ) (k : ℕ) → AllPairs (λ a b. a ≢ b) names → slice_get names k ≡ Some text
    → Some k ≡ position (bytes_eq text) names
found_at names text k distinct at =
    let within = slice_get_within names k text at in
    let here : get_or names k [] ≡ text = get_or_from_slice_get names k text [] at in
    let place = position_or_len_is (bytes_eq text) names k [] (omega arith)
    (λ i lt. differs text (get_or names i []) (λ same. distinct i k [] lt within (sym same ∙ sym here)))
    (λ lt. (bytes_eq-Decides text (get_or names k [])).1 (sym here)) in
    sym (ap (λ (n : ℕ). cond (ltb n (length names)) (Some n) None) place ∙ cond-true (ltb k (length names)) (Some k) None (lt-ltb k (length names) within))

pub found_nowhere : (names : List (List ℕ)) (text : List ℕ) → (Contains names text → ⊥) → None ≡ position (bytes_eq text) names
found_nowhere names text none =
    let place = position_or_len_is (bytes_eq text) names (length names) [] (omega arith)
    (λ i lt. differs text (get_or names i []) (λ same. none (i, lt, out i lt same)))
    (λ lt. absurd (omega arith)) in
    sym (ap (λ (n : ℕ). cond (ltb n (length names)) (Some n) None) place ∙ cond-false (ltb (length names) (length names)) (Some (length names)) None (le-ltb (length names) (length names) (omega arith)))
  where
    out : (i : ℕ) → i < length names → text ≡ get_or names i [] → get_or names i text ≡ text
    out i lt same = search rules
