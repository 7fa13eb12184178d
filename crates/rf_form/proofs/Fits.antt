-- Places that are places of the first domains, from what the test saw of each row.
use Rattle.std.proofs.Common.{◌≡◌, ℕ, ◌<◌, ◌≤◌, true, false, List, [], ◌∷◌, length, refl, sym, ap, subst, inl, inr, arith, ltb, lt-ltb, ltb-true, eqb, eqb-true, eq-eqb}
use Rattle.std.proofs.lemmas.Bool.{cases_lt, and_parts, and_from, or_cases, or_left, or_right, both_ways}
use Rattle.std.proofs.lemmas.List.{get_or_past}
use Rattle.rf_form.specs.Alive.{IsFit, is_among, among}
use Rattle.rf_form.specs.Fitting.{are_below, AreShort}
use Rattle.rf_form.specs.Truths.{row}

all_below : (bound : ℕ) (places : List ℕ) → are_below bound places ≡ true → (v : ℕ) → is_among v places ≡ true → v < bound
all_below bound [] h v there = absurd (let e = there in cc)
all_below bound (w ∷ rest) h v there = let parts = and_parts (ltb w bound) (are_below bound rest) h in elim (or_cases (eqb v w) (is_among v rest) there) [
  | inl e ↦ subst (λ (k : ℕ). k < bound) (sym (eqb-true v w e)) (ltb-true w bound parts.0)
  | inr r ↦ all_below bound rest parts.1 v r
]

below_from : (bound : ℕ) (places : List ℕ) → ((v : ℕ) → is_among v places ≡ true → v < bound) → are_below bound places ≡ true
below_from bound [] all = refl
below_from bound (w ∷ rest) all = and_from (ltb w bound) (are_below bound rest)
    (lt-ltb w bound (all w (or_left (eqb w w) (is_among w rest) (eq-eqb w w refl))))
    (below_from bound rest (λ v r. all v (or_right (eqb v w) (is_among v rest) r)))

pub short_from : (vals : List (List ℕ)) (n : ℕ) → ((x : ℕ) → x < n → length (row vals x) ≤ 65536) → length vals ≤ n → AreShort vals
short_from vals n all end x = elim (cases_lt x n) [
  | inl lt ↦ all x lt
  | inr above ↦ let e : length (row vals x) ≡ 0 = ap (length {A = ℕ}) (get_or_past vals x [] (omega arith)) in omega arith
]

pub fit_from : (vals rows : List (List ℕ)) (n : ℕ) → AreShort vals → ((x : ℕ) → x < n → are_below (length (row vals x)) (row rows x) ≡ true)
    → length rows ≤ n → IsFit vals (among rows)
fit_from vals rows n short all end = record {
  short = short;
  within = λ x v there. elim (cases_lt x n) [
    | inl lt ↦ all_below (length (row vals x)) (row rows x) (all x lt) v there
    | inr above ↦ absurd (both_ways (is_among v (row rows x)) (ap (is_among v) (get_or_past rows x [] (omega arith))) there)
  ];
}

pub not_fit : (vals rows : List (List ℕ)) (x : ℕ) → are_below (length (row vals x)) (row rows x) ≡ false → IsFit vals (among rows) → ⊥
not_fit vals rows x h fit = both_ways (are_below (length (row vals x)) (row rows x)) h (below_from (length (row vals x)) (row rows x) (fit.within x))
