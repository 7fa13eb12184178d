-- Rows of places: one place taken from a row, or put into it.
use Rattle.std.proofs.Common.{◌≡◌, ℕ, ◌+◌, ◌<◌, ◌≤◌, Bool, true, false, not, ◌&&◌, ◌||◌, eqb, ltb, List, [], ◌∷◌, length, filter, set, refl, sym, ap, ap₂, ◌∙◌, subst, inl, inr, arith, eq-eqb, ne_eqb, eqb-true, get_or-set_same, get_or-set_other}
use Rattle.std.specs.List.{sum_by}
use Rattle.std.proofs.lemmas.Bool.{cases_lt, cases_eq, cases_Bool, both_ways, cond-true, cond-false, or_cases}
use Rattle.std.proofs.lemmas.List.{get_or_past}
use Rattle.std.proofs.lemmas.List.Sums.{sum_by-set}
use Rattle.rf_form.specs.Alive.{is_among, among}
use Rattle.rf_form.specs.Families.{without}
use Rattle.rf_form.specs.Truths.{row}
use Rattle.rf_trail.specs.Bits.{inserted}
use Rattle.rf_trail.proofs.Removing.{eqb_sym}

-- the list without one place
abbrev pub taken : ℕ → List ℕ → List ℕ
taken v l = filter (λ u. not (eqb u v)) l

and_none : (b : Bool) → (b && true) ≡ b
and_none true = refl
and_none false = refl

taken_skips : (u v w : ℕ) (b : Bool) → u ≡ v → (b && not (eqb w v)) ≡ ((eqb w u || b) && not (eqb w v))
taken_skips u v w b e = elim (cases_eq w v) [
  | inl s ↦ ap (λ (c : Bool). b && not c) (eq-eqb w v s) ∙ (last b ∙ sym (ap (λ (c : Bool). (eqb w u || b) && not c) (eq-eqb w v s) ∙ last (eqb w u || b)))
  | inr ne ↦ ap (λ (c : Bool). (c || b) && not (eqb w v)) (sym (ne_eqb w u (λ s. ne (s ∙ e))))
]
  where
    last : (c : Bool) → (c && false) ≡ false
    last true = refl
    last false = refl

taken_keeps : (u v w : ℕ) (b : Bool) → (u ≡ v → ⊥) → (eqb w u || (b && not (eqb w v))) ≡ ((eqb w u || b) && not (eqb w v))
taken_keeps u v w b ne = elim (cases_eq w u) [
  | inl s ↦ ap (λ (c : Bool). c || (b && not (eqb w v))) (eq-eqb w u s)
      ∙ sym (ap₂ (λ (c d : Bool). (c || b) && not d) (eq-eqb w u s) (ne_eqb w v (λ k. ne (sym s ∙ k))))
  | inr other ↦ ap (λ (c : Bool). c || (b && not (eqb w v))) (ne_eqb w u other)
      ∙ sym (ap (λ (c : Bool). (c || b) && not (eqb w v)) (ne_eqb w u other))
]

pub among_taken : (v w : ℕ) (l : List ℕ) → is_among w (taken v l) ≡ (is_among w l && not (eqb w v))
among_taken v w [] = refl
among_taken v w (u ∷ us) = elim (cases_eq u v) [
  | inl e ↦ ap (is_among w) (cond-false (not (eqb u v)) (u ∷ taken v us) (taken v us) (ap not (eq-eqb u v e)))
      ∙ (among_taken v w us ∙ taken_skips u v w (is_among w us) e)
  | inr ne ↦ ap (is_among w) (cond-true (not (eqb u v)) (u ∷ taken v us) (taken v us) (ap not (ne_eqb u v ne)))
      ∙ (ap (λ (b : Bool). eqb w u || b) (among_taken v w us) ∙ taken_keeps u v w (is_among w us) ne)
]

put_front : (a b : Bool) → (a || b) ≡ (b || a)
put_front true true = refl
put_front true false = refl
put_front false true = refl
put_front false false = refl

put_behind : (a b c : Bool) → (a || (b || c)) ≡ ((a || b) || c)
put_behind true b c = refl
put_behind false b c = refl

pub among_inserted : (v w : ℕ) (l : List ℕ) → is_among w (inserted v l) ≡ (is_among w l || eqb w v)
among_inserted v w [] = put_front (eqb w v) false
among_inserted v w (u ∷ us) = elim (cases_Bool (ltb v u)) [
  | inl t ↦ ap (is_among w) (cond-true (ltb v u) (v ∷ u ∷ us) (u ∷ inserted v us) t) ∙ put_front (eqb w v) (eqb w u || is_among w us)
  | inr t ↦ ap (is_among w) (cond-false (ltb v u) (v ∷ u ∷ us) (u ∷ inserted v us) t)
      ∙ (ap (λ (b : Bool). eqb w u || b) (among_inserted v w us) ∙ put_behind (eqb w u) (is_among w us) (eqb w v))
]

pub length_inserted : (v : ℕ) (l : List ℕ) → length (inserted v l) ≡ length l + 1
length_inserted v [] = refl
length_inserted v (u ∷ us) = elim (cases_Bool (ltb v u)) [
  | inl t ↦ let e = ap (length {A = ℕ}) (cond-true (ltb v u) (v ∷ u ∷ us) (u ∷ inserted v us) t) in omega arith
  | inr t ↦ let e = ap (length {A = ℕ}) (cond-false (ltb v u) (v ∷ u ∷ us) (u ∷ inserted v us) t) in
      let i = length_inserted v us in omega arith
]

taken_length : (v : ℕ) (l : List ℕ) → length (taken v l) ≤ length l
taken_length v [] = omega arith
taken_length v (u ∷ us) = let i = taken_length v us in elim (cases_eq u v) [
  | inl e ↦ let c = ap (length {A = ℕ}) (cond-false (not (eqb u v)) (u ∷ taken v us) (taken v us) (ap not (eq-eqb u v e))) in omega arith
  | inr ne ↦ let c = ap (length {A = ℕ}) (cond-true (not (eqb u v)) (u ∷ taken v us) (taken v us) (ap not (ne_eqb u v ne))) in omega arith
]

pub taken_shorter : (v : ℕ) (l : List ℕ) → is_among v l ≡ true → length (taken v l) < length l
taken_shorter v [] h = absurd (both_ways false refl h)
taken_shorter v (u ∷ us) h = elim (cases_eq u v) [
  | inl e ↦ let i = taken_length v us in let c = ap (length {A = ℕ}) (cond-false (not (eqb u v)) (u ∷ taken v us) (taken v us) (ap not (eq-eqb u v e))) in omega arith
  | inr ne ↦ let c = ap (length {A = ℕ}) (cond-true (not (eqb u v)) (u ∷ taken v us) (taken v us) (ap not (ne_eqb u v ne))) in
      elim (or_cases (eqb v u) (is_among v us) h) [
        | inl s ↦ absurd (ne (sym (eqb-true v u s)))
        | inr r ↦ let i = taken_shorter v us r in omega arith
      ]
]

-- one row is another one
pub row_same : (rows : List (List ℕ)) (x y : ℕ) (l : List ℕ) → x < length rows → x ≡ y → row (set rows x l) y ≡ l
row_same rows x y l lt e = subst (λ (k : ℕ). row (set rows x l) k ≡ l) e (get_or-set_same rows x l [] lt)

pub row_other : (rows : List (List ℕ)) (x y : ℕ) (l : List ℕ) → (x ≡ y → ⊥) → row (set rows x l) y ≡ row rows y
row_other rows x y l ne = get_or-set_other rows x y l [] (λ e. ne (sym e))

pub row_inside : (rows : List (List ℕ)) (x v : ℕ) → among rows x v ≡ true → x < length rows
row_inside rows x v h = elim (cases_lt x (length rows)) [
  | inl lt ↦ lt
  | inr above ↦ absurd (both_ways false refl (sym (ap (is_among v) (get_or_past rows x [] above)) ∙ h))
]

pub rows_taken : (rows : List (List ℕ)) (x v y w : ℕ) → x < length rows → among (set rows x (taken v (row rows x))) y w ≡ without (among rows) x v y w
rows_taken rows x v y w lt = elim (cases_eq x y) [
  | inl e ↦ ap (is_among w) (row_same rows x y (taken v (row rows x)) lt e) ∙ (among_taken v w (row rows x)
      ∙ ap₂ (λ (b c : Bool). b && not c) (ap (λ (k : ℕ). is_among w (row rows k)) e) (eqb_sym w v ∙ sym (ap (λ (b : Bool). b && eqb v w) (eq-eqb x y e))))
  | inr ne ↦ ap (is_among w) (row_other rows x y (taken v (row rows x)) ne)
      ∙ sym (ap (λ (b : Bool). among rows y w && not (b && eqb v w)) (ne_eqb x y ne) ∙ and_none (among rows y w))
]

none_put : (b : Bool) → (b || false) ≡ b
none_put true = refl
none_put false = refl

pub rows_put : (rows : List (List ℕ)) (x v y w : ℕ) → x < length rows → among (set rows x (inserted v (row rows x))) y w ≡ (among rows y w || (eqb x y && eqb v w))
rows_put rows x v y w lt = elim (cases_eq x y) [
  | inl e ↦ ap (is_among w) (row_same rows x y (inserted v (row rows x)) lt e) ∙ (among_inserted v w (row rows x)
      ∙ ap₂ (λ (b c : Bool). b || c) (ap (λ (k : ℕ). is_among w (row rows k)) e) (eqb_sym w v ∙ sym (ap (λ (b : Bool). b && eqb v w) (eq-eqb x y e))))
  | inr ne ↦ ap (is_among w) (row_other rows x y (inserted v (row rows x)) ne)
      ∙ sym (ap (λ (b : Bool). among rows y w || (b && eqb v w)) (ne_eqb x y ne) ∙ none_put (among rows y w))
]

-- how many places there are in all rows
pub all_taken : (rows : List (List ℕ)) (x v : ℕ) → among rows x v ≡ true → sum_by length (set rows x (taken v (row rows x))) < sum_by length rows
all_taken rows x v h = let s = sum_by-set (length {A = ℕ}) rows x (taken v (row rows x)) [] (row_inside rows x v h) in
    let t = taken_shorter v (row rows x) h in omega arith

pub all_put : (rows : List (List ℕ)) (x v : ℕ) → x < length rows → sum_by length (set rows x (inserted v (row rows x))) ≡ sum_by length rows + 1
all_put rows x v lt = let s = sum_by-set (length {A = ℕ}) rows x (inserted v (row rows x)) [] lt in
    let t = length_inserted v (row rows x) in omega arith

pub row_past : (rows : List (List ℕ)) (x v : ℕ) → length rows ≤ x → among rows x v ≡ false
row_past rows x v above = ap (is_among v) (get_or_past rows x [] above)
