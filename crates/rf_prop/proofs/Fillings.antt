-- Domains none of which is empty.
use Rattle.std.proofs.Common.{◌≡◌, ℕ, ◌<◌, ◌≤◌, true, List, [], ◌∷◌, length, get_or, refl, sym, ap, ◌∙◌, arith, eqb, eq-eqb}
use Rattle.std.proofs.lemmas.Bool.{both_ways, or_left}
use Rattle.std.proofs.lemmas.List.{get_or_past, get_or_default}
use Rattle.rf_form.specs.Alive.{is_among, among}
use Rattle.rf_form.specs.Families.{Filled}
use Rattle.rf_form.specs.Truths.{row}

first_among : (xs : List ℕ) → (xs ≡ [] → ⊥) → is_among (get_or xs 0 0) xs ≡ true
first_among [] h = absurd (h refl)
first_among (u ∷ us) h = or_left (eqb u u) (is_among u us) (eq-eqb u u refl)

pub filled_all : (rows : List (List ℕ)) (n m : ℕ) → n ≤ m → ((k : ℕ) → k < m → row rows k ≡ [] → ⊥) → Filled n (among rows)
filled_all rows n m le all = ((λ x. get_or (row rows x) 0 0), λ x lt. first_among (row rows x) (all x (omega arith)))

pub not_filled : (rows : List (List ℕ)) (n x : ℕ) → x < n → row rows x ≡ [] → Filled n (among rows) → ⊥
not_filled rows n x lt e filled = both_ways (is_among (filled.0 x) (row rows x)) (ap (is_among (filled.0 x)) e) (filled.1 x lt)

pub past_empty : (rows : List (List ℕ)) (x : ℕ) → length rows ≤ x → row rows x ≡ []
past_empty rows x above = get_or_past rows x [] above

pub read_row : (rows : List (List ℕ)) (x : ℕ) (old : List ℕ) → x < length rows → old ≡ get_or rows x old → row rows x ≡ old
read_row rows x old lt e = get_or_default rows x [] old lt ∙ sym e
