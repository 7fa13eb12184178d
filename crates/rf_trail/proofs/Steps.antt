-- One removal of a trail, and one removal taken back: what the rows and the list of removals are then.
use Rattle.std.proofs.Common.{◌≡◌, ℕ, ◌+◌, ◌-◌, ◌<◌, ◌≤◌, Bool, true, false, not, ◌&&◌, ◌||◌, eqb, List, [], ◌∷◌, ◌++◌, length, filter, take, set, get_or, sym, ap, ◌∙◌, subst, inl, inr, arith, eqb-true}
use Rattle.std.specs.List.{sum_by, range_with_len}
use Rattle.std.proofs.lemmas.Bool.{and_parts, or_cases}
use Rattle.std.proofs.lemmas.List.{get_or_default, take_more, take_more_set}
use Rattle.rf_form.specs.Alive.{is_among, among}
use Rattle.rf_form.specs.Families.{without}
use Rattle.rf_form.specs.Truths.{row}
use Rattle.rf_trail.specs.Bits.{inserted}
use Rattle.rf_trail.specs.Removals.{is_removed, are_once, began, AreGone}
use Rattle.rf_trail.proofs.Ranges.{among_passes}
use Rattle.rf_trail.proofs.Removing.{removed_more, removed_last, once_push, once_last, not_removed, gone_push, began_push, gone_back, began_back}
use Rattle.rf_trail.proofs.Rows.{taken, rows_taken, rows_put, row_inside, all_taken, all_put}

-- the row that was read
pub read_row : (rows : List (List ℕ)) (x : ℕ) (old : List ℕ) → x < length rows → old ≡ get_or rows x old → row rows x ≡ old
read_row rows x old lt e = get_or_default rows x [] old lt ∙ sym e

-- the removals with the last one apart
pub with_last : (log : List (ℕ × ℕ)) (top x v : ℕ) → 0 < top → top ≤ length log → (x, v) ≡ get_or log (top - 1) (x, v)
    → take top log ≡ take (top - 1) log ++ (x, v) ∷ []
with_last log top x v some inside e = let back : top ≡ (top - 1) + 1 = omega arith in
    ap (λ (n : ℕ). take n log) back ∙ (take_more log (top - 1) (x, v) (omega arith) ∙ ap (λ (r : ℕ × ℕ). take (top - 1) log ++ r ∷ []) (sym e))

pub last_removed : (log : List (ℕ × ℕ)) (top x v : ℕ) → 0 < top → top ≤ length log → (x, v) ≡ get_or log (top - 1) (x, v) → is_removed (take top log) x v ≡ true
last_removed log top x v some inside is = ap (λ (rs : List (ℕ × ℕ)). is_removed rs x v) (with_last log top x v some inside is) ∙ removed_last (take (top - 1) log) x v

pub last_gone : (rows : List (List ℕ)) (log : List (ℕ × ℕ)) (top x v : ℕ) (old : List ℕ) → 0 < top → top ≤ length log → (x, v) ≡ get_or log (top - 1) (x, v)
    → x < length rows → old ≡ get_or rows x old → AreGone (among rows) (take top log) → is_among v old ≡ false
last_gone rows log top x v old some inside is lt read gone = sym (ap (is_among v) (read_row rows x old lt read)) ∙ gone x v (last_removed log top x v some inside is)

module _ (rows : List (List ℕ)) (log : List (ℕ × ℕ)) (top x v : ℕ) (old new : List ℕ) (some : 0 < top) (inside : top ≤ length log)
    (is : (x, v) ≡ get_or log (top - 1) (x, v)) (lt : x < length rows) (read : old ≡ get_or rows x old) (e : new ≡ inserted v old) where
  rows_new : set rows x new ≡ set rows x (inserted v (row rows x))
  rows_new = ap (set rows x) (e ∙ ap (inserted v) (sym (read_row rows x old lt read)))

  put_is : (y w : ℕ) → among (set rows x new) y w ≡ (among rows y w || (eqb x y && eqb v w))
  put_is y w = ap (λ (rs : List (List ℕ)). among rs y w) rows_new ∙ rows_put rows x v y w lt

  pub back_room : (room : ℕ) → sum_by length rows + top ≤ room → sum_by length (set rows x new) + (top - 1) ≤ room
  back_room room h = let a = ap (sum_by (length {A = ℕ})) rows_new in let b = all_put rows x v lt in omega arith

  pub back_places : (y w : ℕ) → is_removed (take (top - 1) log) y w ≡ true → is_removed (take top log) y w ≡ true
  back_places y w h = ap (λ (rs : List (ℕ × ℕ)). is_removed rs y w) (with_last log top x v some inside is)
      ∙ (removed_more (take (top - 1) log) x v y w ∙ ap (λ (b : Bool). b || (eqb x y && eqb v w)) h)

  pub back_gone : are_once (take top log) ≡ true → AreGone (among rows) (take top log)
      → AreGone (among (set rows x new)) (take (top - 1) log)
  back_gone once gone = let split = with_last log top x v some inside is in
      gone_back (among rows) (among (set rows x new)) (take (top - 1) log) x v put_is
      (ap are_once (sym split) ∙ once) (subst (λ (rs : List (ℕ × ℕ)). AreGone (among rows) rs) split gone)

  pub back_once : are_once (take top log) ≡ true → are_once (take (top - 1) log) ≡ true
  back_once once = (once_last (take (top - 1) log) x v (ap are_once (sym (with_last log top x v some inside is)) ∙ once)).0

  pub back_first : began (among (set rows x new)) (take (top - 1) log) ≡ began (among rows) (take top log)
  back_first = began_back (among rows) (among (set rows x new)) (take (top - 1) log) x v put_is
      ∙ ap (began (among rows)) (sym (with_last log top x v some inside is))

-- a removal
module _ (rows : List (List ℕ)) (log : List (ℕ × ℕ)) (top x v : ℕ) (old new : List ℕ) (alive : among rows x v ≡ true)
    (read : old ≡ get_or rows x old) (is : new ≡ filter (λ u. not (eqb u v)) old) where
  rows_less : set rows x new ≡ set rows x (taken v (row rows x))
  rows_less = ap (set rows x) (is ∙ ap (taken v) (sym (read_row rows x old (row_inside rows x v alive) read)))

  take_is : (y w : ℕ) → among (set rows x new) y w ≡ without (among rows) x v y w
  take_is y w = ap (λ (rs : List (List ℕ)). among rs y w) rows_less ∙ rows_taken rows x v y w (row_inside rows x v alive)

  pub has_room : (room : ℕ) → sum_by length rows + top ≤ room → top < room
  has_room room h = let b = all_taken rows x v alive in omega arith

  pub more_room : (room : ℕ) → sum_by length rows + top ≤ room → sum_by length (set rows x new) + (top + 1) ≤ room
  more_room room h = let a = ap (sum_by (length {A = ℕ})) rows_less in let b = all_taken rows x v alive in omega arith

  module _ (room : top < length log) where
    log_more : take (top + 1) (set log top (x, v)) ≡ take top log ++ (x, v) ∷ []
    log_more = take_more_set log top (x, v) room

    pub more_removed : take (top + 1) (set log top (x, v)) ≡ take top log ++ (x, v) ∷ []
    more_removed = log_more

    pub more_places : (A : ℕ → ℕ → Type 0) → A x v → ((y w : ℕ) → is_removed (take top log) y w ≡ true → A y w)
        → (y w : ℕ) → is_removed (take (top + 1) (set log top (x, v))) y w ≡ true → A y w
    more_places A here before y w h = elim (or_cases (is_removed (take top log) y w) (eqb x y && eqb v w)
        (sym (ap (λ (rs : List (ℕ × ℕ)). is_removed rs y w) log_more ∙ removed_more (take top log) x v y w) ∙ h)) [
          | inl old ↦ before y w old
          | inr same ↦ let both = and_parts (eqb x y) (eqb v w) same in
              subst (λ (a : ℕ). A a w) (eqb-true x y both.0) (subst (λ (b : ℕ). A x b) (eqb-true v w both.1) here)
        ]

    pub more_gone : AreGone (among rows) (take top log) → AreGone (among (set rows x new)) (take (top + 1) (set log top (x, v)))
    more_gone gone = subst (λ (rs : List (ℕ × ℕ)). AreGone (among (set rows x new)) rs) (sym log_more)
        (gone_push (among rows) (among (set rows x new)) (take top log) x v take_is gone)

    pub more_once : AreGone (among rows) (take top log) → are_once (take top log) ≡ true → are_once (take (top + 1) (set log top (x, v))) ≡ true
    more_once gone once = ap are_once log_more ∙ once_push (take top log) x v once (not_removed (among rows) (take top log) x v gone alive)

    pub more_first : began (among (set rows x new)) (take (top + 1) (set log top (x, v))) ≡ began (among rows) (take top log)
    more_first = ap (began (among (set rows x new))) log_more ∙ began_push (among rows) (among (set rows x new)) (take top log) x v take_is alive

-- a place of a set is below the bound
pub place_below : (xs : List ℕ) (n v : ℕ) → xs ≡ filter (λ u. is_among u xs) (range_with_len 0 n) → is_among v xs ≡ true → v < n
place_below xs n v shape h = let p = among_passes (λ u. is_among u xs) 0 n v (sym (ap (is_among v) shape) ∙ h) in omega arith
