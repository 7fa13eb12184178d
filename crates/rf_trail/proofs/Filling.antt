-- A set made of a list of distinct places, and the sets of a list of rows.
use Rattle.std.proofs.Common.{◌≡◌, ℕ, zero, suc, ◌+◌, ◌<◌, ◌≤◌, Bool, true, false, not, ◌||◌, eqb, ltb, List, [], ◌∷◌, ◌++◌, length, take, get_or, refl, sym, ap, ◌∙◌, arith, eq-eqb, ne_eqb, ltb-true, lt-ltb}
use Rattle.std.proofs.lemmas.Bool.{both_ways, and_parts, and_from, or_parts, not_from_false, or_left, or_right, or_from, not-true}
use Rattle.std.proofs.lemmas.List.{take_more, take_all}
use Rattle.rf_form.specs.Alive.{is_among, among}
use Rattle.rf_form.specs.Fitting.{are_below}
use Rattle.rf_trail.specs.Bits.{inserted}
use Rattle.rf_trail.specs.Trails.{are_distinct, IsSet}
use Rattle.rf_trail.proofs.Rows.{among_inserted}

among_get : (l : List ℕ) (k d : ℕ) → k < length l → is_among (get_or l k d) l ≡ true
among_get [] k d lt = absurd (omega arith)
among_get (u ∷ us) zero d lt = or_left (eqb u u) (is_among u us) (eq-eqb u u refl)
among_get (u ∷ us) (suc k) d lt = or_right (eqb (get_or us k d) u) (is_among (get_or us k d) us) (among_get us k d (omega arith))

fresh_at : (l : List ℕ) (k d : ℕ) → are_distinct l ≡ true → k < length l → is_among (get_or l k d) (take k l) ≡ false
fresh_at [] k d once lt = absurd (omega arith)
fresh_at (u ∷ us) zero d once lt = refl
fresh_at (u ∷ us) (suc k) d once lt = let parts = and_parts (not (is_among u us)) (are_distinct us) once in
    or_from (eqb (get_or us k d) u) (is_among (get_or us k d) (take k us))
    (ne_eqb (get_or us k d) u (λ e. both_ways (is_among u us) (not-true (is_among u us) parts.0)
    (ap (λ (w : ℕ). is_among w us) (sym e) ∙ among_get us k d (omega arith))))
    (fresh_at us k d parts.1 (omega arith))

-- the next place isn't in the set yet, and is below the bound
pub next_fresh : (l : List ℕ) (k v : ℕ) (dom : List ℕ) → are_distinct l ≡ true → k < length l → v ≡ get_or l k v
    → ((w : ℕ) → is_among w dom ≡ is_among w (take k l)) → is_among v dom ≡ false
next_fresh l k v dom once lt e same = same v ∙ (ap (λ (w : ℕ). is_among w (take k l)) e ∙ fresh_at l k v once lt)

pub next_below : (l : List ℕ) (n k v : ℕ) → are_below n l ≡ true → k < length l → v ≡ get_or l k v → v < n
next_below [] n k v below lt e = absurd (omega arith)
next_below (u ∷ us) n zero v below lt e = let p = and_parts (ltb u n) (are_below n us) below in let q = ltb-true u n p.0 in omega arith
next_below (u ∷ us) n (suc k) v below lt e = next_below us n k v (and_parts (ltb u n) (are_below n us) below).1 (omega arith) e

among_end : (w v : ℕ) (xs : List ℕ) → is_among w (xs ++ v ∷ []) ≡ (is_among w xs || eqb w v)
among_end w v [] = swap (eqb w v)
  where
    swap : (b : Bool) → (b || false) ≡ b
    swap true = refl
    swap false = refl
among_end w v (u ∷ us) = ap (λ (b : Bool). eqb w u || b) (among_end w v us) ∙ move (eqb w u) (is_among w us) (eqb w v)
  where
    move : (a b c : Bool) → (a || (b || c)) ≡ ((a || b) || c)
    move true b c = refl
    move false b c = refl

pub filled_more : (l : List ℕ) (k v : ℕ) (dom : List ℕ) → k < length l → v ≡ get_or l k v → ((w : ℕ) → is_among w dom ≡ is_among w (take k l))
    → (w : ℕ) → is_among w (inserted v dom) ≡ is_among w (take (k + 1) l)
filled_more l k v dom lt e same w = among_inserted v w dom ∙ (ap (λ (b : Bool). b || eqb w v) (same w)
    ∙ (sym (among_end w v (take k l)) ∙ ap (is_among w) (ap (λ (u : ℕ). take k l ++ u ∷ []) e ∙ sym (take_more l k v lt))))

-- one row more
pub among_push : (xs ys : List (List ℕ)) (r s : List ℕ) → length xs ≡ length ys → ((x v : ℕ) → among xs x v ≡ among ys x v)
    → ((v : ℕ) → is_among v r ≡ is_among v s) → (x v : ℕ) → among (xs ++ r ∷ []) x v ≡ among (ys ++ s ∷ []) x v
among_push [] [] r s e same is zero v = is v
among_push [] [] r s e same is (suc x) v = refl
among_push [] (b ∷ ys) r s e same is x v = absurd (omega arith)
among_push (a ∷ xs) [] r s e same is x v = absurd (omega arith)
among_push (a ∷ xs) (b ∷ ys) r s e same is zero v = same 0 v
among_push (a ∷ xs) (b ∷ ys) r s e same is (suc x) v = among_push xs ys r s (omega arith) (λ y w. same (suc y) w) is x v

-- a list of places with one more at the end
pub distinct_more : (l : List ℕ) (k v : ℕ) → k < length l → v ≡ get_or l k v → are_distinct (take k l) ≡ true → is_among v (take k l) ≡ false
    → are_distinct (take (k + 1) l) ≡ true
distinct_more l k v lt e once fresh = ap are_distinct (take_more l k v lt ∙ ap (λ (u : ℕ). take k l ++ u ∷ []) (sym e)) ∙ push (take k l) once fresh
  where
    push : (xs : List ℕ) → are_distinct xs ≡ true → is_among v xs ≡ false → are_distinct (xs ++ v ∷ []) ≡ true
    push [] h f = refl
    push (u ∷ us) h f = let parts = and_parts (not (is_among u us)) (are_distinct us) h in let apart = or_parts (eqb v u) (is_among v us) f in
        and_from (not (is_among u (us ++ v ∷ []))) (are_distinct (us ++ v ∷ []))
        (not_from_false (is_among u (us ++ v ∷ [])) (among_end u v us ∙ or_from (is_among u us) (eqb u v) (not-true (is_among u us) parts.0)
        (ne_eqb u v (λ s. both_ways (eqb v u) apart.0 (eq-eqb v u (sym s))))))
        (push us parts.1 apart.1)

pub below_more : (l : List ℕ) (n k v : ℕ) → k < length l → v ≡ get_or l k v → are_below n (take k l) ≡ true → v < n → are_below n (take (k + 1) l) ≡ true
below_more l n k v lt e below small = ap (are_below n) (take_more l k v lt ∙ ap (λ (u : ℕ). take k l ++ u ∷ []) (sym e)) ∙ push (take k l) below
  where
    push : (xs : List ℕ) → are_below n xs ≡ true → are_below n (xs ++ v ∷ []) ≡ true
    push [] h = and_from (ltb v n) true (lt-ltb v n small) refl
    push (u ∷ us) h = let parts = and_parts (ltb u n) (are_below n us) h in and_from (ltb u n) (are_below n (us ++ v ∷ [])) parts.0 (push us parts.1)

pub set_whole : (l : List ℕ) (n k : ℕ) → length l ≤ k → are_distinct (take k l) ≡ true → are_below n (take k l) ≡ true → IsSet n l
set_whole l n k all once below = record { distinct = ap are_distinct (sym (take_all k l all)) ∙ once; below = ap (are_below n) (sym (take_all k l all)) ∙ below }
