-- Bits of words as places of lists.
use Rattle.std.proofs.Common.{◌≡◌, ℕ, zero, suc, ◌*◌, ◌/◌, ◌%◌, ◌<◌, ◌≤◌, Bool, true, false, not, ◌&&◌, ◌||◌, eqb, List, [], ◌∷◌, length, filter, get_or, set, replicate, refl, sym, ap, ap₂, ◌∙◌, subst, inl, inr, arith, eq-eqb, ne_eqb, eqb-true, get_or-set_same, get_or-set_other, length-set, bit_or, bit_and, ◌^◌, w64}
use mir.Val.{bits}
use Rattle.std.specs.List.{range_with_len}
use Rattle.std.specs.Int.{bit_not}
use Rattle.std.proofs.lemmas.Bool.{cases_lt, cases_eq, both_ways, or_right, false_from_ne_true}
use Rattle.std.proofs.lemmas.Nat.Bits.{bit_at-zero, bit_at_set_same, bit_at_set_other, bit_at_clear_same, bit_at_clear_other}
use Rattle.std.proofs.lemmas.List.Elements.{filter_agree}
use Rattle.rf_form.specs.Alive.{is_among}
use Rattle.rf_form.proofs.Firsts.{same_bool}
use Rattle.rf_trail.specs.Bits.{has_bit, is_set, places, inserted}
use Rattle.rf_trail.proofs.Ranges.{among_passes, passes_among, with_one, filtered, nothing_passes, or_apart}

past_end : (words : List ℕ) (k : ℕ) → length words ≤ k → get_or words k 0 ≡ 0
past_end [] k h = refl
past_end (w ∷ ws) zero h = absurd (omega arith)
past_end (w ∷ ws) (suc k) h = past_end ws k (omega arith)

pub set_inside : (words : List ℕ) (v : ℕ) → is_set words v ≡ true → v / 64 < length words
unfolding is_set
set_inside words v h = elim (cases_lt (v / 64) (length words)) [
  | inl lt ↦ lt
  | inr above ↦ absurd (let e = ap (λ (w : ℕ). has_bit w (v % 64)) (past_end words (v / 64) above) in
      let z : has_bit 0 (v % 64) ≡ false = ap (λ (b : ℕ). eqb b 1) (bit_at-zero (v % 64)) in both_ways (is_set words v) (e ∙ z) h)
]

pub among_set : (words : List ℕ) (v : ℕ) → is_among v (places words) ≡ is_set words v
unfolding places
among_set words v = same_bool (is_among v (places words)) (is_set words v)
    (λ h. (among_passes (is_set words) 0 (64 * length words) v h).2)
    (λ h. let inside = set_inside words v h in passes_among (is_set words) 0 (64 * length words) v (omega arith) (omega arith) h)

-- one bit of a word
pub with_bit_is : (word at i : ℕ) → at < 64 → i < 64 → has_bit (bit_or word (1 * 2 ^ at % 2 ^ bits w64)) i ≡ (has_bit word i || eqb i at)
with_bit_is word at i inside low = elim (cases_eq i at) [
  | inl e ↦ subst (λ (k : ℕ). has_bit (bit_or word (1 * 2 ^ at % 2 ^ bits w64)) k ≡ true) (sym e) (ap (λ (b : ℕ). eqb b 1) (bit_at_set_same w64 word at inside))
      ∙ sym (or_right (has_bit word i) (eqb i at) (eq-eqb i at e))
  | inr ne ↦ ap (λ (b : ℕ). eqb b 1) (bit_at_set_other w64 word at inside i ne) ∙ sym (or_apart (has_bit word i) i at ne)
]

and_apart : (b : Bool) (w v : ℕ) → (w ≡ v → ⊥) → (b && not (eqb w v)) ≡ b
and_apart false w v ne = refl
and_apart true w v ne = ap not (ne_eqb w v ne)

and_here : (b : Bool) (w v : ℕ) → w ≡ v → (b && not (eqb w v)) ≡ false
and_here false w v e = refl
and_here true w v e = ap not (eq-eqb w v e)

pub without_bit_is : (word at i : ℕ) → at < 64 → i < 64 → has_bit (bit_and word (bit_not w64 (1 * 2 ^ at % 2 ^ bits w64))) i ≡ (has_bit word i && not (eqb i at))
without_bit_is word at i inside low = elim (cases_eq i at) [
  | inl e ↦ subst (λ (k : ℕ). has_bit (bit_and word (bit_not w64 (1 * 2 ^ at % 2 ^ bits w64))) k ≡ false) (sym e) (ap (λ (b : ℕ). eqb b 1) (bit_at_clear_same w64 word at inside))
      ∙ sym (and_here (has_bit word i) i at e)
  | inr ne ↦ ap (λ (b : ℕ). eqb b 1) (bit_at_clear_other w64 word at inside i low ne) ∙ sym (and_apart (has_bit word i) i at ne)
]

-- in one word, places are told apart by their bits
same_place : (w v : ℕ) → w / 64 ≡ v / 64 → eqb (w % 64) (v % 64) ≡ eqb w v
same_place w v e = same_bool (eqb (w % 64) (v % 64)) (eqb w v)
    (λ h. let r = eqb-true (w % 64) (v % 64) h in eq-eqb w v (omega arith))
    (λ h. let r = eqb-true w v h in eq-eqb (w % 64) (v % 64) (ap (λ (k : ℕ). k % 64) r))

other_word : (w v : ℕ) → (w / 64 ≡ v / 64 → ⊥) → w ≡ v → ⊥
other_word w v ne e = ne (ap (λ (k : ℕ). k / 64) e)

-- a word that has one bit more, or less
set_put : (words : List ℕ) (v word w : ℕ) → v / 64 < length words → ((i : ℕ) → i < 64 → has_bit word i ≡ (has_bit (get_or words (v / 64) 0) i || eqb i (v % 64)))
    → is_set (set words (v / 64) word) w ≡ (is_set words w || eqb w v)
unfolding is_set
set_put words v word w inside is = elim (cases_eq (w / 64) (v / 64)) [
  | inl e ↦ ap (λ (k : ℕ). has_bit (get_or (set words (v / 64) word) k 0) (w % 64)) e
      ∙ (ap (λ (u : ℕ). has_bit u (w % 64)) (get_or-set_same words (v / 64) word 0 inside)
      ∙ (is (w % 64) (omega arith) ∙ ap₂ ◌||◌ (ap (λ (k : ℕ). has_bit (get_or words k 0) (w % 64)) (sym e)) (same_place w v e)))
  | inr ne ↦ ap (λ (u : ℕ). has_bit u (w % 64)) (get_or-set_other words (v / 64) (w / 64) word 0 ne)
      ∙ sym (or_apart (has_bit (get_or words (w / 64) 0) (w % 64)) w v (other_word w v ne))
]

set_take : (words : List ℕ) (v word w : ℕ) → v / 64 < length words → ((i : ℕ) → i < 64 → has_bit word i ≡ (has_bit (get_or words (v / 64) 0) i && not (eqb i (v % 64))))
    → is_set (set words (v / 64) word) w ≡ (is_set words w && not (eqb w v))
unfolding is_set
set_take words v word w inside is = elim (cases_eq (w / 64) (v / 64)) [
  | inl e ↦ ap (λ (k : ℕ). has_bit (get_or (set words (v / 64) word) k 0) (w % 64)) e
      ∙ (ap (λ (u : ℕ). has_bit u (w % 64)) (get_or-set_same words (v / 64) word 0 inside)
      ∙ (is (w % 64) (omega arith) ∙ ap₂ (λ (b c : Bool). b && not c) (ap (λ (k : ℕ). has_bit (get_or words k 0) (w % 64)) (sym e)) (same_place w v e)))
  | inr ne ↦ ap (λ (u : ℕ). has_bit u (w % 64)) (get_or-set_other words (v / 64) (w / 64) word 0 ne)
      ∙ sym (and_apart (has_bit (get_or words (w / 64) 0) (w % 64)) w v (other_word w v ne))
]

pub put_places : (words : List ℕ) (v word : ℕ) → v / 64 < length words → ((i : ℕ) → i < 64 → has_bit word i ≡ (has_bit (get_or words (v / 64) 0) i || eqb i (v % 64)))
    → is_among v (places words) ≡ false → places (set words (v / 64) word) ≡ inserted v (places words)
unfolding places
put_places words v word inside is fresh = ap (λ (n : ℕ). filter (is_set (set words (v / 64) word)) (range_with_len 0 (64 * n))) (length-set words (v / 64) word)
    ∙ with_one (is_set words) (is_set (set words (v / 64) word)) v 0 (64 * length words) (omega arith) (omega arith)
    (sym (among_set words v) ∙ fresh) (λ w. set_put words v word w inside is)

pub take_places : (words : List ℕ) (v word : ℕ) → v / 64 < length words → ((i : ℕ) → i < 64 → has_bit word i ≡ (has_bit (get_or words (v / 64) 0) i && not (eqb i (v % 64))))
    → places (set words (v / 64) word) ≡ filter (λ w. not (eqb w v)) (places words)
unfolding places
take_places words v word inside is = ap (λ (n : ℕ). filter (is_set (set words (v / 64) word)) (range_with_len 0 (64 * n))) (length-set words (v / 64) word)
    ∙ filtered (is_set words) (is_set (set words (v / 64) word)) (λ w. not (eqb w v)) (range_with_len 0 (64 * length words)) (λ w. set_take words v word w inside is)

zeros : (n k : ℕ) → get_or {A = ℕ} (replicate n 0) k 0 ≡ 0
zeros zero k = refl
zeros (suc n) zero = refl
zeros (suc n) (suc k) = zeros n k

pub empty_places : (n : ℕ) → places (replicate {A = ℕ} n 0) ≡ []
unfolding places is_set
empty_places n = nothing_passes (is_set (replicate n 0)) (range_with_len 0 (64 * length (replicate n 0)))
    (λ w. ap (λ (u : ℕ). has_bit u (w % 64)) (zeros n (w / 64)) ∙ ap (λ (b : ℕ). eqb b 1) (bit_at-zero (w % 64)))

-- the list is that of the places below the bound that stand in it
pub places_shape : (words : List ℕ) (n : ℕ) → length words ≡ n → places words ≡ filter (λ v. is_among v (places words)) (range_with_len 0 (64 * n))
unfolding places
places_shape words n e = ap (λ (k : ℕ). filter (is_set words) (range_with_len 0 (64 * k))) e
    ∙ filter_agree (is_set words) (λ v. is_among v (places words)) (λ v. sym (among_set words v)) (range_with_len 0 (64 * n))

-- the same of the list that contracts see
pub has_seen : (words xs : List ℕ) (v : ℕ) (r : Bool) → places words ≡ xs → r ≡ has_bit (get_or words (v / 64) 0) (v % 64) → r ≡ is_among v xs
unfolding is_set
has_seen words xs v r e h = h ∙ (sym (among_set words v) ∙ ap (is_among v) e)

pub none_seen : (words xs : List ℕ) (v n : ℕ) → places words ≡ xs → length words ≡ n → n ≤ v / 64 → false ≡ is_among v xs
none_seen words xs v n e size above = sym (false_from_ne_true (is_among v xs)
    (λ h. let lt = set_inside words v (sym (among_set words v) ∙ (ap (is_among v) e ∙ h)) in omega arith))

pub inside_seen : (words xs : List ℕ) (v n : ℕ) → places words ≡ xs → length words ≡ n → is_among v xs ≡ true → v / 64 < n
inside_seen words xs v n e size h = let lt = set_inside words v (sym (among_set words v) ∙ (ap (is_among v) e ∙ h)) in omega arith

pub put_seen : (words xs : List ℕ) (v word n : ℕ) → places words ≡ xs → length words ≡ n → v < 64 * n
    → ((i : ℕ) → i < 64 → has_bit word i ≡ (has_bit (get_or words (v / 64) 0) i || eqb i (v % 64)))
    → is_among v xs ≡ false → places (set words (v / 64) word) ≡ inserted v xs
put_seen words xs v word n e size inside is fresh = put_places words v word (omega arith) is (ap (is_among v) e ∙ fresh) ∙ ap (inserted v) e

pub take_seen : (words xs : List ℕ) (v word n : ℕ) → places words ≡ xs → length words ≡ n → is_among v xs ≡ true
    → ((i : ℕ) → i < 64 → has_bit word i ≡ (has_bit (get_or words (v / 64) 0) i && not (eqb i (v % 64))))
    → places (set words (v / 64) word) ≡ filter (λ w. not (eqb w v)) xs
take_seen words xs v word n e size there is = take_places words v word (let lt = inside_seen words xs v n e size there in omega arith) is
    ∙ ap (filter (λ w. not (eqb w v))) e

pub shape_seen : (words xs : List ℕ) (n : ℕ) → places words ≡ xs → length words ≡ n → xs ≡ filter (λ v. is_among v xs) (range_with_len 0 (64 * n))
shape_seen words xs n e size = subst (λ (l : List ℕ). l ≡ filter (λ v. is_among v l) (range_with_len 0 (64 * n))) e (places_shape words n size)
