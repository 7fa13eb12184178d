-- Tuples of one length in a single list: one more of them, and the one at a place.
use Rattle.std.proofs.Common.{◌≡◌, ℕ, zero, suc, ◌+◌, ◌*◌, ◌-◌, ◌<◌, ◌≤◌, List, [], ◌∷◌, ◌++◌, length, take, drop, get_or, refl, sym, ap, ap₂, ◌∙◌, subst, arith, length-append}
use Rattle.std.specs.List.{All}
use Rattle.std.proofs.Math.Nat.{suc-mul, zero-mul}
use Rattle.std.proofs.lemmas.Nat.{mul-le}
use Rattle.std.proofs.lemmas.List.{take_all, take-append-le, drop-append-le, length-drop, length-take-le, drop-drop}
use Rattle.rf_facts.specs.Rows.{pieces}

pub length_pieces : (w n : ℕ) (cells : List ℕ) → length (pieces w n cells) ≡ n
unfolding pieces
length_pieces w zero cells = refl
length_pieces w (suc n) cells = ap suc (length_pieces w n (drop w cells))

-- a piece ends within the cells
pub inside : (w n k size : ℕ) → k < n → size ≡ n * w → k * w + w ≤ size
inside w n k size lt e = let m : suc k * w ≤ n * w = mul-le (suc k) w n w (omega arith) (omega arith) in let s : suc k * w ≡ k * w + w = suc-mul k w in omega (arith, m, s, e)

left_over : (w n size : ℕ) → size ≡ suc n * w → size - w ≡ n * w
left_over w n size e = let s = suc-mul n w in omega arith

pub get_piece : (w n k : ℕ) (cells : List ℕ) → k < n → get_or (pieces w n cells) k [] ≡ take w (drop (k * w) cells)
unfolding pieces
get_piece w zero k cells lt = absurd (omega arith)
get_piece w (suc n) zero cells lt = ap (λ (m : ℕ). take w (drop m cells)) (sym (zero-mul w))
get_piece w (suc n) (suc k) cells lt = get_piece w n k (drop w cells) (omega arith)
    ∙ ap (take w) (drop-drop (k * w) w cells ∙ ap (λ (m : ℕ). drop m cells) (let s = suc-mul k w in omega arith))

empty : (w : ℕ) (cells : List ℕ) → length cells ≡ zero * w → cells ≡ []
empty w [] e = refl
empty w (c ∷ cells) e = absurd (let z = zero-mul w in omega arith)

same_width : (w n : ℕ) (cells t : List ℕ) → length cells ≡ n * w → length t ≡ w → pieces w (suc n) (cells ++ t) ≡ pieces w n cells ++ t ∷ []
unfolding pieces
same_width w zero cells t e s = let none = empty w cells e in
    ap (λ (l : List ℕ). take w (l ++ t) ∷ []) none ∙ ap (λ (l : List ℕ). l ∷ []) (take_all w t (omega arith))
same_width w (suc n) cells t e s = let k = suc-mul n w in let wide : w ≤ length cells = omega arith in
    ap₂ (λ (one : List ℕ) (l : List (List ℕ)). one ∷ l) (take-append-le w cells t wide)
    (ap (pieces w (suc n)) (drop-append-le w cells t wide)
    ∙ same_width w n (drop w cells) t (length-drop w cells ∙ left_over w n (length cells) e) s)

pub record More (w n : ℕ) (cells t : List ℕ) : Type 0 where
  pub view : pieces (length t) (n + 1) (cells ++ t) ≡ pieces w n cells ++ t ∷ []
  pub size : length (cells ++ t) ≡ (n + 1) * length t

wide_as : (w n : ℕ) (cells t : List ℕ) → length cells ≡ n * w → w ≡ length t → More w n cells t
wide_as w n cells t e s = record {
  view = subst (λ (v : ℕ). pieces v (n + 1) (cells ++ t) ≡ pieces w n cells ++ t ∷ []) s
      (ap (λ (k : ℕ). pieces w k (cells ++ t)) (omega arith) ∙ same_width w n cells t e (sym s));
  size = subst (λ (v : ℕ). length (cells ++ t) ≡ (n + 1) * v) s
      (length-append cells t ∙ (ap₂ ◌+◌ e (sym s) ∙ (sym (suc-mul n w) ∙ ap (λ (k : ℕ). k * w) (omega arith))));
}

pub one_more : (w n : ℕ) (cells t : List ℕ) → length cells ≡ n * w → All (λ (row : List ℕ). length row ≡ length t) (pieces w n cells) → More w n cells t
unfolding pieces
one_more w zero cells t e all = let none = empty w cells e in record {
  view = ap (λ (l : List ℕ). pieces (length t) (0 + 1) (l ++ t)) none ∙ ap (λ (l : List ℕ). l ∷ []) (take_all (length t) t (omega arith));
  size = ap (λ (l : List ℕ). length (l ++ t)) none ∙ (let z = suc-mul zero (length t) in let y = zero-mul (length t) in omega arith);
}
one_more w (suc n) cells t e all = let k = suc-mul n w in
    wide_as w (suc n) cells t e (sym (length-take-le w cells (omega arith)) ∙ all 0 [] (omega arith))

pub below : (w n k : ℕ) (cells : List ℕ) (rows : List (List ℕ)) → pieces w n cells ≡ rows → k < length rows → k < n
below w n k cells rows e lt = subst (λ (m : ℕ). k < m) (sym (ap (length {A = List ℕ}) e) ∙ length_pieces w n cells) lt

pub counted : (w n : ℕ) (cells : List ℕ) (rows : List (List ℕ)) → pieces w n cells ≡ rows → n ≡ length rows
counted w n cells rows e = sym (length_pieces w n cells) ∙ ap (length {A = List ℕ}) e

-- the piece at a place lies within the cells
pub ends_within : (w n k : ℕ) (cells : List ℕ) (rows : List (List ℕ)) → pieces w n cells ≡ rows → k < length rows → length cells ≡ n * w → k * w + w ≤ length cells
ends_within w n k cells rows e lt size = inside w n k (length cells) (below w n k cells rows e lt) size

pub row_is : (w n k : ℕ) (cells : List ℕ) (rows : List (List ℕ)) → pieces w n cells ≡ rows → k < length rows → take w (drop (k * w) cells) ≡ get_or rows k []
row_is w n k cells rows e lt = sym (get_piece w n k cells (below w n k cells rows e lt)) ∙ ap (λ (l : List (List ℕ)). get_or l k []) e

pub pushed : (w n : ℕ) (cells more t : List ℕ) (rows : List (List ℕ)) → pieces w n cells ≡ rows → length cells ≡ n * w → more ≡ cells ++ t
    → All (λ (row : List ℕ). length row ≡ length t) rows → (pieces (length t) (n + 1) more ≡ rows ++ t ∷ []) × (length more ≡ (n + 1) * length t)
pushed w n cells more t rows e size is all =
    let m = one_more w n cells t size (subst (All (λ (row : List ℕ). length row ≡ length t)) (sym e) all) in
    (ap (pieces (length t) (n + 1)) is ∙ (m.view ∙ ap (λ (l : List (List ℕ)). l ++ t ∷ []) e), ap (length {A = ℕ}) is ∙ m.size)
