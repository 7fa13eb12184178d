-- The opening domains, variable by variable.
use Rattle.std.proofs.Common.{◌≡◌, ℕ, zero, suc, ◌+◌, ◌<◌, Bool, cond, eqb, List, [], ◌∷◌, ◌++◌, filter, length, take, get_or, refl, sym, ap, ap₂, ◌∙◌, inl, inr, arith, ne_eqb}
use Rattle.std.specs.List.{range_with_len}
use Rattle.std.proofs.lemmas.Bool.{cases_Bool, cond-true, cond-false}
use Rattle.std.proofs.lemmas.List.{length-map, get_or-map, get_or_default, take_more}
use Rattle.rf_facts.proofs.Places.{range_more}
use Rattle.rf_inst.specs.Opening.{all_places, places_of, opening}

filter_more : (f : ℕ → Bool) (xs : List ℕ) (x : ℕ) → filter f (xs ++ x ∷ []) ≡ filter f xs ++ cond (f x) (x ∷ []) []
filter_more f [] x = refl
filter_more f (y ∷ ys) x = elim (cases_Bool (f y)) [
  | inl h ↦ cond-true (f y) (y ∷ filter f (ys ++ x ∷ [])) (filter f (ys ++ x ∷ [])) h ∙ (ap (λ (l : List ℕ). y ∷ l) (filter_more f ys x)
      ∙ ap (λ (l : List ℕ). l ++ cond (f x) (x ∷ []) []) (sym (cond-true (f y) (y ∷ filter f ys) (filter f ys) h)))
  | inr h ↦ cond-false (f y) (y ∷ filter f (ys ++ x ∷ [])) (filter f (ys ++ x ∷ [])) h ∙ (filter_more f ys x
      ∙ ap (λ (l : List ℕ). l ++ cond (f x) (x ∷ []) []) (sym (cond-false (f y) (y ∷ filter f ys) (filter f ys) h)))
]

front : (n : ℕ) → 0 + n ≡ n
front n = omega arith

pub all_more : (n : ℕ) → range_with_len 0 (n + 1) ≡ range_with_len 0 n ++ n ∷ []
all_more n = range_more 0 n ∙ ap (λ (k : ℕ). range_with_len 0 n ++ k ∷ []) (front n)

pub kept_more : (f : ℕ → Bool) (n : ℕ) → filter f (range_with_len 0 (n + 1)) ≡ filter f (range_with_len 0 n) ++ cond (f n) (n ∷ []) []
kept_more f n = ap (filter f) (all_more n) ∙ filter_more f (range_with_len 0 n) n

length_opening : (forced : ℕ) (vals : List (List ℕ)) → length (opening forced vals) ≡ length vals
length_opening forced [] = refl
length_opening forced (values ∷ rest) = ap suc (length-map rest all_places)

opening_at : (forced x : ℕ) (vals : List (List ℕ)) → x < length vals → get_or (opening forced vals) x [] ≡ cond (eqb x 0) (places_of forced (get_or vals x [])) (all_places (get_or vals x []))
opening_at forced x [] lt = absurd (omega arith)
opening_at forced zero (values ∷ rest) lt = refl
opening_at forced (suc x) (values ∷ rest) lt = get_or-map all_places rest x [] [] (omega arith)
    ∙ sym (cond-false (eqb (suc x) 0) (places_of forced (get_or rest x [])) (all_places (get_or rest x [])) (ne_eqb (suc x) 0 (λ e. omega (arith, e))))

pub opening_more : (forced x : ℕ) (vals : List (List ℕ)) → x < length vals → take (x + 1) (opening forced vals)
    ≡ take x (opening forced vals) ++ cond (eqb x 0) (places_of forced (get_or vals x [])) (all_places (get_or vals x [])) ∷ []
opening_more forced x vals lt = take_more (opening forced vals) x [] (let l = length_opening forced vals in omega arith)
    ∙ ap (λ (places : List ℕ). take x (opening forced vals) ++ places ∷ []) (opening_at forced x vals lt)

-- the same with what was read
pub opened : (forced x : ℕ) (vals : List (List ℕ)) (alive more : List (List ℕ)) (places values : List ℕ) → x < length vals → alive ≡ take x (opening forced vals)
    → more ≡ alive ++ places ∷ [] → places ≡ cond (eqb x 0) (places_of forced values) (all_places values) → values ≡ get_or vals x [] → more ≡ take (x + 1) (opening forced vals)
opened forced x vals alive more places values lt so_far is domain read = is ∙ (ap₂ (λ (l : List (List ℕ)) (p : List ℕ). l ++ p ∷ []) so_far
    (domain ∙ ap (λ (v : List ℕ). cond (eqb x 0) (places_of forced v) (all_places v)) read) ∙ sym (opening_more forced x vals lt))

pub read_at : (rows vals : List (List ℕ)) (x : ℕ) (row values : List ℕ) → values ≡ row → row ≡ get_or rows x row → rows ≡ vals → x < length vals → values ≡ get_or vals x []
read_at rows vals x row values is read same lt = is ∙ (read ∙ (ap (λ (l : List (List ℕ)). get_or l x row) same ∙ get_or_default vals x row [] lt))
