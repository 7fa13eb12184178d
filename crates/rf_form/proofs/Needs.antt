-- Each family has one answer of the canonical search, and one need.
use Rattle.std.proofs.Common.{◌≡◌, ◌⊎◌, ℕ, zero, suc, ◌+◌, ◌<◌, ◌≤◌, Bool, true, false, cond, List, [], ◌∷◌, filter, All, Option, Some, None, refl, sym, ap, ◌∙◌, subst, inl, inr, arith}
use Rattle.std.specs.List.{range_with_len}
use Rattle.std.proofs.lemmas.Bool.{cases_lt, cases_eq, both_ways, cases_Bool, false_from_ne_true, cond-true, cond-false}
use Rattle.std.proofs.lemmas.List.Elements.{filter_passes}
use Rattle.rf_form.specs.Families.{Family, at, Part, Within, IsWide}
use Rattle.rf_form.specs.Problems.{Problem, Fits, NoneClosed, IsGreatest, Lawful}
use Rattle.rf_form.specs.Need.{values, solution, FirstWide, AllSingle, Canon, Tries, HasCanon}
use Rattle.rf_form.specs.Need as need
use Rattle.rf_form.specs.Sums.{weight}
use Rattle.rf_form.proofs.Firsts.{Decided, first_below, decide_below, decide_both, decide_bool}
use Rattle.rf_form.proofs.FamilyLemmas.{at_part, at_alive, within_part}
use Rattle.rf_form.proofs.Weights.{weight_lt, weight_le}
use Rattle.rf_form.proofs.Closings.{closes, closure_one, none_or_greatest, greatest_part, part_trans}

-- a list of alive places of a variable that has one isn't empty
filter_some : (p : ℕ → Bool) (n a v : ℕ) → a ≤ v → v < a + n → p v ≡ true → (first : ℕ) × (rest : List ℕ) × (filter p (range_with_len a n) ≡ first ∷ rest)
filter_some p zero a v low high h = absurd (omega arith)
filter_some p (suc n) a v low high h = elim (cases_Bool (p a)) [
  | inl here ↦ (a, filter p (range_with_len (a + 1) n), cond-true (p a) (a ∷ filter p (range_with_len (a + 1) n)) (filter p (range_with_len (a + 1) n)) here)
  | inr gone ↦ elim (cases_eq a v) [
    | inl e ↦ absurd (both_ways (p a) gone (subst (λ (b : ℕ). p b ≡ true) (sym e) h))
    | inr ne ↦ let r = filter_some p n (a + 1) v (omega arith) (omega arith) h in
        (r.0, r.1, cond-false (p a) (a ∷ filter p (range_with_len (a + 1) n)) (filter p (range_with_len (a + 1) n)) gone ∙ r.2)
  ]
]

abbrev HasTries : Problem → Family → ℕ → List ℕ → Type 0
HasTries i q x vs = (o : Option (List ℕ)) × (n : ℕ) × Tries i q x vs o n

tries_more : (i : Problem) (q : Family) (x v : ℕ) (rest : List ℕ) (o : Option (List ℕ)) (k : ℕ) → Canon i (at q x v) o k → HasTries i q x rest → HasTries i q x (v ∷ rest)
tries_more i q x v rest None k c t = (t.0, suc (k + t.1), need.goes q x (v ∷ rest) t.0 (suc (k + t.1)) v rest k t.1 refl c t.2 refl)
tries_more i q x v rest (Some found) k c t = (Some found, suc k, need.ends q x (v ∷ rest) (Some found) (suc k) v rest found k refl c refl refl)

has_tries : (i : Problem) (q : Family) (x : ℕ) (vs : List ℕ) → All (λ v. q x v ≡ true) vs → ((v : ℕ) → q x v ≡ true → HasCanon i (at q x v)) → HasTries i q x vs
has_tries i q x [] all f = (None, 0, need.no_value q x [] None 0 refl refl refl)
has_tries i q x (v ∷ vs) all f = let c = f v (all 0 v (omega arith)) in tries_more i q x v vs c.0 c.1 c.2 (has_tries i q x vs (λ k d lt. all (suc k) d (omega arith)) f)

-- where there is a value, at least one is taken
tries_count : (i : Problem) (q : Family) (x : ℕ) (vs : List ℕ) (o : Option (List ℕ)) (n : ℕ) (first : ℕ) (rest : List ℕ) → vs ≡ first ∷ rest → Tries i q x vs o n
    → (k : ℕ) × (n ≡ suc k)
tries_count i q x vs o n first rest e (need.no_value _ _ _ _ _ empty _ _) = absurd (let h = sym empty ∙ e in cc)
tries_count i q x vs o n first rest e (need.ends _ _ _ _ _ _ _ _ k _ _ _ h) = (k, h)
tries_count i q x vs o n first rest e (need.goes _ _ _ _ _ _ _ k m _ _ _ h) = (k + m, h)

decide_wide : (i : Problem) (q : Family) → Fits i q → (x : ℕ) → Decided (IsWide q x)
decide_wide i q fits x = elim (decide_below (λ low. (high : ℕ) × (high < i.places x) × ((low < high) × ((q x low ≡ true) × (q x high ≡ true)))) (i.places x)
    (λ low l. decide_below (λ high. (low < high) × ((q x low ≡ true) × (q x high ≡ true))) (i.places x)
    (λ high h. decide_both (low < high) ((q x low ≡ true) × (q x high ≡ true)) (elim (cases_lt low high) [ inl lt ↦ inl lt | inr above ↦ inr (λ lt. omega arith) ])
    (decide_both (q x low ≡ true) (q x high ≡ true) (decide_bool (q x low) true) (decide_bool (q x high) true))))) [
      | inl h ↦ inl (record { low = h.0; high = h.2.0; low_alive = h.2.2.1.0; high_alive = h.2.2.1.1; apart = h.2.2.0 })
      | inr never ↦ inr (λ w. never (w.low, (fits x w.low w.low_alive).1, (w.high, (fits x w.high w.high_alive).1, (w.apart, (w.low_alive, w.high_alive)))))
    ]

-- one place of a wide variable weighs less than all of them
at_lighter : (i : Problem) (q : Family) (x v : ℕ) → Fits i q → IsWide q x → q x v ≡ true → weight i.places i.count (at q x v) < weight i.places i.count q
at_lighter i q x v fits wide alive = elim (cases_eq v wide.low) [
  | inl e ↦ weight_lt i.places i.count (at q x v) q x wide.high (at_part q x v alive) (fits x v alive).0 (fits x wide.high wide.high_alive).1
      (false_from_ne_true (at q x v x wide.high) (λ h. let f = at_alive q x v wide.high h in let g = wide.apart in omega arith)) wide.high_alive
  | inr ne ↦ weight_lt i.places i.count (at q x v) q x wide.low (at_part q x v alive) (fits x v alive).0 (fits x wide.low wide.low_alive).1
      (false_from_ne_true (at q x v x wide.low) (λ h. ne (at_alive q x v wide.low h))) wide.low_alive
]

split_canon : (i : Problem) (δ q : Family) (x : ℕ) → Fits i q → IsGreatest i δ q → FirstWide i q x → HasTries i q x (values i q x) → HasCanon i δ
split_canon i δ q x fits g first t =
    let low = filter_some (q x) (i.places x) 0 first.wide.low (omega arith) (let h = (fits x first.wide.low first.wide.low_alive).1 in omega arith) first.wide.low_alive in
    let k = tries_count i q x (values i q x) t.0 t.1 low.0 low.1 low.2 t.2 in
    (t.0, k.0, need.splits δ q x t.0 k.0 g first (subst (λ (n : ℕ). Tries i q x (values i q x) t.0 n) k.1 t.2))

need_below : (i : Problem) → Lawful i → (m : ℕ) (δ : Family) → Fits i δ → weight i.places i.count δ < m → HasCanon i δ
need_below i law zero δ fits below = absurd (omega arith)
need_below i law (suc m) δ fits below = elim (closes i law (suc m) δ fits below) [
  | inl none ↦ (None, 0, need.fails δ None 0 none refl refl)
  | inr h ↦ let q = h.0 in let part = greatest_part i δ q h.1 in
      let inside = within_part i.count i.places q δ part fits in
      let lighter : weight i.places i.count q ≤ weight i.places i.count δ = weight_le i.places i.count q δ part in
      elim (first_below (λ x. IsWide q x) (λ x. IsWide q x → ⊥) i.count (λ x lt. decide_wide i q inside x)) [
        | inr single ↦ (Some (solution i q), 0, need.solves δ q (Some (solution i q)) 0 h.1 single refl refl)
        | inl wide ↦ split_canon i δ q wide.0 inside h.1 (record { inside = wide.1; wide = wide.2; before = wide.3 })
            (has_tries i q wide.0 (values i q wide.0) (filter_passes (q wide.0) (range_with_len 0 (i.places wide.0)))
            (λ v alive. let less : weight i.places i.count (at q wide.0 v) < weight i.places i.count q = at_lighter i q wide.0 v inside wide.2 alive in
            need_below i law m (at q wide.0 v) (within_part i.count i.places (at q wide.0 v) q (at_part q wide.0 v alive) inside) (omega arith)))
      ]
]

pub has_need : (i : Problem) → Lawful i → (δ : Family) → Fits i δ → HasCanon i δ
has_need i law δ fits = need_below i law (suc (weight i.places i.count δ)) δ fits (omega arith)

-- one alone
abbrev Same : Option (List ℕ) → ℕ → Option (List ℕ) → ℕ → Type 0
Same o n p m = (o ≡ p) × (n ≡ m)

first_one : (i : Problem) (q r : Family) (x y : ℕ) → q ≡ r → FirstWide i q x → FirstWide i r y → x ≡ y
first_one i q r x y e f g = let h = subst (λ (p : Family). FirstWide i p y) (sym e) g in
    elim (cases_lt x y) [
      | inl below ↦ absurd (h.before x below f.wide)
      | inr above ↦ elim (cases_lt y x) [ inl below ↦ absurd (f.before y below h.wide) | inr ge ↦ omega arith ]
    ]

single_not_wide : (i : Problem) (q r : Family) (x : ℕ) → q ≡ r → AllSingle i q → FirstWide i r x → ⊥
single_not_wide i q r x e single first = let f = subst (λ (p : Family). FirstWide i p x) (sym e) first in single x f.inside f.wide

moved_tries : (i : Problem) (q r : Family) (x y : ℕ) (o : Option (List ℕ)) (n : ℕ) → q ≡ r → x ≡ y → Tries i r y (values i r y) o n → Tries i q x (values i q x) o n
moved_tries i q r x y o n e f t = subst (λ (p : Family). Tries i p x (values i p x) o n) (sym e)
    (subst (λ (z : ℕ). Tries i r z (values i r z) o n) (sym f) t)

moved_list : (i : Problem) (q : Family) (x : ℕ) (vs ws : List ℕ) (o : Option (List ℕ)) (n : ℕ) → vs ≡ ws → Tries i q x ws o n → Tries i q x vs o n
moved_list i q x vs ws o n e t = subst (λ (us : List ℕ). Tries i q x us o n) (sym e) t

moved_canon : (i : Problem) (q : Family) (x v w : ℕ) (o : Option (List ℕ)) (n : ℕ) → v ≡ w → Canon i (at q x w) o n → Canon i (at q x v) o n
moved_canon i q x v w o n e c = subst (λ (u : ℕ). Canon i (at q x u) o n) (sym e) c

head_one : (v w : ℕ) (vs ws us : List ℕ) → us ≡ v ∷ vs → us ≡ w ∷ ws → (v ≡ w) × (vs ≡ ws)
head_one v w vs ws us e f = let g = sym e ∙ f in (cc, cc)

not_empty : (v : ℕ) (vs us : List ℕ) → us ≡ [] → us ≡ v ∷ vs → ⊥
not_empty v vs us e f = let g = sym e ∙ f in cc

mutual
  pub canon_one : (i : Problem) (δ : Family) (o p : Option (List ℕ)) (n m : ℕ) → Canon i δ o n → Canon i δ p m → Same o n p m
  canon_one i δ o p n m (need.fails _ _ _ a b c) (need.fails _ _ _ d e f) = (b ∙ sym e, c ∙ sym f)
  canon_one i δ o p n m (need.fails _ _ _ a b c) (need.solves _ r _ _ g s e f) = absurd (none_or_greatest i δ r a g)
  canon_one i δ o p n m (need.fails _ _ _ a b c) (need.splits _ r _ _ _ g s t) = absurd (none_or_greatest i δ r a g)
  canon_one i δ o p n m (need.solves _ q _ _ g s b c) (need.fails _ _ _ d e f) = absurd (none_or_greatest i δ q d g)
  canon_one i δ o p n m (need.solves _ q _ _ g s b c) (need.solves _ r _ _ h t e f) =
      (b ∙ (ap (λ (k : Family). Some (solution i k)) (closure_one i δ q r g h) ∙ sym e), c ∙ sym f)
  canon_one i δ o p n m (need.solves _ q _ _ g s b c) (need.splits _ r x _ _ h f t) = absurd (single_not_wide i q r x (closure_one i δ q r g h) s f)
  canon_one i δ o p n m (need.splits _ q x _ _ g s t) (need.fails _ _ _ d e f) = absurd (none_or_greatest i δ q d g)
  canon_one i δ o p n m (need.splits _ q x _ _ g f t) (need.solves _ r _ _ h s b c) = absurd (single_not_wide i r q x (closure_one i δ r q h g) s f)
  canon_one i δ o p n m (need.splits _ q x _ _ g f t) (need.splits _ r y _ _ h k u) =
      let e = closure_one i δ q r g h in
      let s = tries_one i q x (values i q x) o p (suc n) (suc m) t (moved_tries i q r x y p (suc m) e (first_one i q r x y e f k) u) in
      (s.0, let z = s.1 in omega arith)

  pub tries_one : (i : Problem) (q : Family) (x : ℕ) (vs : List ℕ) (o p : Option (List ℕ)) (n m : ℕ) → Tries i q x vs o n → Tries i q x vs p m → Same o n p m
  tries_one i q x vs o p n m (need.no_value _ _ _ _ _ a b c) (need.no_value _ _ _ _ _ d e f) = (b ∙ sym e, c ∙ sym f)
  tries_one i q x vs o p n m (need.no_value _ _ _ _ _ a b c) (need.ends _ _ _ _ _ v rest _ _ d _ _ _) = absurd (not_empty v rest vs a d)
  tries_one i q x vs o p n m (need.no_value _ _ _ _ _ a b c) (need.goes _ _ _ _ _ v rest _ _ d _ _ _) = absurd (not_empty v rest vs a d)
  tries_one i q x vs o p n m (need.ends _ _ _ _ _ v rest _ _ d _ _ _) (need.no_value _ _ _ _ _ a b c) = absurd (not_empty v rest vs a d)
  tries_one i q x vs o p n m (need.goes _ _ _ _ _ v rest _ _ d _ _ _) (need.no_value _ _ _ _ _ a b c) = absurd (not_empty v rest vs a d)
  tries_one i q x vs o p n m (need.ends _ _ _ _ _ v rest found k e c a h) (need.ends _ _ _ _ _ w more other l f d b g) =
      let s = canon_one i (at q x v) (Some found) (Some other) k l c (moved_canon i q x v w (Some other) l (head_one v w rest more vs e f).0 d) in
      (a ∙ (s.0 ∙ sym b), let z = s.1 in omega arith)
  tries_one i q x vs o p n m (need.ends _ _ _ _ _ v rest found k e c a h) (need.goes _ _ _ _ _ w more l j f d t g) =
      absurd (let s = canon_one i (at q x v) (Some found) None k l c (moved_canon i q x v w None l (head_one v w rest more vs e f).0 d) in let z = s.0 in cc)
  tries_one i q x vs o p n m (need.goes _ _ _ _ _ v rest k j e c t h) (need.ends _ _ _ _ _ w more other l f d b g) =
      absurd (let s = canon_one i (at q x v) None (Some other) k l c (moved_canon i q x v w (Some other) l (head_one v w rest more vs e f).0 d) in let z = s.0 in cc)
  tries_one i q x vs o p n m (need.goes _ _ _ _ _ v rest k j e c t h) (need.goes _ _ _ _ _ w more l r f d u g) =
      let two = head_one v w rest more vs e f in
      let s = canon_one i (at q x v) None None k l c (moved_canon i q x v w None l two.0 d) in
      let z = tries_one i q x rest o p j r t (moved_list i q x rest more p r two.1 u) in
      (z.0, let a = s.1 in let b = z.1 in omega arith)
