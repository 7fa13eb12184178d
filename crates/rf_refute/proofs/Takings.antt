-- Places that are taken away, one by one, up to one place that is left.
use Rattle.std.proofs.Common.{◌≡◌, ◌⊎◌, ℕ, ◌+◌, ◌<◌, ◌≤◌, Bool, true, false, not, ◌&&◌, ◌||◌, eqb, leb, ltb, List, [], ◌∷◌, ◌++◌, length, refl, sym, ap, ap₂, ◌∙◌, subst, inl, inr, arith, append_assoc, eq-eqb, ne_eqb, eqb-true, lt-ltb, le-ltb, ltb-true}
use Rattle.std.proofs.Math.Path.{fun_ext}
use Rattle.std.proofs.lemmas.Bool.{cases_eq, cases_order, both_ways, and_parts, and_from, or_left, or_right, or_from, not-true, not_from_false, false_from_ne_true, le-leb, leb-true}
use Rattle.std.proofs.lemmas.List.{append-nil}
use Rattle.rf_form.specs.Alive.{IsFit}
use Rattle.rf_form.specs.Families.{Family, at, without}
use Rattle.rf_form.specs.Truths.{row}
use Rattle.rf_form.proofs.FamilyLemmas.{at_here, at_other, without_part, without_keeps}
use Rattle.rf_form.proofs.Firsts.{same_bool}
use Rattle.rf_trail.specs.Removals.{is_removed, left}
use Rattle.rf_refute.specs.Stacks.{Grown}

pub grown_none : (rs : List (ℕ × ℕ)) → Grown rs rs
grown_none rs = record { steps = []; is = sym (append-nil rs) }

pub grown_one : (rs more : List (ℕ × ℕ)) (x v : ℕ) → more ≡ rs ++ (x, v) ∷ [] → Grown rs more
grown_one rs more x v e = record { steps = (x, v) ∷ []; is = e }

pub grown_then : (rs ss ts : List (ℕ × ℕ)) → Grown rs ss → Grown ss ts → Grown rs ts
grown_then rs ss ts a b = record {
  steps = a.steps ++ b.steps;
  is = b.is ∙ (ap (λ (l : List (ℕ × ℕ)). l ++ b.steps) a.is ∙ append_assoc rs a.steps b.steps);
}

-- the family of a store after one removal
left_more : (first : Family) (rs : List (ℕ × ℕ)) (x v : ℕ) → left first (rs ++ (x, v) ∷ []) ≡ without (left first rs) x v
unfolding left
left_more first rs x v = fun_ext (λ y. fun_ext (λ w. one (first y w) (is_removed rs y w) (eqb x y && eqb v w) (is_removed (rs ++ (x, v) ∷ []) y w) (more rs y w)))
  where
    none : (b : Bool) → (b || false) ≡ b
    none true = refl
    none false = refl

    three : (a b c : Bool) → (a || (b || c)) ≡ ((a || b) || c)
    three true b c = refl
    three false b c = refl

    more : (qs : List (ℕ × ℕ)) (y w : ℕ) → is_removed (qs ++ (x, v) ∷ []) y w ≡ (is_removed qs y w || (eqb x y && eqb v w))
    more [] y w = none (eqb x y && eqb v w)
    more (q ∷ qs) y w = ap (λ (b : Bool). (eqb q.0 y && eqb q.1 w) || b) (more qs y w) ∙ three (eqb q.0 y && eqb q.1 w) (is_removed qs y w) (eqb x y && eqb v w)

    one : (f r h k : Bool) → k ≡ (r || h) → (f && not k) ≡ ((f && not r) && not h)
    one true true h k e = ap not e
    one true false h k e = ap not e
    one false r h k e = refl

pub family_less : (old new first next : Family) (rs more : List (ℕ × ℕ)) (x v : ℕ) → old ≡ left first rs → new ≡ left next more → next ≡ first → more ≡ rs ++ (x, v) ∷ []
    → new ≡ without old x v
family_less old new first next rs more x v a b e f = b ∙ (ap₂ left e f ∙ (left_more first rs x v ∙ ap (λ (δ : Family). without δ x v) (sym a)))

pub without_dead : (δ : Family) (x v : ℕ) → δ x v ≡ false → δ ≡ without δ x v
without_dead δ x v dead = fun_ext (λ y. fun_ext (λ w. same_bool (δ y w) (without δ x v y w)
    (λ h. without_keeps δ x v y w h (λ e f. both_ways (δ x v) dead
    (subst (λ (a : ℕ). δ a v ≡ true) (sym e) (subst (λ (b : ℕ). δ y b ≡ true) (sym f) h))))
    (λ h. without_part δ x v y w h)))

-- the place is one of x, from there up to before the end
abbrev in_range : ℕ → ℕ → ℕ → ℕ → ℕ → Bool
in_range x from end y w = eqb x y && (leb from w && ltb w end)

range_true : (x from end y w : ℕ) → x ≡ y → from ≤ w → w < end → in_range x from end y w ≡ true
range_true x from end y w e low high = and_from (eqb x y) (leb from w && ltb w end) (eq-eqb x y e)
    (and_from (leb from w) (ltb w end) (le-leb from w low) (lt-ltb w end high))

range_false : (x from end y w : ℕ) → (x ≡ y → from ≤ w → w < end → ⊥) → in_range x from end y w ≡ false
range_false x from end y w never = false_from_ne_true (in_range x from end y w) (λ h.
    let p = and_parts (eqb x y) (leb from w && ltb w end) h in let q = and_parts (leb from w) (ltb w end) p.1 in
    never (eqb-true x y p.0) (leb-true from w q.0) (ltb-true w end q.1))

stays : (b r : Bool) → r ≡ false → b ≡ (b && not r)
stays true r e = sym (ap not e)
stays false r e = refl

pub range_none : (δ : Family) (x from y w : ℕ) → δ y w ≡ (δ y w && not (eqb x y && (leb from w && ltb w from)))
range_none δ x from y w = stays (δ y w) (in_range x from from y w) (range_false x from from y w (λ e low high. omega arith))

ltb_more : (w v : ℕ) → ltb w (v + 1) ≡ (ltb w v || eqb v w)
ltb_more w v = elim (cases_order v w) [
  | inl e ↦ lt-ltb w (v + 1) (omega arith) ∙ sym (or_right (ltb w v) (eqb v w) (eq-eqb v w e))
  | inr way ↦ elim way [
    | inl below ↦ le-ltb w (v + 1) (omega arith) ∙ sym (or_from (ltb w v) (eqb v w) (le-ltb w v (omega arith)) (ne_eqb v w (λ e. omega arith)))
    | inr above ↦ lt-ltb w (v + 1) (omega arith) ∙ sym (or_left (ltb w v) (eqb v w) (lt-ltb w v above))
  ]
]

range_step : (o e l a b c : Bool) → c ≡ (a || b) → (b ≡ true → l ≡ true) → ((o && not (e && (l && a))) && not (e && b)) ≡ (o && not (e && (l && c)))
range_step false e l a b c h k = refl
range_step true false l a b c h k = refl
range_step true true true true b c h k = sym (ap not h)
range_step true true true false true c h k = sym (ap not h)
range_step true true true false false c h k = sym (ap not h)
range_step true true false a false c h k = refl
range_step true true false a true c h k = absurd (both_ways false refl (k refl))

pub range_more : (old now new : Family) (x from v y w : ℕ) → from ≤ v → now y w ≡ (old y w && not (eqb x y && (leb from w && ltb w v))) → new ≡ without now x v
    → new y w ≡ (old y w && not (eqb x y && (leb from w && ltb w (v + 1))))
range_more old now new x from v y w low is e = ap (λ (δ : Family). δ y w) e ∙ (ap (λ (b : Bool). b && not (eqb x y && eqb v w)) is
    ∙ range_step (old y w) (eqb x y) (leb from w) (ltb w v) (eqb v w) (ltb w (v + 1)) (ltb_more w v)
    (λ h. le-leb from w (let f = eqb-true v w h in omega arith)))

-- what is left where x has lost the places below v and those above
module _ (vals : List (List ℕ)) (x v n : ℕ) (old mid new : Family) (width : n ≡ length (row vals x)) (fit : IsFit vals old) (alive : old x v ≡ true)
    (low : (y w : ℕ) → mid y w ≡ (old y w && not (eqb x y && (leb 0 w && ltb w v))))
    (high : (y w : ℕ) → new y w ≡ (mid y w && not (eqb x y && (leb (v + 1) w && ltb w n)))) where
  only : (y w : ℕ) → x ≡ y → old y w ≡ true → in_range x 0 v y w ≡ false → in_range x (v + 1) n y w ≡ false → v ≡ w
  only y w e there a b = let inside = subst (λ (z : ℕ). w < length (row vals z)) (sym e) (fit.within y w there) in elim (cases_order v w) [
    | inl same ↦ same
    | inr way ↦ elim way [
      | inl below ↦ absurd (both_ways (in_range x (v + 1) n y w) b (range_true x (v + 1) n y w e (omega arith) (omega arith)))
      | inr above ↦ absurd (both_ways (in_range x 0 v y w) a (range_true x 0 v y w e (omega arith) above))
    ]
  ]

  kept_alone : (y w : ℕ) → new y w ≡ true → at old x v y w ≡ true
  kept_alone y w h = let a = and_parts (mid y w) (not (in_range x (v + 1) n y w)) (sym (high y w) ∙ h) in
      let b = and_parts (old y w) (not (in_range x 0 v y w)) (sym (low y w) ∙ a.0) in elim (cases_eq x y) [
        | inl e ↦ at_here old x v y w e ∙ eq-eqb v w (only y w e b.0 (not-true (in_range x 0 v y w) b.1) (not-true (in_range x (v + 1) n y w) a.1))
        | inr ne ↦ at_other old x v y w ne ∙ b.0
      ]

  both_stay : (y w : ℕ) → old y w ≡ true → (x ≡ y → v ≡ w) → new y w ≡ true
  both_stay y w there same = high y w ∙ and_from (mid y w) (not (in_range x (v + 1) n y w))
      (low y w ∙ and_from (old y w) (not (in_range x 0 v y w)) there (not_from_false (in_range x 0 v y w)
      (range_false x 0 v y w (λ e a b. let f = same e in omega arith))))
      (not_from_false (in_range x (v + 1) n y w) (range_false x (v + 1) n y w (λ e a b. let f = same e in omega arith)))

  alone_kept : (y w : ℕ) → at old x v y w ≡ true → new y w ≡ true
  alone_kept y w h = elim (cases_eq x y) [
    | inl e ↦ let f = eqb-true v w (sym (at_here old x v y w e) ∙ h) in
        both_stay y w (subst (λ (z : ℕ). old z w ≡ true) e (subst (λ (u : ℕ). old x u ≡ true) f alive)) (λ _. f)
    | inr ne ↦ both_stay y w (sym (at_other old x v y w ne) ∙ h) (λ e. absurd (ne e))
  ]

  pub keep_is : new ≡ at old x v
  keep_is = fun_ext (λ y. fun_ext (λ w. same_bool (new y w) (at old x v y w) (kept_alone y w) (alone_kept y w)))
