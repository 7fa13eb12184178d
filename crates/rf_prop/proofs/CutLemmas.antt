-- Cuts one after the other, and what they keep.
use Rattle.std.proofs.Common.{◌≡◌, ◌⊎◌, ℕ, ◌+◌, ◌<◌, ◌≤◌, Bool, true, false, not, ◌&&◌, ◌||◌, eqb, eqb-true, get_or, take, List, [], ◌∷◌, ◌++◌, length, map, refl, sym, ap, ap₂, ◌∙◌, subst, inl, inr, arith, append_assoc}
use Rattle.std.proofs.Math.Path.{fun_ext}
use Rattle.std.proofs.lemmas.Bool.{cases_lt, cases_eq, cases_Bool, both_ways, or_cases, or_left, or_right, false_from_ne_true}
use Rattle.std.proofs.lemmas.List.{get_or_past, append-nil, map-append, take_more}
use Rattle.rf_form.specs.Alive.{IsFit, is_among}
use Rattle.rf_form.specs.Families.{Family, at, without, Part, Filled}
use Rattle.rf_form.specs.Problems.{Fits, Closed}
use Rattle.rf_form.specs.Truths.{row}
use Rattle.rf_form.proofs.Closings.{cut_keeps, part_trans}
use Rattle.rf_form.proofs.FamilyLemmas.{at_same, at_other, at_part, without_part, without_gone, without_keeps}
use Rattle.rf_form.proofs.Firsts.{first_below, same_bool}
use Rattle.rf_form.proofs.FormulaLaws.{formulas_lawful}
use Rattle.rf_form.proofs.Weights.{weight_lt}
use Rattle.rf_trail.specs.Removals.{is_removed, left}
use Rattle.rf_cons.specs.Systems.{System, problem, IsFalse}
use Rattle.rf_prop.specs.Cuts.{Legal, Cut, removal, Logged}
use Rattle.rf_prop.specs.Weights.{alive_places}
use Rattle.rf_prop.specs.declared.steps.Step.{Step}

-- what fits the first domains is nothing but places of variables
pub fit_within : (s : System) (δ : Family) → IsFit s.vals δ → Fits (problem s) δ
fit_within s δ fit x v alive = let inside = fit.within x v alive in elim (cases_lt x (length s.vals)) [
  | inl lt ↦ (lt, inside)
  | inr above ↦ absurd (let e : length (row s.vals x) ≡ 0 = ap (length {A = ℕ}) (get_or_past s.vals x [] above) in omega arith)
]

pub fit_part : (s : System) (p δ : Family) → Part p δ → IsFit s.vals δ → IsFit s.vals p
fit_part s p δ part fit = record { short = fit.short; within = λ x v h. fit.within x v (part x v h) }

-- where v is the only place of x, the family with v alone is the family
alone_same : (s : System) (δ : Family) (x v : ℕ) → IsFit s.vals δ → δ x v ≡ true → ((w : ℕ) → w < length (row s.vals x) → δ x w ≡ true → w ≡ v)
    → at δ x v ≡ δ
alone_same s δ x v fit alive only = fun_ext (λ y. fun_ext (λ w. same_bool (at δ x v y w) (δ y w) (at_part δ x v alive y w)
    (λ h. elim (cases_eq x y) [
      | inl e ↦ let here = subst (λ (z : ℕ). δ z w ≡ true) (sym e) h in
          subst (λ (z : ℕ). at δ x v z w ≡ true) e (subst (λ (u : ℕ). at δ x v x u ≡ true) (sym (only w (fit.within x w here) here)) (at_same δ x v))
      | inr ne ↦ at_other δ x v y w ne ∙ h
    ])))

-- a constraint that isn't false, and is with x at v, leaves x another place
pub other_place : (s : System) (δ : Family) (place x v : ℕ) → IsFit s.vals δ → δ x v ≡ true → (IsFalse s δ place → ⊥) → IsFalse s (at δ x v) place
    → (w : ℕ) × ((w ≡ v → ⊥) × (δ x w ≡ true))
other_place s δ place x v fit alive holds fails = elim (first_below (λ w. (w ≡ v → ⊥) × (δ x w ≡ true)) (λ w. δ x w ≡ true → w ≡ v) (length (row s.vals x))
    (λ w lt. elim (cases_eq w v) [
      | inl e ↦ inr (λ h. e)
      | inr ne ↦ elim (cases_Bool (δ x w)) [ inl t ↦ inl (ne, t) | inr f ↦ inr (λ h. absurd (both_ways (δ x w) f h)) ]
    ])) [
      | inl h ↦ (h.0, h.2)
      | inr only ↦ absurd (holds (subst (λ (ε : Family). IsFalse s ε place) (alone_same s δ x v fit alive only) fails))
    ]

pub legal_from : (s : System) (δ : Family) (place x v number : ℕ) → place < length s.formulas → IsFit s.vals δ → (IsFalse s δ place → ⊥) → δ x v ≡ true
    → IsFalse s (at δ x v) place → s.numbers place ≡ number → Legal s δ x v number
legal_from s δ place x v number inside fit holds alive fails e = record {
  alive = alive;
  other = other_place s δ place x v fit alive holds fails;
  fails = record { place = place; inside = inside; number_is = e; fails = fails };
}

-- the family of a store after one removal
left_more : (first : Family) (rs : List (ℕ × ℕ)) (x v : ℕ) → left first (rs ++ (x, v) ∷ []) ≡ without (left first rs) x v
unfolding left
left_more first rs x v = fun_ext (λ y. fun_ext (λ w. one (first y w) (is_removed rs y w) (eqb x y && eqb v w) (is_removed (rs ++ (x, v) ∷ []) y w) (more rs y w)))
  where
    none : (b : Bool) → (b || false) ≡ b
    none true = refl
    none false = refl

    three : (a b c : Bool) → (a || (b || c)) ≡ ((a || b) || c)
    three true b c = refl
    three false b c = refl

    more : (qs : List (ℕ × ℕ)) (y w : ℕ) → is_removed (qs ++ (x, v) ∷ []) y w ≡ (is_removed qs y w || (eqb x y && eqb v w))
    more [] y w = none (eqb x y && eqb v w)
    more (q ∷ qs) y w = ap (λ (b : Bool). (eqb q.0 y && eqb q.1 w) || b) (more qs y w) ∙ three (eqb q.0 y && eqb q.1 w) (is_removed qs y w) (eqb x y && eqb v w)

    one : (f r h k : Bool) → k ≡ (r || h) → (f && not k) ≡ ((f && not r) && not h)
    one true true h k e = ap not e
    one true false h k e = ap not e
    one false r h k e = refl

pub family_less : (old new first next : Family) (rs more : List (ℕ × ℕ)) (x v : ℕ) → old ≡ left first rs → new ≡ left next more → next ≡ first → more ≡ rs ++ (x, v) ∷ []
    → new ≡ without old x v
family_less old new first next rs more x v a b e f = b ∙ (ap₂ left e f ∙ (left_more first rs x v ∙ ap (λ (δ : Family). without δ x v) (sym a)))

-- logs one after the other
pub cut_append : (s : System) (δ ε ζ : Family) (ps qs : List Step) → Cut s δ ps ε → Cut s ε qs ζ → Cut s δ (ps ++ qs) ζ
cut_append s δ ε ζ [] qs e c = subst (λ (η : Family). Cut s η qs ζ) (sym e) c
cut_append s δ ε ζ (r ∷ rs) qs c d = (c.0, cut_append s (without δ r.x r.v) ε ζ rs qs c.1 d)

pub logged_none : (s : System) (δ : Family) (rs : List (ℕ × ℕ)) (log : List Step) → Logged s δ rs log δ rs log
logged_none s δ rs log = record { steps = []; log_is = sym (append-nil log); removed_is = sym (append-nil rs); cut = refl }

pub logged_one : (s : System) (δ ε : Family) (rs more : List (ℕ × ℕ)) (log longer : List Step) (r : Step) → Legal s δ r.x r.v r.c → ε ≡ without δ r.x r.v
    → more ≡ rs ++ (r.x, r.v) ∷ [] → longer ≡ log ++ r ∷ [] → Logged s δ rs log ε more longer
logged_one s δ ε rs more log longer r legal e f h = record { steps = r ∷ []; log_is = h; removed_is = f; cut = (legal, sym e) }

pub logged_then : (s : System) (δ ε ζ : Family) (rs ss ts : List (ℕ × ℕ)) (ls ms ns : List Step) → Logged s δ rs ls ε ss ms → Logged s ε ss ms ζ ts ns → Logged s δ rs ls ζ ts ns
logged_then s δ ε ζ rs ss ts ls ms ns p q = record {
  steps = p.steps ++ q.steps;
  log_is = q.log_is ∙ (ap (λ (l : List Step). l ++ q.steps) p.log_is ∙ append_assoc ls p.steps q.steps);
  removed_is = q.removed_is ∙ (ap (λ (l : List (ℕ × ℕ)). l ++ map removal q.steps) p.removed_is
      ∙ (append_assoc rs (map removal p.steps) (map removal q.steps) ∙ ap (λ (l : List (ℕ × ℕ)). rs ++ l) (sym (map-append removal p.steps q.steps))));
  cut = cut_append s δ ε ζ p.steps q.steps p.cut q.cut;
}

-- what cuts keep
pub cut_part : (s : System) (δ ε : Family) (rs : List Step) → Cut s δ rs ε → Part ε δ
cut_part s δ ε [] e = λ x v h. ap (λ (η : Family). η x v) e ∙ h
cut_part s δ ε (r ∷ rs) c = part_trans ε (without δ r.x r.v) δ (cut_part s (without δ r.x r.v) ε rs c.1) (without_part δ r.x r.v)

pub filled_less : (n : ℕ) (δ : Family) (x v w : ℕ) → (w ≡ v → ⊥) → δ x w ≡ true → Filled n δ → Filled n (without δ x v)
filled_less n δ x v w ne alive filled = (
  (λ y. elim (cases_eq x y) [ inl e ↦ w | inr other ↦ filled.0 y ]),
  λ y lt. elim (cases_eq x y) as (λ way. without δ x v y (elim way [ inl e ↦ w | inr other ↦ filled.0 y ]) ≡ true) [
    | inl e ↦ without_keeps δ x v y w (subst (λ (z : ℕ). δ z w ≡ true) e alive) (λ a b. ne (sym b))
    | inr other ↦ without_keeps δ x v y (filled.0 y) (filled.1 y lt) (λ a b. other a)
  ],
)

pub cut_filled : (s : System) (n : ℕ) (δ ε : Family) (rs : List Step) → Cut s δ rs ε → Filled n δ → Filled n ε
cut_filled s n δ ε [] e filled = subst (λ (η : Family). Filled n η) e filled
cut_filled s n δ ε (r ∷ rs) c filled = cut_filled s n (without δ r.x r.v) ε rs c.1
    (filled_less n δ r.x r.v c.0.other.0 c.0.other.1.0 c.0.other.1.1 filled)

-- an alive place gone makes the family lighter
pub less_places : (s : System) (δ : Family) (x v : ℕ) → IsFit s.vals δ → δ x v ≡ true → alive_places s (without δ x v) < alive_places s δ
unfolding alive_places
less_places s δ x v fit alive = let inside = fit_within s δ fit x v alive in
    weight_lt (λ y. length (row s.vals y)) (length s.vals) (without δ x v) δ x v (without_part δ x v) inside.0 inside.1
    (false_from_ne_true (without δ x v x v) (λ h. without_gone δ x v x v h refl refl)) alive

pub cut_places : (s : System) (δ ε : Family) (rs : List Step) → IsFit s.vals δ → Cut s δ rs ε → alive_places s ε + length rs ≤ alive_places s δ
cut_places s δ ε [] fit e = let f = ap (alive_places s) e in omega arith
cut_places s δ ε (r ∷ rs) fit c = let less = less_places s δ r.x r.v fit c.0.alive in
    let i = cut_places s (without δ r.x r.v) ε rs (fit_part s (without δ r.x r.v) δ (without_part δ r.x r.v) fit) c.1 in omega arith

-- no closed part loses a place
pub cut_all : (s : System) (δ ε : Family) (rs : List Step) → IsFit s.vals δ → Cut s δ rs ε → (p : Family) → Part p δ → Closed (problem s) p → Part p ε
cut_all s δ ε [] fit e p part closed = subst (λ (η : Family). Part p η) e part
cut_all s δ ε (r ∷ rs) fit c p part closed = cut_all s (without δ r.x r.v) ε rs (fit_part s (without δ r.x r.v) δ (without_part δ r.x r.v) fit) c.1 p
    (cut_keeps (problem s) (formulas_lawful s.vals s.formulas) δ p r.x r.v (fit_within s δ fit) c.0.alive
    (c.0.fails.place, c.0.fails.inside, c.0.fails.fails) part closed) closed

pub among_end : (y : ℕ) (xs : List ℕ) (x : ℕ) → is_among y (xs ++ x ∷ []) ≡ true → (is_among y xs ≡ true) ⊎ (y ≡ x)
among_end y [] x h = elim (or_cases (eqb y x) false h) [ inl e ↦ inr (eqb-true y x e) | inr f ↦ absurd (both_ways false refl f) ]
among_end y (u ∷ us) x h = elim (or_cases (eqb y u) (is_among y (us ++ x ∷ [])) h) [
  | inl e ↦ inl (or_left (eqb y u) (is_among y us) e)
  | inr r ↦ elim (among_end y us x r) [ inl k ↦ inl (or_right (eqb y u) (is_among y us) k) | inr k ↦ inr k ]
]

-- among the first of a list and one more
pub among_more : (xs : List ℕ) (k y : ℕ) → k < length xs → is_among y (take (k + 1) xs) ≡ true → (is_among y (take k xs) ≡ true) ⊎ (y ≡ get_or xs k 0)
among_more xs k y lt h = among_end y (take k xs) (get_or xs k 0) (sym (ap (is_among y) (take_more xs k 0 lt)) ∙ h)
