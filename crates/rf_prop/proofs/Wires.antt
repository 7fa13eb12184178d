-- The variables of a constraint, and the rows of those that watch.
use Rattle.std.proofs.Common.{◌≡◌, ◌⊎◌, ℕ, zero, suc, ◌+◌, ◌<◌, true, false, eqb, List, [], ◌∷◌, ◌++◌, length, take, set, get_or, refl, sym, ap, ◌∙◌, subst, inl, inr, arith, eq-eqb, eqb-true, get_or-set_same, get_or-set_other, length-set}
use Rattle.std.proofs.lemmas.Bool.{cases_eq, cases_lt, both_ways, or_cases, or_left, or_right}
use Rattle.std.proofs.lemmas.List.{length_push, get_or_append_left, get_or_push}
use Rattle.rf_form.specs.Alive.{is_among}
use Rattle.rf_form.specs.Truths.{row}
use Rattle.rf_cons.specs.Systems.{System}
use Rattle.rf_prop.specs.Queues.{Mentions, Wired}
use Rattle.rf_prop.specs.Wiring.{Keeps, Added, WiredTo, AddedAll}
use Rattle.rf_prop.proofs.CutLemmas.{among_end, among_more}

pub among_push : (xs : List ℕ) (x y : ℕ) → is_among y xs ≡ true → is_among y (xs ++ x ∷ []) ≡ true
among_push [] x y h = absurd (both_ways false refl h)
among_push (u ∷ us) x y h = elim (or_cases (eqb y u) (is_among y us) h) [
  | inl e ↦ or_left (eqb y u) (is_among y (us ++ x ∷ [])) e
  | inr r ↦ or_right (eqb y u) (is_among y (us ++ x ∷ [])) (among_push us x y r)
]

pub among_last : (xs : List ℕ) (x : ℕ) → is_among x (xs ++ x ∷ []) ≡ true
among_last [] x = or_left (eqb x x) false (eq-eqb x x refl)
among_last (u ∷ us) x = or_right (eqb x u) (is_among x (us ++ x ∷ [])) (among_last us x)

pub push_keeps : (old new : List ℕ) (x : ℕ) → new ≡ old ++ x ∷ [] → Keeps old new
push_keeps old new x e y h = ap (is_among y) e ∙ among_push old x y h

pub push_has : (old new : List ℕ) (x y : ℕ) → new ≡ old ++ x ∷ [] → eqb x y ≡ true → is_among y new ≡ true
push_has old new x y e h = ap (is_among y) e ∙ subst (λ (z : ℕ). is_among z (old ++ x ∷ []) ≡ true) (eqb-true x y h) (among_last old x)

pub added_none : (place : ℕ) (rows : List (List ℕ)) → ((c x : ℕ) → is_among c (row rows x) ≡ true → c < place) → Added [] place rows rows []
added_none place rows below = record {
  rows = refl;
  kept = λ c x h. h;
  below = λ c x h. let lt = below c x h in omega arith;
  watched = λ x h. absurd (both_ways false refl h);
  listed = λ x h. absurd (let lt = below place x h in omega arith);
}

module _ (found : List ℕ) (k place : ℕ) (old now : List (List ℕ)) (vars : List ℕ) (lt : k < length found) (was : Added (take k found) place old now vars) where
  -- the next variable has no row, or is there already
  pub added_skip : (get_or found k 0 < length now → is_among place (row now (get_or found k 0)) ≡ true) → Added (take (k + 1) found) place old now vars
  added_skip there = record {
    rows = was.rows;
    kept = was.kept;
    below = was.below;
    watched = λ x h inside. elim (among_more found k x lt h) [
      | inl before ↦ was.watched x before inside
      | inr e ↦ subst (λ (z : ℕ). is_among place (row now z) ≡ true) (sym e) (there (let r = was.rows in omega arith))
    ];
    listed = was.listed;
  }

  module _ (x : ℕ) (is : x ≡ get_or found k 0) (inside : x < length now) (new : List ℕ) (push : new ≡ row now x ++ place ∷ []) where
    grows : (c y : ℕ) → is_among c (row now y) ≡ true → is_among c (row (set now x new) y) ≡ true
    grows c y h = elim (cases_eq y x) [
      | inl e ↦ subst (λ (z : ℕ). is_among c (row (set now x new) z) ≡ true) (sym e) (ap (is_among c) (get_or-set_same now x new [] inside ∙ push)
          ∙ among_push (row now x) place c (subst (λ (z : ℕ). is_among c (row now z) ≡ true) e h))
      | inr ne ↦ ap (is_among c) (get_or-set_other now x y new [] ne) ∙ h
    ]

    back : (c y : ℕ) → is_among c (row (set now x new) y) ≡ true → (is_among c (row now y) ≡ true) ⊎ ((c ≡ place) × (y ≡ x))
    back c y h = elim (cases_eq y x) [
      | inl e ↦ elim (among_end c (row now x) place (sym (ap (is_among c) (get_or-set_same now x new [] inside ∙ push)) ∙ subst (λ (z : ℕ). is_among c (row (set now x new) z) ≡ true) e h)) [
        | inl before ↦ inl (subst (λ (z : ℕ). is_among c (row now z) ≡ true) (sym e) before)
        | inr same ↦ inr (same, e)
      ]
      | inr ne ↦ inl (sym (ap (is_among c) (get_or-set_other now x y new [] ne)) ∙ h)
    ]

    there : is_among place (row (set now x new) x) ≡ true
    there = ap (is_among place) (get_or-set_same now x new [] inside ∙ push) ∙ among_last (row now x) place

    pub added_push : (longer : List ℕ) → longer ≡ vars ++ x ∷ [] → Added (take (k + 1) found) place old (set now x new) longer
    added_push longer e = record {
      rows = length-set now x new ∙ was.rows;
      kept = λ c y h. grows c y (was.kept c y h);
      below = λ c y h. elim (back c y h) [ inl before ↦ was.below c y before | inr same ↦ let s = same.0 in omega arith ];
      watched = λ y h low. elim (among_more found k y lt h) [
        | inl before ↦ grows place y (was.watched y before low)
        | inr s ↦ subst (λ (z : ℕ). is_among place (row (set now x new) z) ≡ true) (is ∙ sym s) there
      ];
      listed = λ y h. elim (back place y h) [
        | inl before ↦ push_keeps vars longer x e y (was.listed y before)
        | inr same ↦ push_has vars longer x y e (eq-eqb x y (sym same.1))
      ];
    }

rows_empty : (rows : List (List ℕ)) → ((x : ℕ) → row rows x ≡ []) → (x : ℕ) → row (rows ++ [] ∷ []) x ≡ []
rows_empty [] all zero = refl
rows_empty [] all (suc x) = refl
rows_empty (r ∷ rs) all zero = all 0
rows_empty (r ∷ rs) all (suc x) = rows_empty rs (λ y. all (suc y)) x

pub empty_more : (rows more : List (List ℕ)) → more ≡ rows ++ [] ∷ [] → ((x : ℕ) → row rows x ≡ []) → (x : ℕ) → row more x ≡ []
empty_more rows more e all x = ap (λ (rs : List (List ℕ)). row rs x) e ∙ rows_empty rows all x

pub wired_none : (s : System) (watchers : List (List ℕ)) → length watchers ≡ length s.vals → ((x : ℕ) → row watchers x ≡ []) → WiredTo s 0 [] watchers
wired_none s watchers e empty = record {
  count = refl;
  rows = e;
  mentioned = λ c x lt. absurd (omega arith);
  watched = λ c x lt. absurd (omega arith);
  inside = λ c x h. absurd (both_ways (is_among c (row watchers x)) (ap (is_among c) (empty x)) h);
}

-- one constraint more
pub wired_more : (s : System) (place : ℕ) (vars more watchers new : List (List ℕ)) (listed : List ℕ) → WiredTo s place vars watchers → AddedAll s place watchers new listed
    → more ≡ vars ++ listed ∷ [] → WiredTo s (place + 1) more new
wired_more s place vars more watchers new listed was all e = record {
  count = ap (length {A = List ℕ}) e ∙ (length_push vars listed ∙ ap (λ (n : ℕ). n + 1) was.count);
  rows = all.added.rows ∙ was.rows;
  mentioned = λ c x lt low m. elim (cases_lt c place) [
    | inl before ↦ ap (is_among x) (ap (λ (rs : List (List ℕ)). row rs c) e ∙ get_or_append_left vars (listed ∷ []) [] c (let n = was.count in omega arith)) ∙ was.mentioned c x before low m
    | inr above ↦ let same : c ≡ place = omega arith in let here = subst (λ (k : ℕ). Mentions s k x) same m in
        ap (is_among x) (ap (λ (rs : List (List ℕ)). row rs c) e ∙ get_or_push vars listed [] c (was.count ∙ sym same))
        ∙ all.added.listed x (all.added.watched x (all.all x here) (let n = was.rows in omega arith))
  ];
  watched = λ c x lt low m. elim (cases_lt c place) [
    | inl before ↦ all.added.kept c x (was.watched c x before low m)
    | inr above ↦ let same : c ≡ place = omega arith in let here = subst (λ (k : ℕ). Mentions s k x) same m in
        subst (λ (k : ℕ). is_among k (row new x) ≡ true) (sym same) (all.added.watched x (all.all x here) (let n = was.rows in omega arith))
  ];
  inside = all.added.below;
}

pub wired_all : (s : System) (place : ℕ) (vars watchers : List (List ℕ)) → WiredTo s place vars watchers → place ≡ length s.formulas → Wired s vars watchers
wired_all s place vars watchers was e = record {
  mentioned = λ c x lt low m. was.mentioned c x (omega arith) low m;
  watched = λ c x lt low m. was.watched c x (omega arith) low m;
  inside = λ c x h. let lt = was.inside c x h in omega arith;
}
