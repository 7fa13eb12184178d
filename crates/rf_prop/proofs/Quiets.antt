-- Constraints that have nothing to do, and what a removal leaves of that.
use Rattle.std.proofs.Common.{◌≡◌, ◌⊎◌, ℕ, zero, suc, ◌+◌, ◌<◌, ◌≤◌, Bool, true, false, cond, not, ◌&&◌, eqb, ne_eqb, eqb-true, eq-eqb, ◌-◌, map, length-append, List, [], ◌∷◌, ◌++◌, length, get_or, drop, refl, sym, ap, ◌∙◌, subst, inl, inr, arith}
use Rattle.std.proofs.lemmas.Bool.{cases_eq, cases_Bool, both_ways, or_cases, or_left, or_right}
use Rattle.rf_form.specs.Alive.{IsFit, is_among}
use Rattle.rf_form.specs.Constraints.{formula_at}
use Rattle.rf_form.specs.Families.{Family, at, without, Filled}
use Rattle.rf_form.specs.Mentions.{mentions}
use Rattle.rf_form.specs.Problems.{IsGreatest}
use Rattle.rf_form.proofs.Closings.{none_if_false, greatest_above, closed_greatest}
use Rattle.rf_form.proofs.FamilyLemmas.{at_other, without_part}
use Rattle.rf_form.proofs.FormulaLaws.{formulas_lawful}
use Rattle.rf_form.proofs.Mentioned.{is_local}
use Rattle.rf_cons.specs.Systems.{System, problem, IsFalse, FalseAt}
use Rattle.rf_prop.specs.Cuts.{Cut, Logged}
use Rattle.rf_prop.specs.Queues.{Mentions, variable_at, Awaits, Ready, AllReady}
use Rattle.rf_prop.specs.Turns.{Quiet, Emptied}
use Rattle.rf_prop.specs.Weights.{alive_places}
use Rattle.rf_prop.specs.declared.steps.Step.{Step}
use Rattle.rf_prop.proofs.CutLemmas.{fit_within, fit_part, cut_part, cut_filled, cut_places, cut_all}
use Rattle.std.proofs.lemmas.List.{map-append, length-map, get_or-append-add, drop_more}

-- nothing is cut at the variables that the constraint mentions, so nothing is cut
pub quiet_from : (s : System) (δ : Family) (place : ℕ) (vars : List ℕ) → IsFit s.vals δ
    → ((x : ℕ) → x < length s.vals → mentions (formula_at s.formulas place) x ≡ true → is_among x vars ≡ true)
    → (IsFalse s δ place → ⊥) → ((x v : ℕ) → is_among x vars ≡ true → δ x v ≡ true → IsFalse s (at δ x v) place → ⊥) → Quiet s δ place
quiet_from s δ place vars fit all holds none = record {
  holds = holds;
  each = λ x v alive fails. elim (cases_Bool (mentions (formula_at s.formulas place) x)) [
    | inl t ↦ none x v (all x (fit_within s δ fit x v alive).0 t) alive fails
    | inr f ↦ holds (is_local s.vals (at δ x v) δ (formula_at s.formulas place) false
        (λ y m w. at_other δ x v y w (λ e. both_ways (mentions (formula_at s.formulas place) x) f
        (subst (λ (z : ℕ). mentions (formula_at s.formulas place) z ≡ true) (sym e) m))) fails)
  ];
}

-- a family without a place of another variable
without_other : (δ : Family) (x v y w : ℕ) → (x ≡ y → ⊥) → without δ x v y w ≡ δ y w
without_other δ x v y w ne = ap (λ (b : Bool). δ y w && not (b && eqb v w)) (ne_eqb x y ne) ∙ last (δ y w)
  where
    last : (b : Bool) → (b && true) ≡ b
    last true = refl
    last false = refl

-- a removal leaves a constraint quiet that doesn't mention the variable
stays_quiet : (s : System) (δ : Family) (x v place : ℕ) → mentions (formula_at s.formulas place) x ≡ false → Quiet s δ place → Quiet s (without δ x v) place
stays_quiet s δ x v place apart quiet = record {
  holds = λ fails. quiet.holds (is_local s.vals (without δ x v) δ (formula_at s.formulas place) false (λ y m w. without_other δ x v y w (other y m)) fails);
  each = λ y w alive fails. quiet.each y w (without_part δ x v y w alive)
      (is_local s.vals (at (without δ x v) y w) (at δ y w) (formula_at s.formulas place) false
      (λ z m u. ap (λ (b : Bool). cond (eqb y z) (eqb w u) b) (without_other δ x v z u (other z m))) fails);
}
  where
    other : (y : ℕ) → mentions (formula_at s.formulas place) y ≡ true → x ≡ y → ⊥
    other y m e = both_ways (mentions (formula_at s.formulas place) x) apart (subst (λ (z : ℕ). mentions (formula_at s.formulas place) z ≡ true) (sym e) m)

-- the variable of some step wakes the constraint
Woken : System → List Step → ℕ → Type 0
Woken s steps place = (k : ℕ) × (k < length steps) × Mentions s place (variable_at steps k)

quiet_cut : (s : System) (δ ε : Family) (steps : List Step) (place : ℕ) → Quiet s δ place → Cut s δ steps ε → Quiet s ε place ⊎ Woken s steps place
unfolding Woken
quiet_cut s δ ε [] place quiet e = inl (subst (λ (η : Family). Quiet s η place) e quiet)
quiet_cut s δ ε (r ∷ rs) place quiet c = elim (cases_Bool (mentions (formula_at s.formulas place) r.x)) [
  | inl t ↦ inr (0, omega arith, t)
  | inr f ↦ elim (quiet_cut s (without δ r.x r.v) ε rs place (stays_quiet s δ r.x r.v place f quiet) c.1) [
    | inl q ↦ inl q
    | inr h ↦ inr (suc h.0, omega arith, h.2)
  ]
]

variables_old : (log steps : List Step) (k : ℕ) → k < length log → variable_at (log ++ steps) k ≡ variable_at log k
variables_old [] steps k lt = absurd (omega arith)
variables_old (r ∷ rs) steps zero lt = refl
variables_old (r ∷ rs) steps (suc k) lt = variables_old rs steps k (omega arith)

variables_new : (log steps : List Step) (k : ℕ) → variable_at (log ++ steps) (length log + k) ≡ variable_at steps k
variables_new log steps k = ap (λ (l : List ℕ). get_or l (length log + k) 0) (map-append (λ (r : Step). r.x) log steps)
    ∙ (ap (λ (n : ℕ). get_or (map (λ (r : Step). r.x) log ++ map (λ (r : Step). r.x) steps) (n + k) 0) (sym (length-map log (λ (r : Step). r.x)))
    ∙ get_or-append-add (map (λ (r : Step). r.x) log) (map (λ (r : Step). r.x) steps) k 0)

-- what is ready stays so, as the log grows
pub ready_logged : (s : System) (δ ε : Family) (rs more : List (ℕ × ℕ)) (log longer : List Step) (done place : ℕ) → done ≤ length log
    → Logged s δ rs log ε more longer → Ready s δ log done place → Ready s ε longer done place
unfolding Woken
ready_logged s δ ε rs more log longer done place behind logged (inr a) = inr (subst (λ (l : List Step). Awaits s l done place) (sym logged.log_is) record {
  at = a.at;
  from = a.from;
  inside = let e = length-append log logged.steps in let lt = a.inside in omega arith;
  watched = subst (λ (x : ℕ). Mentions s place x) (sym (variables_old log logged.steps a.at a.inside)) a.watched;
})
ready_logged s δ ε rs more log longer done place behind logged (inl quiet) = elim (quiet_cut s δ ε logged.steps place quiet logged.cut) [
  | inl q ↦ inl q
  | inr h ↦ inr (subst (λ (l : List Step). Awaits s l done place) (sym logged.log_is) record {
    at = length log + h.0;
    from = omega arith;
    inside = let e = length-append log logged.steps in let lt = h.1 in omega arith;
    watched = subst (λ (x : ℕ). Mentions s place x) (sym (variables_new log logged.steps h.0)) h.2;
  })
]

-- the log grows, and the family becomes lighter by as much
pub logged_lighter : (s : System) (δ ε : Family) (rs more : List (ℕ × ℕ)) (log longer : List Step) → IsFit s.vals δ → Logged s δ rs log ε more longer
    → (length log ≤ length longer) × (alive_places s ε + length longer ≤ alive_places s δ + length log)
logged_lighter s δ ε rs more log longer fit logged = let e = ap (length {A = Step}) logged.log_is in let f = length-append log logged.steps in
    let w = cut_places s δ ε logged.steps fit logged.cut in (omega arith, omega arith)

-- a constraint whose turn is over
pub false_at : (s : System) (δ : Family) (place number : ℕ) → place < length s.formulas → number ≡ s.numbers place → IsFalse s δ place → FalseAt s δ number
false_at s δ place number inside e fails = record { place = place; inside = inside; number_is = sym e; fails = fails }

-- where all are ready and no step is left, the family is closed
pub all_quiet : (s : System) (ε : Family) (log : List Step) (done : ℕ) → length log ≤ done → AllReady s ε log done → (place : ℕ) → place < length s.formulas → Quiet s ε place
all_quiet s ε log done end ready place lt = elim (ready place lt) [ inl q ↦ q | inr a ↦ absurd (let f = a.from in let g = a.inside in omega arith) ]

pub closed_from : (s : System) (δ ε : Family) (rs more : List (ℕ × ℕ)) (log longer : List Step) (done : ℕ) → IsFit s.vals δ → Filled (length s.vals) δ
    → Logged s δ rs log ε more longer → length longer ≤ done → AllReady s ε longer done → IsGreatest (problem s) δ ε
closed_from s δ ε rs more log longer done fit filled logged end ready = greatest_above (problem s) δ ε ε (cut_part s δ ε logged.steps logged.cut)
    (cut_all s δ ε logged.steps fit logged.cut) (closed_greatest (problem s) ε record {
      filled = cut_filled s (length s.vals) δ ε logged.steps logged.cut filled;
      holds = λ h. (all_quiet s ε longer done end ready h.0 h.1).holds h.2;
      each = λ x v lt alive h. (all_quiet s ε longer done end ready h.0 h.1).each x v alive h.2;
    })

pub emptied_from : (s : System) (δ ε : Family) (rs more : List (ℕ × ℕ)) (log longer : List Step) (number : ℕ) → IsFit s.vals δ → Filled (length s.vals) δ
    → Logged s δ rs log ε more longer → FalseAt s ε number → Emptied s δ ε number
emptied_from s δ ε rs more log longer number fit filled logged fails = record {
  none = λ p part closed. none_if_false (problem s) (formulas_lawful s.vals s.formulas) ε
      (fit_within s ε (fit_part s ε δ (cut_part s δ ε logged.steps logged.cut) fit)) (fails.place, fails.inside, fails.fails)
      p (cut_all s δ ε logged.steps fit logged.cut p part closed) closed;
  filled = cut_filled s (length s.vals) δ ε logged.steps logged.cut filled;
  fails = fails;
}

pub filled_logged : (s : System) (δ ε : Family) (rs more : List (ℕ × ℕ)) (log longer : List Step) → Logged s δ rs log ε more longer → Filled (length s.vals) δ → Filled (length s.vals) ε
filled_logged s δ ε rs more log longer logged filled = cut_filled s (length s.vals) δ ε logged.steps logged.cut filled

-- a step that is done: its variable has woken what mentions it, or the constraint awaits a later one
pub ready_next : (s : System) (δ : Family) (log : List Step) (done place : ℕ) → Ready s δ log done place
    → Ready s δ log (done + 1) place ⊎ Mentions s place (variable_at log done)
ready_next s δ log done place (inl quiet) = inl (inl quiet)
ready_next s δ log done place (inr a) = elim (cases_eq a.at done) [
  | inl e ↦ inr (subst (λ (k : ℕ). Mentions s place (variable_at log k)) e a.watched)
  | inr ne ↦ inl (inr record { at = a.at; from = let f = a.from in omega arith; inside = a.inside; watched = a.watched })
]

pub among_drop : (xs : List ℕ) (k y : ℕ) → k < length xs → is_among y (drop k xs) ≡ true → (y ≡ get_or xs k 0) ⊎ (is_among y (drop (k + 1) xs) ≡ true)
among_drop xs k y lt h = elim (or_cases (eqb y (get_or xs k 0)) (is_among y (drop (k + 1) xs)) (sym (ap (is_among y) (drop_more xs k 0 lt)) ∙ h)) [
  | inl e ↦ inl (eqb-true y (get_or xs k 0) e)
  | inr r ↦ inr r
]

pub among_row : (xs : List ℕ) (k : ℕ) → k < length xs → is_among (get_or xs k 0) xs ≡ true
among_row [] k lt = absurd (omega arith)
among_row (u ∷ us) zero lt = or_left (eqb u u) (is_among u us) (eq-eqb u u refl)
among_row (u ∷ us) (suc k) lt = or_right (eqb (get_or us k 0) u) (is_among (get_or us k 0) us) (among_row us k (omega arith))

-- the variables of the new steps are variables
cut_inside : (s : System) (δ ε : Family) (steps : List Step) (k : ℕ) → IsFit s.vals δ → Cut s δ steps ε → k < length steps → variable_at steps k < length s.vals
cut_inside s δ ε [] k fit c lt = absurd (omega arith)
cut_inside s δ ε (r ∷ rs) zero fit c lt = (fit_within s δ fit r.x r.v c.0.alive).0
cut_inside s δ ε (r ∷ rs) (suc k) fit c lt = cut_inside s (without δ r.x r.v) ε rs k (fit_part s (without δ r.x r.v) δ (without_part δ r.x r.v) fit) c.1 (omega arith)

pub logged_inside : (s : System) (δ ε : Family) (rs more : List (ℕ × ℕ)) (log longer : List Step) (k : ℕ) → IsFit s.vals δ → Logged s δ rs log ε more longer
    → length log ≤ k → k < length longer → variable_at longer k < length s.vals
logged_inside s δ ε rs more log longer k fit logged low high = let e = ap (length {A = Step}) logged.log_is in let f = length-append log logged.steps in
    let n : k ≡ length log + (k - length log) = omega arith in
    subst (λ (l : List Step). variable_at l k < length s.vals) (sym logged.log_is)
    (subst (λ (j : ℕ). variable_at (log ++ logged.steps) j < length s.vals) (sym n)
    (subst (λ (x : ℕ). x < length s.vals) (sym (variables_new log logged.steps (k - length log)))
    (cut_inside s δ ε logged.steps (k - length log) fit logged.cut (omega arith))))

pub variable_is : (log : List Step) (k : ℕ) (d : Step) → k < length log → variable_at log k ≡ (get_or log k d).x
variable_is [] k d lt = absurd (omega arith)
variable_is (r ∷ rs) zero d lt = refl
variable_is (r ∷ rs) (suc k) d lt = variable_is rs k d (omega arith)
