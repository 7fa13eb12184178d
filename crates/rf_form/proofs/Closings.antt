-- Each family has a greatest closed part or none, and one alone.
use Rattle.std.proofs.Common.{◌≡◌, ◌⊎◌, ℕ, zero, suc, ◌<◌, ◌≤◌, Bool, true, false, refl, sym, ap, ◌∙◌, subst, inl, inr, arith}
use Rattle.std.proofs.lemmas.Bool.{cases_lt, both_ways, cases_Bool, false_from_ne_true}
use Rattle.std.proofs.Math.Path.{fun_ext}
use Rattle.rf_form.specs.Families.{Family, at, without, Part, Filled, Within}
use Rattle.rf_form.specs.Problems.{Problem, Fits, Closed, NoneClosed, InClosure, IsClosure, IsGreatest, Lawful}
use Rattle.rf_form.specs.Sums.{weight}
use Rattle.rf_form.proofs.Firsts.{Decided, first_below, decide_below, decide_both, decide_bool, same_bool}
use Rattle.rf_form.proofs.FamilyLemmas.{at_part, at_below, at_filled, within_part, without_part, without_gone, without_keeps}
use Rattle.rf_form.proofs.Weights.{weight_lt}

-- an alive place with which a constraint is false is in no closed part
pub cut_is_open : (i : Problem) → Lawful i → (δ p : Family) (x v : ℕ) → Fits i δ → δ x v ≡ true → i.Fails (at δ x v) → Part p δ → Closed i p
    → p x v ≡ true → ⊥
cut_is_open i law δ p x v fits alive failing part closed there = closed.each x v (fits x v alive).0 there
    (law.fails_below (at p x v) (at δ x v) (within_part i.count i.places (at δ x v) δ (at_part δ x v alive) fits)
    (at_filled i.count p x v closed.filled) (at_below p δ x v part) failing)

pub cut_keeps : (i : Problem) → Lawful i → (δ p : Family) (x v : ℕ) → Fits i δ → δ x v ≡ true → i.Fails (at δ x v) → Part p δ → Closed i p
    → Part p (without δ x v)
cut_keeps i law δ p x v fits alive failing part closed y w there = without_keeps δ x v y w (part y w there)
    (λ e f. cut_is_open i law δ p x v fits alive failing part closed (subst (λ (b : ℕ). p x b ≡ true) (sym f) (subst (λ (a : ℕ). p a w ≡ true) (sym e) there)))

pub none_if_false : (i : Problem) → Lawful i → (δ : Family) → Fits i δ → i.Fails δ → NoneClosed i δ
none_if_false i law δ fits failing p part closed = closed.holds (law.fails_below p δ fits closed.filled part failing)

pub part_trans : (p q r : Family) → Part p q → Part q r → Part p r
part_trans p q r f g x v h = g x v (f x v h)

pub greatest_part : (i : Problem) (δ q : Family) → IsGreatest i δ q → Part q δ
greatest_part i δ q g x v h = let c = (g.closure x v).0 h in c.1 x v c.3

-- what is closed itself is its greatest closed part
pub closed_greatest : (i : Problem) (δ : Family) → Closed i δ → IsGreatest i δ δ
closed_greatest i δ closed = record {
  closed = closed;
  closure = λ x v. ((λ h. (δ, (λ y w k. k), closed, h)), (λ c. c.1 x v c.3));
}

-- a family between has the same greatest closed part
pub greatest_above : (i : Problem) (δ ε q : Family) → Part ε δ → ((p : Family) → Part p δ → Closed i p → Part p ε) → IsGreatest i ε q → IsGreatest i δ q
greatest_above i δ ε q part all g = record {
  closed = g.closed;
  closure = λ x v. (
    (λ h. let c = (g.closure x v).0 h in (c.0, part_trans c.0 ε δ c.1 part, c.2, c.3)),
    (λ c. (g.closure x v).1 (c.0, all c.0 c.1 c.2, c.2, c.3)),
  );
}

pub closure_one : (i : Problem) (δ q r : Family) → IsGreatest i δ q → IsGreatest i δ r → q ≡ r
closure_one i δ q r g h = fun_ext (λ x. fun_ext (λ v. same_bool (q x v) (r x v)
    (λ k. (h.closure x v).1 ((g.closure x v).0 k)) (λ k. (g.closure x v).1 ((h.closure x v).0 k))))

pub none_or_greatest : (i : Problem) (δ q : Family) → NoneClosed i δ → IsGreatest i δ q → ⊥
none_or_greatest i δ q none g = none q (greatest_part i δ q g) g.closed

-- each variable has a place: a choice of one for each
chosen : (n : ℕ) (δ : Family) → ((x : ℕ) → x < n → (v : ℕ) × (δ x v ≡ true)) → (x : ℕ) → ((x < n) ⊎ (n ≤ x)) → ℕ
chosen n δ f x (inl lt) = (f x lt).0
chosen n δ f x (inr above) = 0

chosen_alive : (n : ℕ) (δ : Family) (f : (x : ℕ) → x < n → (v : ℕ) × (δ x v ≡ true)) (x : ℕ) (way : (x < n) ⊎ (n ≤ x)) → x < n → δ x (chosen n δ f x way) ≡ true
unfolding chosen
chosen_alive n δ f x (inl lt) below = (f x lt).1
chosen_alive n δ f x (inr above) below = absurd (omega arith)

pub filled_from : (n : ℕ) (δ : Family) → ((x : ℕ) → x < n → (v : ℕ) × (δ x v ≡ true)) → Filled n δ
filled_from n δ f = ((λ x. chosen n δ f x (cases_lt x n)), λ x lt. chosen_alive n δ f x (cases_lt x n) lt)

-- no domain is empty, or one is
pub decide_filled : (i : Problem) (δ : Family) → Filled i.count δ ⊎ ((x : ℕ) × (x < i.count) × ((v : ℕ) → v < i.places x → δ x v ≡ false))
decide_filled i δ = elim (first_below (λ x. (v : ℕ) → v < i.places x → δ x v ≡ false) (λ x. (v : ℕ) × (δ x v ≡ true)) i.count
    (λ x lt. elim (first_below (λ v. δ x v ≡ true) (λ v. δ x v ≡ false) (i.places x) (λ v l. cases_Bool (δ x v))) [
      | inl h ↦ inr (h.0, h.2)
      | inr all ↦ inl all
    ])) [
      | inl h ↦ inr (h.0, h.1, h.2)
      | inr all ↦ inl (filled_from i.count δ all)
    ]

-- an empty domain has no closed part
empty_none : (i : Problem) (δ : Family) → Fits i δ → (x : ℕ) → x < i.count → ((v : ℕ) → v < i.places x → δ x v ≡ false) → NoneClosed i δ
empty_none i δ fits x lt empty p part closed = let a = closed.filled.0 x in
    let there = part x a (closed.filled.1 x lt) in
    both_ways (δ x a) (empty a (fits x a there).1) there

-- a place that can be cut
abbrev HasCut : Problem → Family → Type 0
HasCut i δ = (x : ℕ) × (x < i.count) × ((v : ℕ) × (v < i.places x) × ((δ x v ≡ true) × i.Fails (at δ x v)))

decide_alive : (i : Problem) → Lawful i → (δ : Family) → Fits i δ → (x v : ℕ) → ((δ x v ≡ true) ⊎ (δ x v ≡ false)) → Decided ((δ x v ≡ true) × i.Fails (at δ x v))
decide_alive i law δ fits x v (inr gone) = inr (λ h. both_ways (δ x v) gone h.0)
decide_alive i law δ fits x v (inl alive) = decide_both (δ x v ≡ true) (i.Fails (at δ x v)) (inl alive)
    (law.decides (at δ x v) (within_part i.count i.places (at δ x v) δ (at_part δ x v alive) fits))

decide_cut : (i : Problem) → Lawful i → (δ : Family) → Fits i δ → Decided (HasCut i δ)
decide_cut i law δ fits = decide_below (λ x. (v : ℕ) × (v < i.places x) × ((δ x v ≡ true) × i.Fails (at δ x v))) i.count
    (λ x lt. decide_below (λ v. (δ x v ≡ true) × i.Fails (at δ x v)) (i.places x)
    (λ v l. decide_alive i law δ fits x v (cases_Bool (δ x v))))

-- where nothing can be cut, the family is closed, or there is no closed part
at_rest : (i : Problem) → Lawful i → (δ : Family) → Fits i δ → (HasCut i δ → ⊥) → NoneClosed i δ ⊎ ((q : Family) × IsGreatest i δ q)
at_rest i law δ fits rest = elim (law.decides δ fits) [
  | inl failing ↦ inl (none_if_false i law δ fits failing)
  | inr holds ↦ elim (decide_filled i δ) [
    | inr h ↦ inl (empty_none i δ fits h.0 h.1 h.2)
    | inl filled ↦ inr (
      δ,
      closed_greatest i δ (record {
        filled = filled;
        holds = holds;
        each = λ x v lt alive failing. rest (x, lt, (v, (fits x v alive).1, (alive, failing)));
      }),
    )
  ]
]

without_false : (δ : Family) (x v : ℕ) → without δ x v x v ≡ false
without_false δ x v = false_from_ne_true (without δ x v x v) (λ h. without_gone δ x v x v h refl refl)

pub closes : (i : Problem) → Lawful i → (m : ℕ) (δ : Family) → Fits i δ → weight i.places i.count δ < m
    → NoneClosed i δ ⊎ ((q : Family) × IsGreatest i δ q)
closes i law zero δ fits below = absurd (omega arith)
closes i law (suc m) δ fits below = elim (decide_cut i law δ fits) [
  | inr rest ↦ at_rest i law δ fits rest
  | inl cut ↦ let x = cut.0 in let v = cut.2.0 in
      let part = without_part δ x v in
      let less : weight i.places i.count (without δ x v) < weight i.places i.count δ =
      weight_lt i.places i.count (without δ x v) δ x v part cut.1 cut.2.1 (without_false δ x v) cut.2.2.0 in
      let keeps = λ (p : Family) (q : Part p δ) (c : Closed i p). cut_keeps i law δ p x v fits cut.2.2.0 cut.2.2.1 q c in
      elim (closes i law m (without δ x v) (within_part i.count i.places (without δ x v) δ part fits) (omega arith)) [
        | inl none ↦ inl (λ p q c. none p (keeps p q c) c)
        | inr h ↦ inr (h.0, greatest_above i δ (without δ x v) h.0 part keeps h.1)
      ]
]
