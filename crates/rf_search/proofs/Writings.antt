-- Nodes that are written: those of a closing, of a failure and of a split.
use Rattle.std.proofs.Common.{◌≡◌, ◌⊎◌, ℕ, zero, suc, ◌+◌, ◌-◌, ◌<◌, ◌≤◌, Bool, true, false, List, [], ◌∷◌, ◌++◌, length, map, refl, sym, ap, ◌∙◌, subst, inl, inr, arith, append_assoc, zero-add, add_assoc, eqb, eqb-true}
use Rattle.std.proofs.lemmas.Bool.{both_ways, or_cases}
use Rattle.std.proofs.lemmas.List.{append-nil}
use Rattle.rf_form.specs.Alive.{IsFit, is_among}
use Rattle.rf_form.specs.Families.{Family, at, without, IsWide}
use Rattle.rf_form.specs.Need.{values}
use Rattle.rf_form.specs.Truths.{row}
use Rattle.rf_form.proofs.FamilyLemmas.{without_part}
use Rattle.rf_trail.proofs.Ranges.{passes_among}
use Rattle.rf_cons.specs.Systems.{System, problem, FalseAt}
use Rattle.rf_prop.specs.Cuts.{Cut}
use Rattle.rf_prop.specs.declared.steps.Step.{Step}
use Rattle.rf_refute.specs.Trees.{Node, Remove, Split, Fail}
use Rattle.rf_refute.specs.Good.{Refute, counted}
use Rattle.rf_refute.proofs.Stackings.{fit_part, inside_fit}
use Rattle.rf_search.specs.Writes.{removing, Adds, Closing}

pub counted-append : (ns ms : List Node) → counted (ns ++ ms) ≡ counted ns + counted ms
counted-append [] ms = sym (zero-add (counted ms))
counted-append (Remove x v c ∷ ns) ms = counted-append ns ms
counted-append (Split x vs ∷ ns) ms = ap (λ (k : ℕ). (length vs - 1) + k) (counted-append ns ms) ∙ sym (add_assoc (length vs - 1) (counted ns) (counted ms))
counted-append (Fail c ∷ ns) ms = counted-append ns ms

none_counted : (steps : List Step) → counted (map removing steps) ≡ 0
none_counted [] = refl
none_counted (r ∷ rs) = none_counted rs

cut_leads : (s : System) (δ ε : Family) (steps : List Step) → IsFit s.vals δ → Cut s δ steps ε → (rest : List Family) (more : List Node) → Refute s (ε ∷ rest) more
    → Refute s (δ ∷ rest) (map removing steps ++ more)
cut_leads s δ ε [] fit e rest more h = subst (λ (γ : Family). Refute s (γ ∷ rest) more) (sym e) h
cut_leads s δ ε (r ∷ rs) fit c rest more h = (
  (inside_fit s.vals δ r.x r.v fit c.0.alive, (c.0.alive, c.0.fails)),
  cut_leads s (without δ r.x r.v) ε rs (fit_part s.vals (without δ r.x r.v) δ (without_part δ r.x r.v) fit) c.1 rest more h,
)

pub closed_written : (s : System) (δ ε : Family) (steps : List Step) (before after : List Node) → IsFit s.vals δ → Cut s δ steps ε → after ≡ before ++ map removing steps
    → Closing s δ (ε ∷ []) before after
closed_written s δ ε steps before after fit cut is = record {
  adds = record { nodes = map removing steps; is = is; leads = λ rest more h. cut_leads s δ ε steps fit cut rest more h };
  free = ap counted is ∙ (counted-append before (map removing steps) ∙ (let z = none_counted steps in omega arith));
}

pub failed_written : (s : System) (δ ε : Family) (steps : List Step) (number : ℕ) (before mid after : List Node) → IsFit s.vals δ → Cut s δ steps ε
    → mid ≡ before ++ map removing steps → after ≡ mid ++ Fail number ∷ [] → FalseAt s ε number → Closing s δ [] before after
failed_written s δ ε steps number before mid after fit cut is then fails = record {
  adds = record {
    nodes = map removing steps ++ Fail number ∷ [];
    is = then ∙ (ap (λ (l : List Node). l ++ Fail number ∷ []) is ∙ append_assoc before (map removing steps) (Fail number ∷ []));
    leads = λ rest more h. subst (λ (l : List Node). Refute s (δ ∷ rest) l) (sym (append_assoc (map removing steps) (Fail number ∷ []) more))
        (cut_leads s δ ε steps fit cut rest (Fail number ∷ more) (fails, h));
  };
  free = ap counted then ∙ (counted-append mid (Fail number ∷ []) ∙ (let a = ap counted is in let b = counted-append before (map removing steps) in
      let z = none_counted steps in omega arith));
}

-- two members make a list of two
two_members : (vs : List ℕ) (a b : ℕ) → a < b → is_among a vs ≡ true → is_among b vs ≡ true → 2 ≤ length vs
two_members [] a b lt h k = absurd (both_ways false refl h)
two_members (u ∷ []) a b lt h k = absurd (elim (or_cases (eqb a u) false h) [
  | inr f ↦ both_ways false refl f
  | inl e ↦ elim (or_cases (eqb b u) false k) [
    | inr f ↦ both_ways false refl f
    | inl f ↦ let x = eqb-true a u e in let y = eqb-true b u f in omega arith
  ]
])
two_members (u ∷ w ∷ vs) a b lt h k = omega arith

pub wide_two : (s : System) (δ : Family) (x : ℕ) → IsFit s.vals δ → IsWide δ x → 2 ≤ length (values (problem s) δ x)
wide_two s δ x fit wide = two_members (values (problem s) δ x) wide.low wide.high wide.apart
    (passes_among (δ x) 0 (length (row s.vals x)) wide.low (omega arith) (let h = fit.within x wide.low wide.low_alive in omega arith) wide.low_alive)
    (passes_among (δ x) 0 (length (row s.vals x)) wide.high (omega arith) (let h = fit.within x wide.high wide.high_alive in omega arith) wide.high_alive)

pub split_written : (s : System) (δ : Family) (x : ℕ) (vs : List ℕ) (before after : List Node) → IsFit s.vals δ → IsWide δ x → vs ≡ values (problem s) δ x
    → after ≡ before ++ Split x vs ∷ [] → Adds s δ (map (at δ x) (values (problem s) δ x)) before after
split_written s δ x vs before after fit wide same is = record {
  nodes = Split x vs ∷ [];
  is = is;
  leads = λ rest more h. (
    (
      inside_fit s.vals δ x wide.low fit wide.low_alive,
      (subst (λ (l : List ℕ). 2 ≤ length l) (sym same) (wide_two s δ x fit wide), same),
    ),
    subst (λ (l : List ℕ). Refute s (map (at δ x) l ++ rest) more) (sym same) h,
  );
}

pub split_counted : (s : System) (δ : Family) (x : ℕ) (vs : List ℕ) (before after : List Node) → IsFit s.vals δ → IsWide δ x → vs ≡ values (problem s) δ x
    → after ≡ before ++ Split x vs ∷ [] → counted after + 1 ≡ counted before + length (values (problem s) δ x)
split_counted s δ x vs before after fit wide same is = let a = ap counted is in let b = counted-append before (Split x vs ∷ []) in
    let c = ap (length {A = ℕ}) same in let d = wide_two s δ x fit wide in omega arith
