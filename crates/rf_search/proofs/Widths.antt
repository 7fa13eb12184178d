-- Variables with two places, by their alive places in order; and what a closing leaves behind.
use Rattle.std.proofs.Common.{◌≡◌, ◌⊎◌, ℕ, zero, suc, ◌+◌, ◌-◌, ◌<◌, ◌≤◌, Bool, true, false, List, [], ◌∷◌, ◌++◌, length, map, refl, sym, ap, ◌∙◌, subst, inl, inr, arith}
use Rattle.std.specs.List.{range_with_len, filter}
use Rattle.std.proofs.lemmas.Bool.{both_ways, cases_order}
use Rattle.rf_form.specs.Alive.{IsFit, is_among}
use Rattle.rf_form.specs.Families.{Family, IsWide}
use Rattle.rf_form.specs.Truths.{row}
use Rattle.rf_trail.proofs.Ranges.{passes_among, among_passes}
use Rattle.rf_cons.specs.Systems.{System, FalseAt}
use Rattle.rf_prop.specs.Cuts.{Cut, Logged, removal}
use Rattle.rf_prop.specs.declared.steps.Step.{Step}
use Rattle.rf_refute.specs.Stacks.{values_from, IsNext, Grown}
use Rattle.rf_refute.specs.Trees.{Node, Fail}
use Rattle.rf_search.specs.Writes.{removing, Closing}
use Rattle.rf_search.proofs.Writings.{closed_written, failed_written}

-- an alive place is among those from any place up to it
place_among : (vals : List (List ℕ)) (δ : Family) (x from w : ℕ) → IsFit vals δ → from ≤ w → δ x w ≡ true → is_among w (values_from vals δ x from) ≡ true
unfolding values_from
place_among vals δ x from w fit low alive = let inside = fit.within x w alive in
    passes_among (δ x) from (length (row vals x) - from) w low (omega arith) alive

among_above : (vals : List (List ℕ)) (δ : Family) (x from w : ℕ) → is_among w (values_from vals δ x from) ≡ true → from ≤ w
unfolding values_from
among_above vals δ x from w h = let p = among_passes (δ x) from (length (row vals x) - from) w h in omega arith

pub none_from : (vals : List (List ℕ)) (δ : Family) (x from w : ℕ) → IsFit vals δ → values_from vals δ x from ≡ [] → from ≤ w → δ x w ≡ true → ⊥
none_from vals δ x from w fit none low alive = both_ways false refl (sym (ap (is_among w) none) ∙ place_among vals δ x from w fit low alive)

pub empty_narrow : (vals : List (List ℕ)) (δ : Family) (x : ℕ) → IsFit vals δ → values_from vals δ x 0 ≡ [] → IsWide δ x → ⊥
empty_narrow vals δ x fit none wide = none_from vals δ x 0 wide.low fit none (omega arith) wide.low_alive

first_least : (vals : List (List ℕ)) (δ : Family) (x v w : ℕ) → IsFit vals δ → IsNext vals δ x 0 v → δ x w ≡ true → v ≤ w
first_least vals δ x v w fit next alive = among_above vals δ x v w (sym (ap (is_among w) next.same) ∙ place_among vals δ x 0 w fit (omega arith) alive)

pub one_narrow : (vals : List (List ℕ)) (δ : Family) (x v : ℕ) → IsFit vals δ → IsNext vals δ x 0 v → values_from vals δ x (v + 1) ≡ [] → IsWide δ x → ⊥
one_narrow vals δ x v fit next none wide = let low = first_least vals δ x v wide.low fit next wide.low_alive in let apart = wide.apart in
    none_from vals δ x (v + 1) wide.high fit none (omega arith) wide.high_alive

pub two_wide : (vals : List (List ℕ)) (δ : Family) (x v w : ℕ) → IsNext vals δ x 0 v → IsNext vals δ x (v + 1) w → IsWide δ x
two_wide vals δ x v w next other = record {
  low = v;
  high = w;
  low_alive = next.alive;
  high_alive = other.alive;
  apart = let above = other.above in omega arith;
}

-- a closing
pub grown_logged : (s : System) (δ ε : Family) (rs more : List (ℕ × ℕ)) (log longer : List Step) → Logged s δ rs log ε more longer → Grown rs more
grown_logged s δ ε rs more log longer logged = record { steps = map removal logged.steps; is = logged.removed_is }

module _ (s : System) (δ ε : Family) (rs more : List (ℕ × ℕ)) (log longer : List Step) (before mid : List Node) (fit : IsFit s.vals δ) (logged : Logged s δ rs log ε more longer)
    (blank : log ≡ []) (written : mid ≡ before ++ map removing longer) where
  steps_are : longer ≡ logged.steps
  steps_are = logged.log_is ∙ ap (λ (l : List Step). l ++ logged.steps) blank

  nodes_are : mid ≡ before ++ map removing logged.steps
  nodes_are = written ∙ ap (λ (l : List Step). before ++ map removing l) steps_are

  pub closed_nodes : Closing s δ (ε ∷ []) before mid
  closed_nodes = closed_written s δ ε logged.steps before mid fit logged.cut nodes_are

  pub failed_nodes : (number : ℕ) (after : List Node) → after ≡ mid ++ Fail number ∷ [] → FalseAt s ε number → Closing s δ [] before after
  failed_nodes number after then fails = failed_written s δ ε logged.steps number before mid after fit logged.cut nodes_are then fails
