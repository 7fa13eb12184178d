-- The frames of a search: no domain is empty there, and each family that they hold has an answer.
use Rattle.std.proofs.Common.{◌≡◌, ◌⊎◌, ℕ, zero, suc, ◌+◌, ◌<◌, ◌≤◌, true, List, [], ◌∷◌, ◌++◌, length, map, take, All, refl, sym, ap, ap₂, ◌∙◌, subst, inl, inr, arith, add-one}
use Rattle.std.specs.List.{range_with_len, filter}
use Rattle.std.proofs.lemmas.Bool.{cases_lt, cases_eq, false_from_ne_true}
use Rattle.std.proofs.lemmas.List.{take_at}
use Rattle.std.proofs.lemmas.List.Elements.{filter_passes}
use Rattle.rf_form.specs.Alive.{IsFit}
use Rattle.rf_form.specs.Families.{Family, at, Filled, IsWide}
use Rattle.rf_form.specs.Need.{values}
use Rattle.rf_form.specs.Truths.{row}
use Rattle.rf_form.proofs.FamilyLemmas.{at_part, at_alive, at_filled}
use Rattle.rf_form.proofs.FormulaLaws.{formulas_need}
use Rattle.rf_trail.specs.Removals.{left}
use Rattle.rf_cons.specs.Systems.{System, problem}
use Rattle.rf_prop.proofs.CutLemmas.{fit_within}
use Rattle.rf_refute.specs.declared.frames.Frame.{Frame}
use Rattle.rf_refute.specs.Stacks.{values_from, tasks, pending, alive_count, HeldAt, Held, Entered, Grown, Opened}
use Rattle.rf_refute.specs.Stacks as stacks
use Rattle.rf_refute.proofs.Listing.{values_alive, values_all}
use Rattle.rf_refute.proofs.Stackings.{fit_part, count_lt, take_grown, mark_inside, top_fit, top_alive, top_room, resumed, entered_opened}
use Rattle.rf_search.specs.Stands.{FilledFrames, Stands}
use Rattle.rf_search.proofs.Runnings.{AllHave}

pub filled_grown : (vals : List (List ℕ)) (room n : ℕ) (first : Family) (rs more : List (ℕ × ℕ)) (fs : List Frame) → Grown rs more → Held vals room first rs fs
    → FilledFrames n first rs fs → FilledFrames n first more fs
filled_grown vals room n first rs more [] grown held filled = tt
filled_grown vals room n first rs more (f ∷ fs) grown held filled =
    subst (λ (qs : List (ℕ × ℕ)). Filled n (left first qs) × FilledFrames n first qs fs) (sym (take_grown f.mark rs more grown held.0)) filled

pub filled_entered : (vals : List (List ℕ)) (room n : ℕ) (first δ : Family) (rs more : List (ℕ × ℕ)) (x v : ℕ) (before after : List Frame) → δ ≡ left first rs → Filled n δ
    → Grown rs more → Held vals room first rs before → FilledFrames n first rs before → Entered vals δ (length rs) x v before after → FilledFrames n first more after
filled_entered vals room n first δ rs more x v before after start filled grown held frames (stacks.last none same) =
    subst (λ (fs : List Frame). FilledFrames n first more fs) (sym same) (filled_grown vals room n first rs more before grown held frames)
filled_entered vals room n first δ rs more x v before after start filled grown held frames (stacks.more w lt other next same) =
    let back : take (length rs) more ≡ rs = ap (take (length rs)) grown.is ∙ take_at rs grown.steps (length rs) refl in
    subst (λ (fs : List Frame). FilledFrames n first more fs) (sym same)
    (subst (λ (qs : List (ℕ × ℕ)). Filled n (left first qs) × FilledFrames n first qs before) (sym back)
    (subst (λ (γ : Family). Filled n γ) start filled, frames))

-- the split of x goes on with its first value
pub split_stands : (s : System) (room : ℕ) (first δ ε : Family) (rs more : List (ℕ × ℕ)) (x v : ℕ) (before after : List Frame) → δ ≡ left first rs → ε ≡ at δ x v → Grown rs more
    → IsFit s.vals δ → Filled (length s.vals) δ → δ x v ≡ true → values_from s.vals δ x 0 ≡ values_from s.vals δ x v → Held s.vals room first rs before
    → FilledFrames (length s.vals) first rs before → length before + alive_count s.vals δ ≤ room → Entered s.vals δ (length rs) x v before after
    → Stands s room first (map (at δ x) (values (problem s) δ x) ++ pending s.vals first rs before) ε more after
split_stands s room first δ ε rs more x v before after start is grown fit filled alive same held frames light entered = record {
  opened = subst (λ (l : List ℕ). Opened s.vals room first (map (at δ x) l ++ pending s.vals first rs before) ε more after) (sym (values_all s δ x ∙ same))
      (entered_opened s.vals room first δ ε rs more x v before after start is grown fit alive held light entered);
  filled = subst (λ (γ : Family). Filled (length s.vals) γ) (sym is) (at_filled (length s.vals) δ x v filled);
  frames = filled_entered s.vals room (length s.vals) first δ rs more x v before after start filled grown held frames entered;
}

-- the top frame goes on
module _ (s : System) (room : ℕ) (first : Family) (rs : List (ℕ × ℕ)) (fs rest : List Frame) (f : Frame) (top : fs ≡ f ∷ rest) (held : Held s.vals room first rs fs)
    (frames : FilledFrames (length s.vals) first rs fs) where
  filled_top : FilledFrames (length s.vals) first rs (f ∷ rest)
  filled_top = subst (λ (l : List Frame). FilledFrames (length s.vals) first rs l) top frames

  held_top : Held s.vals room first rs (f ∷ rest)
  held_top = subst (λ (l : List Frame). Held s.vals room first rs l) top held

  pub resume_stands : (δ ε : Family) (ms more : List (ℕ × ℕ)) (after : List Frame) → δ ≡ left first (take f.mark rs) → ms ≡ take f.mark rs → ε ≡ at δ f.x f.v → Grown ms more
      → Entered s.vals δ (length ms) f.x f.v rest after → Stands s room first (pending s.vals first rs fs) ε more after
  resume_stands δ ε ms more after start cut is grown entered = let here = subst (λ (γ : Family). Filled (length s.vals) γ) (sym start) filled_top.0 in record {
    opened = resumed s.vals room first rs fs rest f top held δ ms start cut ε more after is grown entered;
    filled = subst (λ (γ : Family). Filled (length s.vals) γ) (sym is) (at_filled (length s.vals) δ f.x f.v here);
    frames = filled_entered s.vals room (length s.vals) first δ ms more f.x f.v rest after (start ∙ ap (left first) (sym cut)) here grown
        (subst (λ (qs : List (ℕ × ℕ)). Held s.vals room first qs rest) (sym cut) held_top.1.1)
        (subst (λ (qs : List (ℕ × ℕ)). FilledFrames (length s.vals) first qs rest) (sym cut) filled_top.1) entered;
  }

-- one place of a wide variable weighs less than all of them
pub wide_lighter : (vals : List (List ℕ)) (δ ε : Family) (x v : ℕ) → IsFit vals δ → IsWide δ x → δ x v ≡ true → ε ≡ at δ x v → alive_count vals ε < alive_count vals δ
wide_lighter vals δ ε x v fit wide alive is = let e = ap (alive_count vals) is in elim (cases_eq v wide.low) [
  | inl same ↦ let less : alive_count vals (at δ x v) < alive_count vals δ = count_lt vals (at δ x v) δ x wide.high fit (at_part δ x v alive)
      (false_from_ne_true (at δ x v x wide.high) (λ h. let f = at_alive δ x v wide.high h in let g = wide.apart in omega arith)) wide.high_alive in omega arith
  | inr ne ↦ let less : alive_count vals (at δ x v) < alive_count vals δ = count_lt vals (at δ x v) δ x wide.low fit (at_part δ x v alive)
      (false_from_ne_true (at δ x v x wide.low) (λ h. ne (at_alive δ x v wide.low h))) wide.low_alive in omega arith
]

-- each family that is held has an answer
tasks_have : (s : System) (δ : Family) (x : ℕ) (vs : List ℕ) (rest : List Family) → IsFit s.vals δ → All (λ v. δ x v ≡ true) vs → AllHave (problem s) rest
    → AllHave (problem s) (map (at δ x) vs ++ rest)
unfolding AllHave
tasks_have s δ x [] rest fit all have = have
tasks_have s δ x (v ∷ vs) rest fit all have = let alive = all 0 v (omega arith) in (
  formulas_need s.vals s.formulas (at δ x v) (fit_within s (at δ x v) (fit_part s.vals (at δ x v) δ (at_part δ x v alive) fit)),
  tasks_have s δ x vs rest fit (λ k d lt. all (suc k) d (omega arith)) have,
)

values_pass : (vals : List (List ℕ)) (δ : Family) (x v : ℕ) → All (λ w. δ x w ≡ true) (values_from vals δ x v)
unfolding values_from
values_pass vals δ x v = filter_passes (δ x) _

pub pending_have : (s : System) (room : ℕ) (first : Family) (rs : List (ℕ × ℕ)) (fs : List Frame) → Held s.vals room first rs fs → AllHave (problem s) (pending s.vals first rs fs)
unfolding AllHave
pending_have s room first rs [] held = tt
pending_have s room first rs (f ∷ fs) held = tasks_have s (left first (take f.mark rs)) f.x (values_from s.vals (left first (take f.mark rs)) f.x f.v)
    (pending s.vals first (take f.mark rs) fs) held.1.0.fit (values_pass s.vals (left first (take f.mark rs)) f.x f.v)
    (pending_have s room first (take f.mark rs) fs held.1.1)

-- where there is a frame, it holds a family
pub pending_some : (vals : List (List ℕ)) (room : ℕ) (first : Family) (rs : List (ℕ × ℕ)) (fs : List Frame) → (fs ≡ [] → ⊥) → Held vals room first rs fs
    → (ε : Family) × ((more : List Family) × (pending vals first rs fs ≡ ε ∷ more))
pending_some vals room first rs [] some held = absurd (some refl)
pending_some vals room first rs (f ∷ fs) some held = let δ = left first (take f.mark rs) in (
  at δ f.x f.v,
  (
    map (at δ f.x) (values_from vals δ f.x (f.v + 1)) ++ pending vals first (take f.mark rs) fs,
    ap (λ (l : List ℕ). map (at δ f.x) l ++ pending vals first (take f.mark rs) fs)
        (values_alive vals δ f.x f.v (held.1.0.fit.within f.x f.v held.1.0.alive) held.1.0.alive),
  ),
)

-- the measure: so many times the room, and the places that are alive
unfoldable pub rank : ℕ → ℕ → ℕ
rank room zero = 0
rank room (suc left) = room + 1 + rank room left

pub rank_less : (room less left now next : ℕ) → left ≡ less + 1 → next ≤ room → rank room less + next < rank room left + now
unfolding rank
rank_less room less left now next e small = let f : rank room left ≡ room + 1 + rank room less = ap (rank room) (e ∙ add-one less) in omega arith
