-- What frames hold, as the store goes on and back.
use Rattle.std.proofs.Common.{◌≡◌, ◌⊎◌, ℕ, zero, suc, ◌+◌, ◌-◌, ◌<◌, ◌≤◌, Bool, true, false, MatchBool, List, [], ◌∷◌, ◌++◌, length, map, take, refl, sym, ap, ap₂, ◌∙◌, subst, inl, inr, arith, length-append}
use Rattle.std.proofs.lemmas.Bool.{cases_lt, both_ways, false_from_ne_true}
use Rattle.std.proofs.lemmas.List.{get_or_past, take_at, take-append-le}
use Rattle.rf_form.specs.Alive.{IsFit}
use Rattle.rf_form.specs.Families.{Family, at, without, Part}
use Rattle.rf_form.specs.Truths.{row}
use Rattle.rf_form.proofs.FamilyLemmas.{at_alive, at_part, without_part, without_gone}
use Rattle.rf_form.proofs.Weights.{weight_le, weight_lt}
use Rattle.rf_trail.specs.Removals.{left}
use Rattle.rf_refute.specs.declared.frames.Frame.{Frame}
use Rattle.rf_refute.specs.Stacks.{values_from, tasks, pending, alive_count, HeldAt, Held, Entered, Grown, Opened}
use Rattle.rf_refute.specs.Stacks as stacks
use Rattle.rf_cons.specs.Systems.{System}
use Rattle.rf_refute.specs.Good.{Fits}
use Rattle.rf_refute.specs.Trees.{Split}
use Rattle.rf_refute.proofs.Listing.{values_alive, values_all}

pub fit_part : (vals : List (List ℕ)) (p δ : Family) → Part p δ → IsFit vals δ → IsFit vals p
fit_part vals p δ part fit = record { short = fit.short; within = λ x v h. fit.within x v (part x v h) }

pub inside_fit : (vals : List (List ℕ)) (δ : Family) (x v : ℕ) → IsFit vals δ → δ x v ≡ true → x < length vals
inside_fit vals δ x v fit alive = let inside = fit.within x v alive in elim (cases_lt x (length vals)) [
  | inl lt ↦ lt
  | inr above ↦ absurd (let e : length (row vals x) ≡ 0 = ap (length {A = ℕ}) (get_or_past vals x [] above) in omega arith)
]

pub count_le : (vals : List (List ℕ)) (p δ : Family) → Part p δ → alive_count vals p ≤ alive_count vals δ
unfolding alive_count
count_le vals p δ part = weight_le (λ x. length (row vals x)) (length vals) p δ part

pub count_lt : (vals : List (List ℕ)) (p δ : Family) (x v : ℕ) → IsFit vals δ → Part p δ → p x v ≡ false → δ x v ≡ true → alive_count vals p < alive_count vals δ
unfolding alive_count
count_lt vals p δ x v fit part gone alive = weight_lt (λ y. length (row vals y)) (length vals) p δ x v part
    (inside_fit vals δ x v fit alive) (fit.within x v alive) gone alive

-- one place of two weighs less than both
pub at_lighter : (vals : List (List ℕ)) (δ : Family) (x v w : ℕ) → IsFit vals δ → δ x v ≡ true → v < w → δ x w ≡ true
    → alive_count vals (at δ x v) < alive_count vals δ
at_lighter vals δ x v w fit alive lt other = count_lt vals (at δ x v) δ x w fit (at_part δ x v alive)
    (false_from_ne_true (at δ x v x w) (λ h. let e = at_alive δ x v w h in omega arith)) other

-- where a place is alive, there is one
pub count_some : (vals : List (List ℕ)) (δ : Family) (x v : ℕ) → IsFit vals δ → δ x v ≡ true → 0 < alive_count vals δ
count_some vals δ x v fit alive = let less : alive_count vals (without δ x v) < alive_count vals δ =
    count_lt vals (without δ x v) δ x v fit (without_part δ x v)
    (false_from_ne_true (without δ x v x v) (λ h. without_gone δ x v x v h refl refl)) alive in omega arith

pub take_grown : (n : ℕ) (rs more : List (ℕ × ℕ)) → Grown rs more → n ≤ length rs → take n more ≡ take n rs
take_grown n rs more grown low = ap (take n) grown.is ∙ take-append-le n rs grown.steps low

pub length_grown : (rs more : List (ℕ × ℕ)) → Grown rs more → length rs ≤ length more
length_grown rs more grown = let e = ap (length {A = ℕ × ℕ}) grown.is in let f = length-append rs grown.steps in omega arith

pub pending_grown : (vals : List (List ℕ)) (room : ℕ) (first : Family) (rs more : List (ℕ × ℕ)) (fs : List Frame) → Grown rs more → Held vals room first rs fs
    → pending vals first more fs ≡ pending vals first rs fs
pending_grown vals room first rs more [] grown held = refl
pending_grown vals room first rs more (f ∷ fs) grown held =
    ap (λ (qs : List (ℕ × ℕ)). tasks vals (left first qs) f.x f.v ++ pending vals first qs fs) (take_grown f.mark rs more grown held.0)

pub held_grown : (vals : List (List ℕ)) (room : ℕ) (first : Family) (rs more : List (ℕ × ℕ)) (fs : List Frame) → Grown rs more → Held vals room first rs fs
    → Held vals room first more fs
held_grown vals room first rs more [] grown held = tt
held_grown vals room first rs more (f ∷ fs) grown held = (
  (let a = length_grown rs more grown in let b = held.0 in omega arith),
  subst (λ (qs : List (ℕ × ℕ)). HeldAt vals room (length fs) (left first qs) f.x f.v × Held vals room first qs fs)
      (sym (take_grown f.mark rs more grown held.0)) held.1,
)

-- one place less
pub removed_opened : (vals : List (List ℕ)) (room : ℕ) (first δ ε : Family) (rs more : List (ℕ × ℕ)) (x v : ℕ) (fs : List Frame) → ε ≡ without δ x v → Grown rs more
    → IsFit vals δ → Held vals room first rs fs → length fs + alive_count vals δ ≤ room
    → Opened vals room first (without δ x v ∷ pending vals first rs fs) ε more fs
removed_opened vals room first δ ε rs more x v fs is grown fit held light = record {
  families = ap₂ (λ (γ : Family) (l : List Family). γ ∷ l) is (pending_grown vals room first rs more fs grown held);
  fit = subst (λ (γ : Family). IsFit vals γ) (sym is) (fit_part vals (without δ x v) δ (without_part δ x v) fit);
  held = held_grown vals room first rs more fs grown held;
  light = let e = ap (alive_count vals) is in let less = count_le vals (without δ x v) δ (without_part δ x v) in omega arith;
}

-- x goes on with the place v
module _ (vals : List (List ℕ)) (room : ℕ) (first δ ε : Family) (rs more : List (ℕ × ℕ)) (x v : ℕ) (before after : List Frame) (start : δ ≡ left first rs)
    (is : ε ≡ at δ x v) (grown : Grown rs more) (fit : IsFit vals δ) (alive : δ x v ≡ true) (held : Held vals room first rs before)
    (light : length before + alive_count vals δ ≤ room) where
  values_here : values_from vals δ x v ≡ v ∷ values_from vals δ x (v + 1)
  values_here = values_alive vals δ x v (fit.within x v alive) alive

  fit_now : IsFit vals ε
  fit_now = subst (λ (γ : Family). IsFit vals γ) (sym is) (fit_part vals (at δ x v) δ (at_part δ x v alive) fit)

  opened_last : values_from vals δ x (v + 1) ≡ [] → after ≡ before → Opened vals room first (tasks vals δ x v ++ pending vals first rs before) ε more after
  opened_last none same = record {
    families = ap₂ (λ (γ : Family) (l : List Family). γ ∷ l) is (ap (pending vals first more) same ∙ pending_grown vals room first rs more before grown held)
        ∙ sym (ap (λ (l : List ℕ). map (at δ x) l ++ pending vals first rs before) (values_here ∙ ap (λ (l : List ℕ). v ∷ l) none));
    fit = fit_now;
    held = subst (λ (fs : List Frame). Held vals room first more fs) (sym same) (held_grown vals room first rs more before grown held);
    light = let e = ap (alive_count vals) is in let less = count_le vals (at δ x v) δ (at_part δ x v alive) in let f = ap (length {A = Frame}) same in omega arith;
  }

  module _ (w : ℕ) (lt : v < w) (other : δ x w ≡ true) (next : values_from vals δ x (v + 1) ≡ values_from vals δ x w)
      (same : after ≡ record { mark = length rs; x = x; v = w } ∷ before) where
    back : take (length rs) more ≡ rs
    back = ap (take (length rs)) grown.is ∙ take_at rs grown.steps (length rs) refl

    families_more : pending vals first more after ≡ tasks vals δ x w ++ pending vals first rs before
    families_more = ap (pending vals first more) same
        ∙ (ap (λ (qs : List (ℕ × ℕ)). tasks vals (left first qs) x w ++ pending vals first qs before) back
        ∙ ap (λ (γ : Family). tasks vals γ x w ++ pending vals first rs before) (sym start))

    held_more : Held vals room first more (record { mark = length rs; x = x; v = w } ∷ before)
    held_more = (
      length_grown rs more grown,
      subst (λ (qs : List (ℕ × ℕ)). HeldAt vals room (length before) (left first qs) x w × Held vals room first qs before) (sym back)
          (subst (λ (γ : Family). HeldAt vals room (length before) γ x w) start (record { fit = fit; alive = other; light = light }), held),
    )

    opened_more : Opened vals room first (tasks vals δ x v ++ pending vals first rs before) ε more after
    opened_more = record {
      families = ap₂ (λ (γ : Family) (l : List Family). γ ∷ l) is families_more
          ∙ sym (ap (λ (l : List ℕ). map (at δ x) l ++ pending vals first rs before) (values_here ∙ ap (λ (l : List ℕ). v ∷ l) next));
      fit = fit_now;
      held = subst (λ (fs : List Frame). Held vals room first more fs) (sym same) held_more;
      light = let e = ap (alive_count vals) is in let less = at_lighter vals δ x v w fit alive lt other in let f = ap (length {A = Frame}) same in omega arith;
    }

  pub entered_opened : Entered vals δ (length rs) x v before after → Opened vals room first (tasks vals δ x v ++ pending vals first rs before) ε more after
  entered_opened (stacks.last none same) = opened_last none same
  entered_opened (stacks.more w lt other next same) = opened_more w lt other next same

-- the top frame goes on
module _ (vals : List (List ℕ)) (room : ℕ) (first : Family) (rs : List (ℕ × ℕ)) (fs rest : List Frame) (f : Frame) (top : fs ≡ f ∷ rest) (held : Held vals room first rs fs) where
  held_top : Held vals room first rs (f ∷ rest)
  held_top = subst (λ (l : List Frame). Held vals room first rs l) top held

  pub mark_inside : f.mark ≤ length rs
  mark_inside = held_top.0

  module _ (δ : Family) (ms : List (ℕ × ℕ)) (start : δ ≡ left first (take f.mark rs)) (cut : ms ≡ take f.mark rs) where
    held_at : HeldAt vals room (length rest) δ f.x f.v
    held_at = subst (λ (γ : Family). HeldAt vals room (length rest) γ f.x f.v) (sym start) held_top.1.0

    pub top_fit : IsFit vals δ
    top_fit = held_at.fit

    pub top_alive : δ f.x f.v ≡ true
    top_alive = held_at.alive

    pub top_room : length rest < room
    top_room = let some = count_some vals δ f.x f.v held_at.fit held_at.alive in let light = held_at.light in omega arith

    pub resumed : (ε : Family) (more : List (ℕ × ℕ)) (after : List Frame) → ε ≡ at δ f.x f.v → Grown ms more → Entered vals δ (length ms) f.x f.v rest after
        → Opened vals room first (pending vals first rs fs) ε more after
    resumed ε more after is grown entered = subst (λ (l : List Family). Opened vals room first l ε more after)
        (ap₂ (λ (γ : Family) (qs : List (ℕ × ℕ)). tasks vals γ f.x f.v ++ pending vals first qs rest) start cut ∙ sym (ap (pending vals first rs) top))
        (entered_opened vals room first δ ε ms more f.x f.v rest after (start ∙ ap (left first) (sym cut)) is grown held_at.fit held_at.alive
        (subst (λ (qs : List (ℕ × ℕ)). Held vals room first qs rest) (sym cut) held_top.1.1) held_at.light entered)

-- a frame with its mark
pub framed : (m n x v : ℕ) (fs after : List Frame) → after ≡ record { mark = m; x = x; v = v } ∷ fs → m ≡ n → after ≡ record { mark = n; x = x; v = v } ∷ fs
framed m n x v fs after is e = subst (λ (k : ℕ). after ≡ record { mark = k; x = x; v = v } ∷ fs) e is

pub opened_moved : (vals : List (List ℕ)) (room bound : ℕ) (first next : Family) (todo : List Family) (now : Family) (rs : List (ℕ × ℕ)) (fs : List Frame) → next ≡ first
    → bound ≡ room → Opened vals room first todo now rs fs → Opened vals bound next todo now rs fs
opened_moved vals room bound first next todo now rs fs e f opened = subst (λ (γ : Family). Opened vals bound γ todo now rs fs) (sym e)
    (subst (λ (r : ℕ). Opened vals r first todo now rs fs) (sym f) opened)

-- a split that fits has a first value
pub split_some : (s : System) (vals : List (List ℕ)) (δ : Family) (x : ℕ) (vs : List ℕ) → vals ≡ s.vals → Fits s δ (Split x vs) → values_from vals δ x 0 ≡ [] → ⊥
split_some s vals δ x vs e fits none = let two = fits.1.0 in let a = ap (length {A = ℕ}) fits.1.1 in let b = ap (length {A = ℕ}) (values_all s δ x) in
    let c = ap (λ (us : List (List ℕ)). length (values_from us δ x 0)) e in let d = ap (length {A = ℕ}) none in omega arith

pub split_opened : (s : System) (vals : List (List ℕ)) (room : ℕ) (first δ : Family) (rs : List (ℕ × ℕ)) (fs : List Frame) (x : ℕ) (vs : List ℕ) (ε : Family) (more : List (ℕ × ℕ))
    (after : List Frame) → vals ≡ s.vals → Fits s δ (Split x vs) → Opened vals room first (tasks vals δ x 0 ++ pending vals first rs fs) ε more after
    → Opened s.vals room first (map (at δ x) vs ++ pending s.vals first rs fs) ε more after
split_opened s vals room first δ rs fs x vs ε more after e fits opened =
    subst (λ (l : List ℕ). Opened s.vals room first (map (at δ x) l ++ pending s.vals first rs fs) ε more after) (sym (fits.1.1 ∙ values_all s δ x))
    (subst (λ (us : List (List ℕ)). Opened us room first (tasks us δ x 0 ++ pending us first rs fs) ε more after) e opened)

pub split_told : (b : Bool) (s : System) (vals : List (List ℕ)) (δ : Family) (x : ℕ) (listed : List ℕ) → vals ≡ s.vals → x < length vals → 2 ≤ length listed
    → MatchBool b (listed ≡ values_from vals δ x 0) (listed ≡ values_from vals δ x 0 → ⊥) → MatchBool b (Fits s δ (Split x listed)) (Fits s δ (Split x listed) → ⊥)
split_told true s vals δ x listed e inside two h = (
  subst (λ (us : List (List ℕ)). x < length us) e inside,
  (two, h ∙ (ap (λ (us : List (List ℕ)). values_from us δ x 0) e ∙ sym (values_all s δ x))),
)
split_told false s vals δ x listed e inside two h = λ f. h (f.1.1 ∙ (values_all s δ x ∙ ap (λ (us : List (List ℕ)). values_from us δ x 0) (sym e)))

-- a store that is back has the family that it had
pub same_family : (δ ε first next : Family) (rs more : List (ℕ × ℕ)) → δ ≡ left first rs → ε ≡ left next more → next ≡ first → more ≡ rs → ε ≡ δ
same_family δ ε first next rs more a b e f = b ∙ (ap₂ left e f ∙ sym a)
