-- Each round of a search: a closing, and then a split, a failure or the end.
use Rattle.std.proofs.Common.{◌≡◌, ◌⊎◌, ℕ, zero, suc, ◌+◌, ◌<◌, ◌≤◌, List, [], ◌∷◌, ◌++◌, length, map, refl, sym, ap, ◌∙◌, subst, arith}
use Rattle.rf_form.specs.Alive.{IsFit}
use Rattle.rf_form.specs.Families.{Family, at, Filled, Part}
use Rattle.rf_form.specs.Need.{values, FirstWide, AllSingle}
use Rattle.rf_form.specs.Problems.{NoneClosed, IsGreatest}
use Rattle.rf_cons.specs.Systems.{System, problem}
use Rattle.rf_prop.proofs.CutLemmas.{fit_within}
use Rattle.rf_refute.specs.declared.frames.Frame.{Frame}
use Rattle.rf_refute.specs.Trees.{Node}
use Rattle.rf_refute.specs.Good.{counted}
use Rattle.rf_refute.specs.Stacks.{pending, alive_count, Held, Grown, Opened}
use Rattle.rf_refute.proofs.Stackings.{count_le, held_grown, pending_grown, opened_moved}
use Rattle.rf_search.specs.Answers.{Exceeds}
use Rattle.rf_search.specs.Ended.{Solved, Nothing}
use Rattle.rf_search.specs.Stands.{FilledFrames, Stands}
use Rattle.rf_search.specs.Writes.{Adds, Closing}
use Rattle.rf_search.proofs.Searchings.{Searching, searching_start, searching_split, searching_solved, searching_failed, searching_ended, searching_over}
use Rattle.rf_search.proofs.Standings.{filled_grown, pending_have, pending_some}

-- where a search is, and what it knows
pub record Now (s : System) (whole : Family) (budget left : ℕ) (nodes : List Node) (room : ℕ) (first now : Family) (rs : List (ℕ × ℕ)) (fs : List Frame) : Type 0 where
  pub fit : IsFit s.vals now
  pub filled : Filled (length s.vals) now
  pub held : Held s.vals room first rs fs
  pub frames : FilledFrames (length s.vals) first rs fs
  pub light : length fs + alive_count s.vals now ≤ room
  pub searching : Searching s whole budget left nodes (now ∷ pending s.vals first rs fs)

pub now_start : (s : System) (whole : Family) (budget : ℕ) (nodes : List Node) (room : ℕ) (first : Family) (rs : List (ℕ × ℕ)) (fs : List Frame) → fs ≡ [] → nodes ≡ []
    → IsFit s.vals whole → Filled (length s.vals) whole → alive_count s.vals whole ≤ room → Now s whole budget budget nodes room first whole rs fs
now_start s whole budget nodes room first rs fs none blank fit filled light = record {
  fit = fit;
  filled = filled;
  held = subst (λ (l : List Frame). Held s.vals room first rs l) (sym none) tt;
  frames = subst (λ (l : List Frame). FilledFrames (length s.vals) first rs l) (sym none) tt;
  light = let e = ap (length {A = Frame}) none in omega arith;
  searching = subst (λ (l : List Frame). Searching s whole budget budget nodes (whole ∷ pending s.vals first rs l)) (sym none) (searching_start s whole budget nodes blank);
}

-- the frames behind a closing
pub record Behind (s : System) (room : ℕ) (first next : Family) (rs ms : List (ℕ × ℕ)) (fs : List Frame) : Type 0 where
  pub held : Held s.vals room next ms fs
  pub frames : FilledFrames (length s.vals) next ms fs
  pub families : pending s.vals next ms fs ≡ pending s.vals first rs fs

module _ (s : System) (whole : Family) (budget left : ℕ) (before : List Node) (room : ℕ) (first δ : Family) (rs : List (ℕ × ℕ)) (fs : List Frame)
    (now : Now s whole budget left before room first δ rs fs) where
  pub closed_behind : (next : Family) (ms : List (ℕ × ℕ)) → next ≡ first → Grown rs ms → Behind s room first next rs ms fs
  closed_behind next ms same grown = subst (λ (γ : Family). Behind s room first γ rs ms fs) (sym same) (record {
    held = held_grown s.vals room first rs ms fs grown now.held;
    frames = filled_grown s.vals room (length s.vals) first rs ms fs grown now.held now.frames;
    families = pending_grown s.vals room first rs ms fs grown now.held;
  })

  pub closed_light : (q : Family) → Part q δ → length fs + alive_count s.vals q ≤ room
  closed_light q part = let less = count_le s.vals q δ part in let light = now.light in omega arith

  pub now_solved : (q : Family) → IsGreatest (problem s) δ q → AllSingle (problem s) q → Solved s whole q budget left
  now_solved q g single = searching_solved s whole budget left before δ (pending s.vals first rs fs) now.searching q g single

  pub now_ended : (after : List Node) → fs ≡ [] → NoneClosed (problem s) δ → Closing s δ [] before after → Nothing s whole budget left after
  now_ended after none failed closing = searching_ended s whole budget left before δ (pending s.vals first rs fs) now.searching after
      (ap (pending s.vals first rs) none) failed closing

  pub now_over : left ≡ 0 → (fs ≡ [] → ⊥) → NoneClosed (problem s) δ → Exceeds s whole budget
  now_over gone some failed = let p = pending_some s.vals room first rs fs some now.held in
      searching_over s whole budget left before δ (pending s.vals first rs fs) now.searching p.0 p.1.0 gone p.1.1 (pending_have s room first rs fs now.held) failed

  module _ (next : Family) (ms : List (ℕ × ℕ)) (behind : Behind s room first next rs ms fs) (bound : ℕ) (last : Family) (room_is : bound ≡ room) (last_is : last ≡ next)
      (ε : Family) (more : List (ℕ × ℕ)) (frames : List Frame) where
    moved : (todo : List Family) (rest : ℕ) (nodes : List Node) → Stands s room next todo ε more frames → Searching s whole budget rest nodes todo
        → Now s whole budget rest nodes bound last ε more frames
    moved todo rest nodes stands searching = let opened = opened_moved s.vals room bound next last todo ε more frames last_is room_is stands.opened in record {
      fit = opened.fit;
      filled = stands.filled;
      held = opened.held;
      frames = subst (λ (γ : Family). FilledFrames (length s.vals) γ more frames) (sym last_is) stands.frames;
      light = opened.light;
      searching = subst (λ (l : List Family). Searching s whole budget rest nodes l) (sym opened.families) searching;
    }

    pub now_split : (q : Family) (x : ℕ) (mid after : List Node) → IsFit s.vals q → IsGreatest (problem s) δ q → FirstWide (problem s) q x → Closing s δ (q ∷ []) before mid
        → Adds s q (map (at q x) (values (problem s) q x)) mid after → counted after + 1 ≡ counted mid + length (values (problem s) q x)
        → Stands s room next (map (at q x) (values (problem s) q x) ++ pending s.vals next ms fs) ε more frames
        → Now s whole budget left after bound last ε more frames
    now_split q x mid after fit g wide closing adds count stands = moved (map (at q x) (values (problem s) q x) ++ pending s.vals next ms fs) left after stands
        (subst (λ (l : List Family). Searching s whole budget left after (map (at q x) (values (problem s) q x) ++ l)) (sym behind.families)
        (searching_split s whole budget left before δ (pending s.vals first rs fs) now.searching q x mid after (fit_within s q fit) g wide closing adds count))

    pub now_failed : (less : ℕ) (after : List Node) → left ≡ less + 1 → NoneClosed (problem s) δ → Closing s δ [] before after
        → Stands s room next (pending s.vals next ms fs) ε more frames → Now s whole budget less after bound last ε more frames
    now_failed less after e failed closing stands = moved (pending s.vals next ms fs) less after stands
        (subst (λ (l : List Family). Searching s whole budget less after l) (sym behind.families)
        (searching_failed s whole budget left before δ (pending s.vals first rs fs) now.searching less after e failed closing))
