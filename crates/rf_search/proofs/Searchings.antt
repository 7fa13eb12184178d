-- What a search knows of the families that are still to be searched: what a run of them says of the whole, and what a
-- refutation of them completes.
use Rattle.std.proofs.Common.{◌≡◌, ◌⊎◌, ℕ, zero, suc, ◌+◌, ◌-◌, ◌<◌, ◌≤◌, List, [], ◌∷◌, ◌++◌, length, map, Option, Some, None, refl, sym, ap, ◌∙◌, subst, inl, inr, arith, append_assoc, length-append, zero-add}
use Rattle.std.proofs.lemmas.List.{append-nil, length-map}
use Rattle.rf_form.specs.Alive.{IsFit}
use Rattle.rf_form.specs.Families.{Family, at}
use Rattle.rf_form.specs.Need.{values, solution, FirstWide, AllSingle, Canon}
use Rattle.rf_form.specs.Problems.{Fits, NoneClosed, IsGreatest}
use Rattle.rf_cons.specs.Systems.{System, problem}
use Rattle.rf_refute.specs.Trees.{Node}
use Rattle.rf_refute.specs.Good.{Refute, counted}
use Rattle.rf_search.specs.Answers.{Exceeds}
use Rattle.rf_search.specs.Writes.{Adds, Closing}
use Rattle.rf_search.specs.Ended.{Solved, Nothing}
use Rattle.rf_search.proofs.Runnings.{Runs, AllHave, HasRun, has_run, runs_one, runs_none, runs_count, fail_runs, solve_runs, split_runs}

abbrev pub Up : System → Family → ℕ → ℕ → Option (List ℕ) → ℕ → Type 0
Up s whole budget left o n = (m : ℕ) × (Runs (problem s) (whole ∷ []) o m × (m + left ≡ n + budget))

pub record Searching (s : System) (whole : Family) (budget left : ℕ) (nodes : List Node) (todo : List Family) : Type 0 where
  pub up : (o : Option (List ℕ)) (n : ℕ) → Runs (problem s) todo o n → Up s whole budget left o n
  pub good : (more : List Node) → Refute s todo more → Refute s (whole ∷ []) (nodes ++ more)
  pub count : length todo + budget ≡ counted nodes + left + 1

pub searching_start : (s : System) (whole : Family) (budget : ℕ) (nodes : List Node) → nodes ≡ [] → Searching s whole budget budget nodes (whole ∷ [])
searching_start s whole budget nodes none = record {
  up = λ o n r. (n, (r, refl));
  good = λ more h. subst (λ (l : List Node). Refute s (whole ∷ []) (l ++ more)) (sym none) h;
  count = let e = ap counted none in omega arith;
}

module _ (s : System) (whole : Family) (budget left : ℕ) (before : List Node) (δ : Family) (rest : List Family)
    (was : Searching s whole budget left before (δ ∷ rest)) where
  -- what is written turns a refutation of other families into one of those
  good_after : (kept : List Family) (after : List Node) → Adds s δ kept before after → (more : List Node) → Refute s (kept ++ rest) more
      → Refute s (whole ∷ []) (after ++ more)
  good_after kept after adds more h = subst (λ (l : List Node). Refute s (whole ∷ []) l)
      (sym (ap (λ (l : List Node). l ++ more) adds.is ∙ append_assoc before adds.nodes more))
      (was.good (adds.nodes ++ more) (adds.leads rest more h))

  -- a closing that leaves the family q, and the split of q
  pub searching_split : (q : Family) (x : ℕ) (mid after : List Node) → Fits (problem s) q → IsGreatest (problem s) δ q → FirstWide (problem s) q x
      → Closing s δ (q ∷ []) before mid → Adds s q (map (at q x) (values (problem s) q x)) mid after
      → counted after + 1 ≡ counted mid + length (values (problem s) q x)
      → Searching s whole budget left after (map (at q x) (values (problem s) q x) ++ rest)
  searching_split q x mid after fits g first closing adds more = record {
    up = λ o n r. was.up o n (split_runs (problem s) δ q x rest o n fits g first r);
    good = λ ns h. subst (λ (l : List Node). Refute s (whole ∷ []) l)
        (sym (ap (λ (l : List Node). l ++ ns) adds.is ∙ append_assoc mid adds.nodes ns))
        (good_after (q ∷ []) mid closing.adds (adds.nodes ++ ns) (adds.leads rest ns h));
    count = let a = length-append (map (at q x) (values (problem s) q x)) rest in let b = length-map (values (problem s) q x) (at q x) in
        let c = closing.free in let d = was.count in omega arith;
  }

  -- where the places that are left are single, they are the solution
  pub searching_solved : (q : Family) → IsGreatest (problem s) δ q → AllSingle (problem s) q → Solved s whole q budget left
  searching_solved q g single = let u = was.up (Some (solution (problem s) q)) 1 (solve_runs (problem s) δ q rest g single) in
      let one = runs_one (problem s) whole (whole ∷ []) (Some (solution (problem s) q)) u.0 refl u.1.0 in record {
        need = one.0;
        single = single;
        canon = one.1.0;
        spent = let a = u.1.1 in let b = one.1.1 in omega arith;
      }

  -- a failure with other families behind it takes one of the budget
  pub searching_failed : (less : ℕ) (after : List Node) → left ≡ less + 1 → NoneClosed (problem s) δ → Closing s δ [] before after
      → Searching s whole budget less after rest
  searching_failed less after e none closing = record {
    up = λ o n r. let u = was.up o (suc n) (fail_runs (problem s) δ rest o n none r) in (u.0, (u.1.0, let a = u.1.1 in omega arith));
    good = λ ns h. good_after [] after closing.adds ns h;
    count = let c = closing.free in let d = was.count in omega arith;
  }

  -- the last failure
  pub searching_ended : (after : List Node) → rest ≡ [] → NoneClosed (problem s) δ → Closing s δ [] before after → Nothing s whole budget left after
  searching_ended after end none closing = let u = was.up None 1 (fail_runs (problem s) δ rest None 0 none
      (subst (λ (l : List Family). Runs (problem s) l None 0) (sym end) (runs_none (problem s)))) in
      let one = runs_one (problem s) whole (whole ∷ []) None u.0 refl u.1.0 in record {
        need = one.0;
        canon = one.1.0;
        spent = let a = u.1.1 in let b = one.1.1 in omega arith;
        good = subst (λ (l : List Node). Refute s (whole ∷ []) l) (append-nil after)
            (good_after [] after closing.adds [] (subst (λ (l : List Family). Refute s l []) (sym end) tt));
        counts = let a = u.1.1 in let b = one.1.1 in let c = closing.free in let d = was.count in let e = ap (length {A = Family}) end in omega arith;
      }

  -- a failure with other families behind it, where nothing is left of the budget
  pub searching_over : (ε : Family) (more : List Family) → left ≡ 0 → rest ≡ ε ∷ more → AllHave (problem s) rest → NoneClosed (problem s) δ → Exceeds s whole budget
  unfolding HasRun
  searching_over ε more gone some all none = let r = has_run (problem s) rest all in
      let one = runs_count (problem s) ε more rest r.0 r.1.0 some r.1.1 in
      let u = was.up r.0 (suc r.1.0) (fail_runs (problem s) δ rest r.0 r.1.0 none r.1.1) in
      let whole_one = runs_one (problem s) whole (whole ∷ []) r.0 u.0 refl u.1.0 in record {
        answer = r.0;
        need = whole_one.0;
        canon = whole_one.1.0;
        above = let a = u.1.1 in let b = whole_one.1.1 in let c = one.1 in omega arith;
      }
