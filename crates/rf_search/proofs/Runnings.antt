-- The canonical search of a list of families, one after the other up to the first solution. Each family that is taken counts
-- one, with its need.
use Rattle.std.proofs.Common.{◌≡◌, ◌⊎◌, ℕ, zero, suc, ◌+◌, ◌<◌, ◌≤◌, Bool, true, false, List, [], ◌∷◌, ◌++◌, length, map, All, Option, Some, None, refl, sym, ap, ◌∙◌, subst, inl, inr, arith}
use Rattle.std.specs.List.{range_with_len, filter}
use Rattle.std.proofs.lemmas.Bool.{both_ways}
use Rattle.rf_form.specs.Alive.{is_among}
use Rattle.rf_form.specs.Families.{Family, at, IsWide}
use Rattle.rf_form.specs.Need as need
use Rattle.rf_form.specs.Need.{values, solution, FirstWide, AllSingle, Canon, Tries, HasCanon}
use Rattle.rf_form.specs.Problems.{Problem, Fits, NoneClosed, IsGreatest}
use Rattle.rf_trail.proofs.Ranges.{passes_among}

pub data Runs (i : Problem) : List Family → Option (List ℕ) → ℕ → Type 0 where
  out : (fams : List Family) (o : Option (List ℕ)) (n : ℕ) → fams ≡ [] → o ≡ None → n ≡ 0 → Runs i fams o n
  hit : (fams : List Family) (o : Option (List ℕ)) (n : ℕ) (δ : Family) (rest : List Family) (found : List ℕ) (k : ℕ) → fams ≡ δ ∷ rest
      → Canon i δ (Some found) k → o ≡ Some found → n ≡ suc k → Runs i fams o n
  miss : (fams : List Family) (o : Option (List ℕ)) (n : ℕ) (δ : Family) (rest : List Family) (k m : ℕ) → fams ≡ δ ∷ rest
      → Canon i δ None k → Runs i rest o m → n ≡ suc (k + m) → Runs i fams o n

head_same : (δ ε : Family) (rest more fams : List Family) → fams ≡ δ ∷ rest → fams ≡ ε ∷ more → δ ≡ ε
head_same δ ε rest more fams e f = let g = sym e ∙ f in cc

tail_same : (δ ε : Family) (rest more fams : List Family) → fams ≡ δ ∷ rest → fams ≡ ε ∷ more → rest ≡ more
tail_same δ ε rest more fams e f = let g = sym e ∙ f in cc

not_none : (δ : Family) (rest fams : List Family) → fams ≡ δ ∷ rest → fams ≡ [] → ⊥
not_none δ rest fams e f = let g = sym e ∙ f in cc

moved_canon : (i : Problem) (δ ε : Family) (o : Option (List ℕ)) (n : ℕ) → δ ≡ ε → Canon i ε o n → Canon i δ o n
moved_canon i δ ε o n e c = subst (λ (γ : Family). Canon i γ o n) (sym e) c

moved_runs : (i : Problem) (fams more : List Family) (o : Option (List ℕ)) (n : ℕ) → fams ≡ more → Runs i more o n → Runs i fams o n
moved_runs i fams more o n e r = subst (λ (l : List Family). Runs i l o n) (sym e) r

-- one family alone
pub runs_one : (i : Problem) (δ : Family) (fams : List Family) (o : Option (List ℕ)) (n : ℕ) → fams ≡ δ ∷ [] → Runs i fams o n → (k : ℕ) × (Canon i δ o k × (n ≡ suc k))
runs_one i δ fams o n e (out _ _ _ none _ _) = absurd (not_none δ [] fams e none)
runs_one i δ fams o n e (hit _ _ _ ε rest found k f c a h) = (
  k,
  (subst (λ (p : Option (List ℕ)). Canon i δ p k) (sym a) (moved_canon i δ ε (Some found) k (head_same δ ε [] rest fams e f) c), h),
)
runs_one i δ fams o n e (miss _ _ _ ε rest k m f c r h) = one_missed i δ o n k m rest (tail_same δ ε [] rest fams e f)
    (moved_canon i δ ε None k (head_same δ ε [] rest fams e f) c) r h
  where
    no_more : (i : Problem) (rest : List Family) (o : Option (List ℕ)) (m : ℕ) → [] ≡ rest → Runs i rest o m → (o ≡ None) × (m ≡ 0)
    no_more i rest o m e (out _ _ _ none a b) = (a, b)
    no_more i rest o m e (hit _ _ _ ε more found k f c a h) = absurd (not_none ε more rest f (sym e))
    no_more i rest o m e (miss _ _ _ ε more k j f c r h) = absurd (not_none ε more rest f (sym e))

    one_missed : (i : Problem) (δ : Family) (o : Option (List ℕ)) (n k m : ℕ) (rest : List Family) → [] ≡ rest → Canon i δ None k → Runs i rest o m → n ≡ suc (k + m)
        → (j : ℕ) × (Canon i δ o j × (n ≡ suc j))
    one_missed i δ o n k m rest e c r h = let z = no_more i rest o m e r in
        (k, (subst (λ (p : Option (List ℕ)). Canon i δ p k) (sym z.0) c, let y = z.1 in omega arith))

pub runs_none : (i : Problem) → Runs i [] None 0
runs_none i = out [] None 0 refl refl refl

pub fail_runs : (i : Problem) (δ : Family) (rest : List Family) (o : Option (List ℕ)) (n : ℕ) → NoneClosed i δ → Runs i rest o n → Runs i (δ ∷ rest) o (suc n)
fail_runs i δ rest o n none r = miss (δ ∷ rest) o (suc n) δ rest 0 n refl (need.fails δ None 0 none refl refl) r (omega arith)

pub solve_runs : (i : Problem) (δ q : Family) (rest : List Family) → IsGreatest i δ q → AllSingle i q → Runs i (δ ∷ rest) (Some (solution i q)) 1
solve_runs i δ q rest g single = hit (δ ∷ rest) (Some (solution i q)) 1 δ rest (solution i q) 0 refl
    (need.solves δ q (Some (solution i q)) 0 g single refl refl) refl refl

-- the tries of a split in front of other families
Tried : Problem → Family → ℕ → List ℕ → List Family → Option (List ℕ) → ℕ → Type 0
Tried i q x vs rest o n = ((found : List ℕ) × (Tries i q x vs (Some found) n × (o ≡ Some found)))
    ⊎ ((k : ℕ) × ((m : ℕ) × (Tries i q x vs None k × (Runs i rest o m × (n ≡ k + m)))))

tried_more : (i : Problem) (q : Family) (x v : ℕ) (vs : List ℕ) (rest : List Family) (o : Option (List ℕ)) (n k m : ℕ) → Canon i (at q x v) None k
    → n ≡ suc (k + m) → Tried i q x vs rest o m → Tried i q x (v ∷ vs) rest o n
unfolding Tried
tried_more i q x v vs rest o n k m c e (inl h) = inl (h.0, (need.goes q x (v ∷ vs) (Some h.0) n v vs k m refl c h.1.0 e, h.1.1))
tried_more i q x v vs rest o n k m c e (inr h) = inr (
  suc (k + h.0),
  (
    h.1.0,
    (
      need.goes q x (v ∷ vs) None (suc (k + h.0)) v vs k h.0 refl c h.1.1.0 refl,
      (h.1.1.1.0, let f = h.1.1.1.1 in omega arith),
    ),
  ),
)

tried : (i : Problem) (q : Family) (x : ℕ) (vs : List ℕ) (rest fams : List Family) (o : Option (List ℕ)) (n : ℕ) → fams ≡ map (at q x) vs ++ rest → Runs i fams o n
    → Tried i q x vs rest o n
unfolding Tried
tried i q x [] rest fams o n e r = inr (0, (n, (need.no_value q x [] None 0 refl refl refl, (moved_runs i rest fams o n (sym e) r, omega arith))))
tried i q x (v ∷ vs) rest fams o n e (out _ _ _ none _ _) = absurd (not_none (at q x v) (map (at q x) vs ++ rest) fams e none)
tried i q x (v ∷ vs) rest fams o n e (hit _ _ _ ε more found k f c a h) = inl (
  found,
  (need.ends q x (v ∷ vs) (Some found) n v vs found k refl (moved_canon i (at q x v) ε (Some found) k (head_same (at q x v) ε (map (at q x) vs ++ rest) more fams e f) c) refl h, a),
)
tried i q x (v ∷ vs) rest fams o n e (miss _ _ _ ε more k m f c r h) = tried_more i q x v vs rest o n k m
    (moved_canon i (at q x v) ε None k (head_same (at q x v) ε (map (at q x) vs ++ rest) more fams e f) c) h
    (tried i q x vs rest more o m (sym (tail_same (at q x v) ε (map (at q x) vs ++ rest) more fams e f)) r)

-- where there is a value, at least one is taken
tries_count : (i : Problem) (q : Family) (x : ℕ) (vs : List ℕ) (o : Option (List ℕ)) (n : ℕ) → (vs ≡ [] → ⊥) → Tries i q x vs o n → (k : ℕ) × (n ≡ suc k)
tries_count i q x vs o n some (need.no_value _ _ _ _ _ empty _ _) = absurd (some empty)
tries_count i q x vs o n some (need.ends _ _ _ _ _ _ _ _ k _ _ _ h) = (k, h)
tries_count i q x vs o n some (need.goes _ _ _ _ _ _ _ k m _ _ _ h) = (k + m, h)

-- a wide variable has values
pub values_some : (i : Problem) (q : Family) (x : ℕ) → Fits i q → IsWide q x → values i q x ≡ [] → ⊥
values_some i q x fits wide none = both_ways false refl (sym (ap (is_among wide.low) none)
    ∙ passes_among (q x) 0 (i.places x) wide.low (omega arith) (let h = (fits x wide.low wide.low_alive).1 in omega arith) wide.low_alive)

pub split_runs : (i : Problem) (δ q : Family) (x : ℕ) (rest : List Family) (o : Option (List ℕ)) (n : ℕ) → Fits i q → IsGreatest i δ q → FirstWide i q x
    → Runs i (map (at q x) (values i q x) ++ rest) o n → Runs i (δ ∷ rest) o n
unfolding Tried
split_runs i δ q x rest o n fits g first r = elim (tried i q x (values i q x) rest (map (at q x) (values i q x) ++ rest) o n refl r) [
  | inl h ↦ let k = tries_count i q x (values i q x) (Some h.0) n (values_some i q x fits first.wide) h.1.0 in
      hit (δ ∷ rest) o n δ rest h.0 k.0 refl (need.splits δ q x (Some h.0) k.0 g first
      (subst (λ (m : ℕ). Tries i q x (values i q x) (Some h.0) m) k.1 h.1.0)) h.1.1 k.1
  | inr h ↦ let k = tries_count i q x (values i q x) None h.0 (values_some i q x fits first.wide) h.1.1.0 in
      miss (δ ∷ rest) o n δ rest k.0 h.1.0 refl (need.splits δ q x None k.0 g first
      (subst (λ (m : ℕ). Tries i q x (values i q x) None m) k.1 h.1.1.0)) h.1.1.1.0
      (let a = h.1.1.1.1 in let b = k.1 in omega arith)
]

-- families that have an answer each have a run
unfoldable pub AllHave : Problem → List Family → Type 0
AllHave i [] = Unit {0}
AllHave i (δ ∷ rest) = HasCanon i δ × AllHave i rest

unfoldable pub HasRun : Problem → List Family → Type 0
HasRun i fams = (o : Option (List ℕ)) × ((n : ℕ) × Runs i fams o n)

run_more : (i : Problem) (δ : Family) (rest : List Family) (o : Option (List ℕ)) (k : ℕ) → Canon i δ o k → HasRun i rest → HasRun i (δ ∷ rest)
unfolding HasRun
run_more i δ rest None k c h = (h.0, (suc (k + h.1.0), miss (δ ∷ rest) h.0 (suc (k + h.1.0)) δ rest k h.1.0 refl c h.1.1 refl))
run_more i δ rest (Some found) k c h = (Some found, (suc k, hit (δ ∷ rest) (Some found) (suc k) δ rest found k refl c refl refl))

pub has_run : (i : Problem) (fams : List Family) → AllHave i fams → HasRun i fams
unfolding AllHave HasRun
has_run i [] all = (None, (0, runs_none i))
has_run i (δ ∷ rest) all = run_more i δ rest all.0.0 all.0.1 all.0.2 (has_run i rest all.1)

-- where there is a family, one is taken
pub runs_count : (i : Problem) (δ : Family) (rest fams : List Family) (o : Option (List ℕ)) (n : ℕ) → fams ≡ δ ∷ rest → Runs i fams o n → (k : ℕ) × (n ≡ suc k)
runs_count i δ rest fams o n e (out _ _ _ none _ _) = absurd (not_none δ rest fams e none)
runs_count i δ rest fams o n e (hit _ _ _ _ _ _ k _ _ _ h) = (k, h)
runs_count i δ rest fams o n e (miss _ _ _ _ _ k m _ _ _ h) = (k + m, h)
