-- The values of a solution.
use Rattle.std.proofs.Common.{◌≡◌, ℕ, ◌+◌, ◌<◌, true, List, [], ◌∷◌, ◌++◌, length, map, slice_index_or, refl, sym, ap, ◌∙◌, subst, arith, zero-add}
use Rattle.std.specs.List.{range_with_len}
use Rattle.std.proofs.lemmas.List.FromFn.{get_or-map-range_with_len, map-range_with_len_more}
use Rattle.rf_form.specs.Alive.{IsFit}
use Rattle.rf_form.specs.Families.{Family}
use Rattle.rf_form.specs.Need.{values, solution}
use Rattle.rf_form.specs.Truths.{row}
use Rattle.rf_cons.specs.Systems.{System, problem}
use Rattle.rf_refute.specs.Stacks.{values_from, IsNext}
use Rattle.rf_refute.proofs.Listing.{values_alive, values_all}

pub first_is : (vals : List (List ℕ)) (δ : Family) (x v : ℕ) → IsFit vals δ → IsNext vals δ x 0 v → v ≡ slice_index_or (values_from vals δ x 0) 0 0
first_is vals δ x v fit next = sym (ap (λ (l : List ℕ). slice_index_or l 0 0) (next.same ∙ values_alive vals δ x v (fit.within x v next.alive) next.alive))

pub none_is : (vals : List (List ℕ)) (δ : Family) (x : ℕ) → values_from vals δ x 0 ≡ [] → 0 ≡ slice_index_or (values_from vals δ x 0) 0 0
none_is vals δ x none = sym (ap (λ (l : List ℕ). slice_index_or l 0 0) none)

place_is : (s : System) (δ : Family) (x : ℕ) → x < length s.vals → slice_index_or (solution (problem s) δ) x 0 ≡ slice_index_or (values_from s.vals δ x 0) 0 0
place_is s δ x lt = get_or-map-range_with_len (λ y. slice_index_or (values (problem s) δ y) 0 0) 0 (length s.vals) x x 0 lt (zero-add x)
    ∙ ap (λ (l : List ℕ). slice_index_or l 0 0) (values_all s δ x)

-- the values of the first n variables
unfoldable pub valued_to : System → List ℕ → ℕ → List ℕ
valued_to s places n = map (λ x. slice_index_or (row s.vals x) (slice_index_or places x 0) 0) (range_with_len 0 n)

pub valued_none : (s : System) (places : List ℕ) → [] ≡ valued_to s places 0
unfolding valued_to
valued_none s places = refl

pub valued_more : (s : System) (δ : Family) (vals : List (List ℕ)) (x value : ℕ) (now new : List ℕ) → vals ≡ s.vals → x < length vals
    → now ≡ valued_to s (solution (problem s) δ) x → value ≡ slice_index_or (row vals x) (slice_index_or (values_from vals δ x 0) 0 0) 0 → new ≡ now ++ value ∷ []
    → new ≡ valued_to s (solution (problem s) δ) (x + 1)
unfolding valued_to
valued_more s δ vals x value now new e lt was is more = let places = solution (problem s) δ in
    let inside = subst (λ (us : List (List ℕ)). x < length us) e lt in
    let same = is ∙ (ap (λ (us : List (List ℕ)). slice_index_or (row us x) (slice_index_or (values_from us δ x 0) 0 0) 0) e
    ∙ ap (λ (p : ℕ). slice_index_or (row s.vals x) p 0) (sym (place_is s δ x inside))) in
    more ∙ (ap (λ (v : ℕ). now ++ v ∷ []) same ∙ (ap (λ (l : List ℕ). l ++ slice_index_or (row s.vals x) (slice_index_or places x 0) 0 ∷ []) was
    ∙ sym (map-range_with_len_more (λ y. slice_index_or (row s.vals y) (slice_index_or places y 0) 0) 0 x x (zero-add x))))

pub valued_all : (s : System) (places : List ℕ) (n : ℕ) → n ≡ length s.vals
    → valued_to s places n ≡ map (λ x. slice_index_or (row s.vals x) (slice_index_or places x 0) 0) (range_with_len 0 (length s.vals))
unfolding valued_to
valued_all s places n e = ap (λ (k : ℕ). map (λ x. slice_index_or (row s.vals x) (slice_index_or places x 0) 0) (range_with_len 0 k)) e
