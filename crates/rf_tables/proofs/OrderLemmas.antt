-- Distinct texts that are sorted rise.
use Rattle.std.proofs.Common.{◌≡◌, ◌≢◌, ℕ, true, false, List, AllPairs, get_or, refl, sym, ap, ◌∙◌, arith}
use Rattle.std.specs.Cmp.Lexicographic.{slice_cmp}
use Rattle.std.specs.List.Sorted.{IsPermutation, IsSorted}
use Rattle.std.specs.Ordering.{nat_cmp, is_lt, is_eq, ordering_reverse}
use Rattle.std.specs.Str.{bytes_eq}
use Rattle.std.specs.declared.cmp.Ordering.{Ordering}
use Rattle.std.specs.declared.cmp.Ordering.TheVariants.{Less, Equal, Greater}
use Rattle.std.proofs.lemmas.Cmp.{nat_list_cmp_total, nat_list_eq_equiv}
use Rattle.std.proofs.lemmas.List.Sorted.{sorted_far, ranks_by}
use Rattle.std.proofs.lemmas.Map.Keys.{apart_from_distinct, IsDistinct-IsPermutation}
use Rattle.std.proofs.lemmas.Map.Made.{IsDistinct-from_AllPairs}
use Rattle.std.proofs.lemmas.Map.Text.{is_eq-slice_cmp}
use Rattle.std.proofs.lemmas.Slice.Eq.{bytes_eq-Decides}
use Rattle.rf_jmodel.specs.StandsFor.{is_text_before}

not-both : true ≡ false → ⊥
not-both same = cc

-- of two different texts that don't stand the other way round the first is before the second
before : (one other : List ℕ) → bytes_eq one other ≡ false → is_lt (slice_cmp nat_cmp other one) ≡ false → is_text_before one other ≡ true
before one other differ not-behind = by (slice_cmp nat_cmp one other) refl
  where
    by : (order : Ordering) → slice_cmp nat_cmp one other ≡ order → is_lt (slice_cmp nat_cmp one other) ≡ true
    by Less is = ap (λ (found : Ordering). is_lt found) is
    by Equal is = absurd (not-both (sym (ap (λ (found : Ordering). is_eq found) is) ∙ is_eq-slice_cmp one other ∙ differ))
    by Greater is =
        let turned = nat_list_cmp_total.antisymm other one ∙ ap (λ (found : Ordering). ordering_reverse found) is in
        absurd (not-both (sym (ap (λ (found : Ordering). is_lt found) turned) ∙ not-behind))

pub rises : (texts sorted : List (List ℕ)) → AllPairs (λ one other. one ≢ other) texts → IsPermutation texts sorted → IsSorted (slice_cmp nat_cmp) sorted
    → AllPairs (λ one other. is_text_before one other ≡ true) sorted
rises texts sorted apart moved up = λ i j d less below.
    before (get_or sorted i d) (get_or sorted j d)
    (apart_from_distinct bytes_eq sorted i j d
    (IsDistinct-IsPermutation bytes_eq nat_list_eq_equiv.symm texts sorted moved (IsDistinct-from_AllPairs bytes_eq-Decides texts apart)) less below)
    (sorted_far (λ (one other : List ℕ). is_lt (slice_cmp nat_cmp one other)) (ranks_by nat_list_cmp_total (λ (text : List ℕ). text)) sorted up i j d
    (omega (arith, less)) below)
