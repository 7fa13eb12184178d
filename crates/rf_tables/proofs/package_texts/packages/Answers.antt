use Rattle.std.proofs.Common.{◌≡◌, ◌≢◌, ◌↔◌, ◌⊎◌, ◌∙◌, ℕ, true, List, [], AllPairs, Contains, ap, sym, subst, inl, inr}
use Rattle.std.specs.Cmp.Lexicographic.{slice_cmp}
use Rattle.std.specs.List.Sorted.{IsPermutation, IsSorted}
use Rattle.std.specs.Ordering.{nat_cmp}
use Rattle.std.proofs.lemmas.List.Sorted.{Contains-permutation, IsPermutation-sym}
use Rattle.rf_jmodel.specs.declared.projects.PlacedUnit.{PlacedUnit}
use Rattle.rf_jmodel.specs.declared.projects.Project.{Project}
use Rattle.rf_jmodel.specs.ProjectNames.{with_texts}
use Rattle.rf_jmodel.specs.StandsFor.{IsPackageText, is_text_before}
use Rattle.rf_jmodel.proofs.NameLemmas.{in-none, with_texts-has}
use Rattle.rf_symtab.proofs.ListLemmas.{put-from}
use Rattle.rf_tables.specs.PackageTexts.{all_fronts}
use Rattle.rf_tables.proofs.FrontLemmas.{fronts-are}
use Rattle.rf_tables.proofs.OrderLemmas.{rises}
use Rattle.rf_tables.proofs.package_texts.packages.Goals as goal

put-only : (texts : List (List ℕ)) (text : List ℕ) → Contains (with_texts [] texts) text → Contains texts text
put-only texts text has = by (put-from [] texts text has)
  where
    by : (Contains [] text) ⊎ (Contains texts text) → Contains texts text
    by (inl none) = absurd (in-none text none)
    by (inr some) = some

of-fronts : (project : Project) (texts : List (List ℕ)) → IsPermutation (with_texts [] (all_fronts project.units)) texts
    → (text : List ℕ) → Contains texts text ↔ IsPackageText project text
of-fronts project texts moved text = (
  (λ has. (fronts-are project text).0 (put-only (all_fronts project.units) text (Contains-permutation texts fronts text (IsPermutation-sym fronts texts moved) has))),
  (λ is. Contains-permutation fronts texts text moved (with_texts-has [] (all_fronts project.units) text ((fronts-are project text).1 is))),
)
  where
    fronts : List (List ℕ)
    fronts = with_texts [] (all_fronts project.units)

exact : (project : Project) (units : List PlacedUnit) (names listed texts : List (List ℕ)) → units ≡ project.units → names ≡ with_texts [] (all_fronts units)
    → listed ≡ names → IsPermutation listed texts → (text : List ℕ) → Contains texts text ↔ IsPackageText project text
exact project units names listed texts are-units are-names are-listed moved =
    of-fronts project texts
    (subst (λ (list : List (List ℕ)). IsPermutation list texts)
    (are-listed ∙ are-names ∙ ap (λ (list : List PlacedUnit). with_texts [] (all_fronts list)) are-units) moved)

rise : (names listed texts : List (List ℕ)) → AllPairs (λ one other. one ≢ other) names → listed ≡ names → IsPermutation listed texts
    → IsSorted (slice_cmp nat_cmp) texts → AllPairs (λ one other. is_text_before one other ≡ true) texts
rise names listed texts apart are-listed moved order =
    rises listed texts (subst (λ (list : List (List ℕ)). AllPairs (λ one other. one ≢ other) list) (sym are-listed) apart) moved order

pub returns-clause-exact : goal.returns-clause-exact
returns-clause-exact c =
    exact c.args.project.now c.as_slice.result.now c.in_ok-names.names c.in_ok-texts.texts _ c.as_slice.ensures c.in_ok-names.ensures c.in_ok-texts.ensures
    c.in_byte_order.ensures.permutation

pub returns-clause-rise : goal.returns-clause-rise
returns-clause-rise c =
    rise c.in_ok-names.names c.in_ok-texts.texts _ c.names_are_distinct.ensures c.in_ok-texts.ensures c.in_byte_order.ensures.permutation
    c.in_byte_order.ensures.order
