-- A good refutation leaves no choice that makes all constraints true; its first bad node is one alone.
use Rattle.std.proofs.Common.{◌≡◌, ℕ, suc, ◌<◌, Bool, true, false, not, eqb, leb, List, [], ◌∷◌, ◌++◌, length, map, slice_index_or, refl, sym, ap, ◌∙◌, subst, inl, inr, arith, eq-eqb, eqb-true}
use Rattle.std.proofs.lemmas.Bool.{both_ways, cases_eq, and_from, and_left, and_right, or_left, or_right, or_from, or_cases}
use Rattle.rf_form.specs.declared.forms.Term.{Term}
use Rattle.rf_form.specs.declared.forms.Term.TheVariants.{Var, Const}
use Rattle.rf_form.specs.Alive.{is_among}
use Rattle.rf_form.specs.Constraints.{formula_at}
use Rattle.rf_form.specs.Families.{Family, at, without, Within}
use Rattle.rf_form.specs.Formulas.{Formula, Truth, Lie, Equal, AtMost, Neg, AllOf, AnyOf, Formulas, no_form, and_form}
use Rattle.rf_form.specs.Problems as problems
use Rattle.rf_form.specs.Truths.{row, number, truth, all_true, any_true, Picks, Agree, Is, Each, One}
use Rattle.rf_form.proofs.FamilyLemmas.{at_here, at_other, at_part, within_part, without_part, without_keeps}
use Rattle.rf_trail.proofs.Ranges.{passes_among}
use Rattle.rf_cons.specs.Systems.{System, problem, FalseAt}
use Rattle.rf_refute.specs.Trees.{Node, Remove, Split, Fail}
use Rattle.rf_refute.specs.Good.{Fits, below, Refute, Good, FirstBad, HasNone}

-- What a formula is under a family, it is of each choice of alive places.
module _ (n : ℕ) (places : ℕ → ℕ) (δ : Family) (within : Within n places δ) (vals : List (List ℕ)) (a : ℕ → ℕ) (alive : (x : ℕ) → x < n → δ x (a x) ≡ true) where
  abbrev chosen : ℕ → ℕ
  chosen x = slice_index_or (row vals x) (a x) 0

  picked : (b : ℕ → ℕ) (s : Term) → Picks δ b s → Picks δ a s
  picked b (Var x) h = alive x (within x (b x) h).0
  picked b (Const c) h = tt

  agree_tells : (test : ℕ → ℕ → Bool) (s t : Term) (b : Bool) → Agree vals δ test s t b → test (number vals a s) (number vals a t) ≡ b
  agree_tells test s t b agree = agree.each a (picked agree.some.0 s agree.some.1) (picked agree.some.0 t agree.some.2)

  not_not : (b c : Bool) → b ≡ not c → not b ≡ c
  not_not b true e = ap not e
  not_not b false e = ap not e

  mutual
    pub is_of_choice : (f : Formula) (b : Bool) → Is vals δ f b → truth chosen f ≡ b
    is_of_choice Truth b h = sym h
    is_of_choice Lie b h = sym h
    is_of_choice (Equal s t) b h = agree_tells eqb s t b h
    is_of_choice (AtMost s t) b h = agree_tells leb s t b h
    is_of_choice (Neg f) b h = not_not (truth chosen f) b (is_of_choice f (not b) h)
    is_of_choice (AllOf fs) true h = each_true fs h
    is_of_choice (AllOf fs) false h = one_false fs h
    is_of_choice (AnyOf fs) true h = one_true fs h
    is_of_choice (AnyOf fs) false h = each_false fs h

    each_true : (fs : Formulas) → Each vals δ fs true → all_true chosen fs ≡ true
    each_true no_form h = refl
    each_true (and_form f fs) h = and_from (truth chosen f) (all_true chosen fs) (is_of_choice f true h.0) (each_true fs h.1)

    one_false : (fs : Formulas) → One vals δ fs false → all_true chosen fs ≡ false
    one_false no_form h = absurd h
    one_false (and_form f fs) (inl h) = and_left (truth chosen f) (all_true chosen fs) (is_of_choice f false h)
    one_false (and_form f fs) (inr h) = and_right (truth chosen f) (all_true chosen fs) (one_false fs h)

    one_true : (fs : Formulas) → One vals δ fs true → any_true chosen fs ≡ true
    one_true no_form h = absurd h
    one_true (and_form f fs) (inl h) = or_left (truth chosen f) (any_true chosen fs) (is_of_choice f true h)
    one_true (and_form f fs) (inr h) = or_right (truth chosen f) (any_true chosen fs) (one_true fs h)

    each_false : (fs : Formulas) → Each vals δ fs false → any_true chosen fs ≡ false
    each_false no_form h = refl
    each_false (and_form f fs) h = or_from (truth chosen f) (any_true chosen fs) (is_of_choice f false h.0) (each_false fs h.1)

-- a false constraint leaves no choice
pub false_none : (s : System) (δ : Family) (c : ℕ) → problems.Fits (problem s) δ → FalseAt s δ c → HasNone s δ
false_none s δ c fits fails a alive all = both_ways (truth (λ x. slice_index_or (row s.vals x) (a x) 0) (formula_at s.formulas fails.place))
    (is_of_choice (length s.vals) (λ x. length (row s.vals x)) δ fits s.vals a alive (formula_at s.formulas fails.place) false fails.fails)
    (all fails.place fails.inside)

at_alive : (δ : Family) (x v n : ℕ) (a : ℕ → ℕ) → ((y : ℕ) → y < n → δ y (a y) ≡ true) → a x ≡ v → (y : ℕ) → y < n → at δ x v y (a y) ≡ true
at_alive δ x v n a alive e y lt = elim (cases_eq x y) [
  | inl same ↦ at_here δ x v y (a y) same ∙ eq-eqb v (a y) (sym e ∙ ap a same)
  | inr ne ↦ at_other δ x v y (a y) ne ∙ alive y lt
]

NoneEach : System → List Family → Type 0
NoneEach s [] = Unit {0}
NoneEach s (δ ∷ rest) = (problems.Fits (problem s) δ → HasNone s δ) × NoneEach s rest

none_behind : (s : System) (fams rest : List Family) → NoneEach s (fams ++ rest) → NoneEach s rest
unfolding NoneEach
none_behind s [] rest h = h
none_behind s (δ ∷ fams) rest h = none_behind s fams rest h.1

none_at : (s : System) (δ : Family) (x v : ℕ) (vs : List ℕ) (rest : List Family) → NoneEach s (map (at δ x) vs ++ rest) → is_among v vs ≡ true
    → problems.Fits (problem s) (at δ x v) → HasNone s (at δ x v)
unfolding NoneEach
none_at s δ x v [] rest h there = absurd (both_ways false refl there)
none_at s δ x v (w ∷ vs) rest h there = elim (or_cases (eqb v w) (is_among v vs) there) [
  | inl e ↦ subst (λ (u : ℕ). problems.Fits (problem s) (at δ x u) → HasNone s (at δ x u)) (sym (eqb-true v w e)) h.0
  | inr r ↦ none_at s δ x v vs rest h.1 r
]

none_under : (s : System) (δ : Family) (n : Node) (rest : List Family) → Fits s δ n → NoneEach s (below δ n ++ rest) → problems.Fits (problem s) δ → HasNone s δ
unfolding NoneEach
none_under s δ (Fail c) rest fits none within = false_none s δ c within fits
none_under s δ (Remove x v c) rest fits none within = λ a alive all. elim (cases_eq (a x) v) [
  | inl e ↦ false_none s (at δ x v) c (within_part (length s.vals) (λ y. length (row s.vals y)) (at δ x v) δ (at_part δ x v fits.1.0) within) fits.1.1
      a (at_alive δ x v (length s.vals) a alive e) all
  | inr ne ↦ none.0 (within_part (length s.vals) (λ y. length (row s.vals y)) (without δ x v) δ (without_part δ x v) within) a
      (λ y lt. without_keeps δ x v y (a y) (alive y lt) (λ e f. ne (ap a e ∙ sym f))) all
]
none_under s δ (Split x vs) rest fits none within = λ a alive all. let here = alive x fits.0 in
    let there = passes_among (δ x) 0 (length (row s.vals x)) (a x) (omega arith) (let i = (within x (a x) here).1 in omega arith) here in
    none_at s δ x (a x) vs rest none (ap (is_among (a x)) fits.1.1 ∙ there)
    (within_part (length s.vals) (λ y. length (row s.vals y)) (at δ x (a x)) δ (at_part δ x (a x) here) within)
    a (at_alive δ x (a x) (length s.vals) a alive refl) all

refuted_none : (s : System) (fams : List Family) (nodes : List Node) → Refute s fams nodes → NoneEach s fams
unfolding NoneEach
refuted_none s [] nodes h = tt
refuted_none s (δ ∷ rest) [] h = absurd h
refuted_none s (δ ∷ rest) (n ∷ ns) h = let i = refuted_none s (below δ n ++ rest) ns h.1 in
    (none_under s δ n rest h.0 i, none_behind s (below δ n) rest i)

pub good_none : (s : System) (δ : Family) (nodes : List Node) → problems.Fits (problem s) δ → Good s δ nodes → HasNone s δ
unfolding NoneEach
good_none s δ nodes within good = (refuted_none s (δ ∷ []) nodes good).0 within

pub good_not_bad : (s : System) (fams : List Family) (nodes : List Node) (k : ℕ) → Refute s fams nodes → FirstBad s fams nodes k → ⊥
good_not_bad s [] [] k good bad = bad
good_not_bad s [] (n ∷ ns) k good bad = good
good_not_bad s (δ ∷ rest) [] k good bad = good
good_not_bad s (δ ∷ rest) (n ∷ ns) k good (inl bad) = bad.0 good.0
good_not_bad s (δ ∷ rest) (n ∷ ns) k good (inr bad) = good_not_bad s (below δ n ++ rest) ns bad.1.0 good.1 bad.1.1.0

pub bad_one : (s : System) (fams : List Family) (nodes : List Node) (k j : ℕ) → FirstBad s fams nodes k → FirstBad s fams nodes j → k ≡ j
bad_one s [] [] k j f g = absurd f
bad_one s [] (n ∷ ns) k j f g = f ∙ sym g
bad_one s (δ ∷ rest) [] k j f g = f ∙ sym g
bad_one s (δ ∷ rest) (n ∷ ns) k j (inl f) (inl g) = f.1 ∙ sym g.1
bad_one s (δ ∷ rest) (n ∷ ns) k j (inl f) (inr g) = absurd (f.0 g.0)
bad_one s (δ ∷ rest) (n ∷ ns) k j (inr f) (inl g) = absurd (g.0 f.0)
bad_one s (δ ∷ rest) (n ∷ ns) k j (inr f) (inr g) = f.1.1.1 ∙ (ap suc (bad_one s (below δ n ++ rest) ns f.1.0 g.1.0 f.1.1.0 g.1.1.0) ∙ sym g.1.1.1)
