-- What is counted of added programs: tuples, and atoms that are open under the first domains. Both are those of the bodies with
-- each quantifier unfolded to the end.
use Rattle.std.specs.Prelude.{◌≡◌, ◌⊎◌, ℕ, suc, ◌+◌, Bool, true, List, [], ◌∷◌, map, sum}
use Rattle.rf_form.specs.Families.{Family}
use Rattle.rf_form.specs.Formulas.{Formula, Truth, Lie, Equal, AtMost, Neg, AllOf, AnyOf, Formulas, no_form, and_form}
use Rattle.rf_form.specs.Truths.{Is}
use Rattle.rf_rtree.specs.declared.checked.Checked.{Checked}
use Rattle.rf_rtree.specs.declared.forms.RForm.{RForm}
use Rattle.rf_rtree.specs.declared.forms.RForm.TheOpen.{RForm-F, Quant-F}
use Rattle.rf_rtree.specs.declared.forms.RForm.TheFolds.{fold-RForm}
use Rattle.rf_rtree.specs.declared.items.Item.{Item}
use Rattle.rf_facts.specs.declared.properties.PropTable.{PropTable}
use Rattle.rf_inst.specs.Bindings.{Bound, bind}
use Rattle.rf_inst.specs.Directs.{World}
use Rattle.rf_inst.specs.Pairs.{Scene, pairs}
use Rattle.rf_inst.specs.Programs.{item_pairs, scene_of, body_at}

-- in a scope: the tuples of a quantifier, and those of the quantifiers in its body at each of them
abbrev pub count_step : RForm-F (List Bound → ℕ) (List Bound → ℕ) → List Bound → ℕ
count_step (RForm-F.Implies left right) scope = left scope + right scope
count_step (RForm-F.Or left right) scope = left scope + right scope
count_step (RForm-F.And left right) scope = left scope + right scope
count_step (RForm-F.Not inner) scope = inner scope
count_step (RForm-F.Every quant) scope = quant scope
count_step (RForm-F.Exists quant) scope = quant scope
count_step (RForm-F.Truth value) scope = 0
count_step (RForm-F.Pred ask) scope = 0
count_step (RForm-F.Cmp left how right) scope = 0

abbrev pub quant_count : Scene → Quant-F (List Bound → ℕ) (List Bound → ℕ) → List Bound → ℕ
quant_count scene quant scope =
    sum (map (λ tuple. suc (quant.body (bind quant.vars tuple scope))) (pairs scene quant.vars quant.asks scope))

unfoldable pub unfolded : Scene → RForm → List Bound → ℕ
unfolded scene = fold-RForm (List Bound → ℕ) (List Bound → ℕ) count_step (quant_count scene)

abbrev pub item_count : Scene → Item → ℕ
item_count scene item = sum (map (λ tuple. suc (unfolded scene item.body (bind item.vars tuple []))) (item_pairs scene item))

-- the tuples of programs
abbrev pub tuple_count : List (List (List ℕ)) → PropTable → List Checked → ℕ
tuple_count facts table programs =
    sum (map (λ checked. sum (map (item_count (scene_of facts table checked)) checked.prog.items)) programs)

-- an atom counts 1 where it is neither true nor false
abbrev pub AtomCount : List (List ℕ) → Family → Formula → ℕ → Type 0
AtomCount vals δ f n = ((b : Bool) × Is vals δ f b × (n ≡ 0)) ⊎ (((b : Bool) → Is vals δ f b → ⊥) × (n ≡ 1))

abbrev mutual
  -- the formula has so many open atoms
  pub OpenAtoms : List (List ℕ) → Family → Formula → ℕ → Type 0
  OpenAtoms vals δ Truth n = n ≡ 0
  OpenAtoms vals δ Lie n = n ≡ 0
  OpenAtoms vals δ (Equal s t) n = AtomCount vals δ (Equal s t) n
  OpenAtoms vals δ (AtMost s t) n = AtomCount vals δ (AtMost s t) n
  OpenAtoms vals δ (Neg f) n = OpenAtoms vals δ f n
  OpenAtoms vals δ (AllOf fs) n = OpenIn vals δ fs n
  OpenAtoms vals δ (AnyOf fs) n = OpenIn vals δ fs n

  pub OpenIn : List (List ℕ) → Family → Formulas → ℕ → Type 0
  OpenIn vals δ no_form n = n ≡ 0
  OpenIn vals δ (and_form f fs) n = (k : ℕ) × (m : ℕ) × OpenAtoms vals δ f k × OpenIn vals δ fs m × (n ≡ k + m)

-- a body that is true has none that counts
abbrev pub LiveAtoms : List (List ℕ) → Family → Formula → ℕ → Type 0
LiveAtoms vals δ f n = (Is vals δ f true × (n ≡ 0)) ⊎ ((Is vals δ f true → ⊥) × OpenAtoms vals δ f n)

-- the live atoms of bodies
abbrev pub AtomsOf : List (List ℕ) → Family → List Formula → ℕ → Type 0
AtomsOf vals δ [] n = n ≡ 0
AtomsOf vals δ (f ∷ fs) n = (k : ℕ) × (m : ℕ) × LiveAtoms vals δ f k × AtomsOf vals δ fs m × (n ≡ k + m)

-- the bodies of an item at its tuples
abbrev pub item_bodies : World → Item → List Formula
item_bodies world item = map (body_at world item) (item_pairs world.scene item)
