-- The formula of a body is made of those of its parts.
use Rattle.std.proofs.Common.{◌≡◌, ℕ, ◌+◌, ◌<◌, Bool, true, false, not, List, [], ◌∷◌, ◌++◌, drop, get_or, length, map, take, slice_get, IfOk, refl, sym, ap, ap₂, ◌∙◌, subst, inl, inr}
use Rattle.std.specs.declared.result.Result.{Result}
use Rattle.std.proofs.lemmas.Result.{IfOk-weaker}
use Rattle.std.proofs.lemmas.List.{map-append, take-append-drop, take_more}
use Rattle.rf_rtree.specs.declared.forms.Comp.{Comp}
use Rattle.rf_form.specs.declared.forms.Form.{Form}
use Rattle.rf_form.specs.Families.{Family}
use Rattle.rf_form.specs.Formulas.{Formula, AllOf, AnyOf, Neg}
use Rattle.rf_form.specs.Shown.{form_of, listed}
use Rattle.rf_form.specs.Truths.{Is, One}
use Rattle.rf_inst.specs.Directs.{World, atom, boolean, both, constant_form, is_one, slot_value}
use Rattle.rf_inst.specs.Values.{Value}
use Rattle.rf_join.specs.declared.queries.Asked.{Asked}
use Rattle.rf_join.specs.declared.queries.Range.{Range}
use Rattle.rf_join.specs.Joins.{all_met, going_on, number_at}
use Rattle.rf_bodies.specs.Alike.{Alike}
use Rattle.rf_bodies.specs.declared.bodies.Body.{Body}
use Rattle.rf_bodies.specs.declared.bodies.Body.TheVariants as b
use Rattle.rf_bodies.specs.declared.bodies.Many.{Many}
use Rattle.rf_bodies.specs.declared.bodies.Operand.{Operand}
use Rattle.rf_bodies.specs.declared.gathered.Gathered.{Gathered}
use Rattle.rf_bodies.specs.Bodies.{at_numbers, value_at}
use Rattle.rf_bodies.specs.Gathered.{so_far, whole}
use Rattle.rf_bodies.proofs.Gathering.{still_decided}
use Rattle.rf_bodies.proofs.Joining.{alike}
use Rattle.rf_bodies.proofs.Nodes.{at_implies, at_or, at_and, at_not, at_every, at_exists, at_truth, at_slot, at_derived, at_compare}
use Rattle.rf_make.specs.declared.makers.Maker.{Maker}
use Rattle.rf_make.specs.Indexes.{IsIndex}
use Rattle.rf_make.specs.Makers.{Knows, Tells}
use Rattle.rf_make.proofs.Leaving.{leaves}

on : (f g h : Formula) → Alike f g → Alike g h → Alike f h
on f g h one other vals δ b = (λ i. (other vals δ b).0 ((one vals δ b).0 i), λ i. (one vals δ b).1 ((other vals δ b).1 i))

denied : (f g : Formula) → Alike f g → Alike (Neg f) (Neg g)
denied f g one vals δ b = one vals δ (not b)

module _ (vals : List (List ℕ)) (δ : Family) (b : Bool) (f g f' g' : Formula) where
  one_of_two : (Is vals δ f b → Is vals δ f' b) → (Is vals δ g b → Is vals δ g' b) → One vals δ (both f g) b → One vals δ (both f' g') b
  one_of_two one other (inl h) = inl (one h)
  one_of_two one other (inr (inl h)) = inr (inl (other h))
  one_of_two one other (inr (inr none)) = absurd none

both_alike : (k : Bool) (f g f' g' : Formula) → Alike f f' → Alike g g' → Alike (whole k (both f g)) (whole k (both f' g'))
both_alike true f g f' g' one other vals δ true =
    (λ e. ((one vals δ true).0 e.0, ((other vals δ true).0 e.1.0, tt)), λ e. ((one vals δ true).1 e.0, ((other vals δ true).1 e.1.0, tt)))
both_alike true f g f' g' one other vals δ false =
    (one_of_two vals δ false f g f' g' (one vals δ false).0 (other vals δ false).0, one_of_two vals δ false f' g' f g (one vals δ false).1 (other vals δ false).1)
both_alike false f g f' g' one other vals δ true =
    (one_of_two vals δ true f g f' g' (one vals δ true).0 (other vals δ true).0, one_of_two vals δ true f' g' f g (one vals δ true).1 (other vals δ true).1)
both_alike false f g f' g' one other vals δ false =
    (λ e. ((one vals δ false).0 e.0, ((other vals δ false).0 e.1.0, tt)), λ e. ((one vals δ false).1 e.0, ((other vals δ false).1 e.1.0, tt)))

-- two formulas joined, and one that decides
joined_made : (k : Bool) (x y left right made : Formula) → Alike left x → Alike right y → Alike made (whole k (both left right)) → Alike made (whole k (both x y))
joined_made k x y left right made one other is = on made (whole k (both left right)) (whole k (both x y)) is (both_alike k left right x y one other)

joined_decided : (k : Bool) (x y left : Formula) → left ≡ constant_form (not k) → Alike left x → Alike left (whole k (both x y))
joined_decided k x y left is one = joined_made k x y left y left one (alike y y refl)
    (subst (λ (f : Formula). Alike f (whole k (both f y))) (sym is) (still_decided k y))

module _ (maker : Maker) (taken : List ℕ) where
  -- what a form is to tell of a body
  abbrev pub Of : Body → Form → Type 0
  Of body form = Tells maker form (λ world. at_numbers world body taken)

  shown : (body : Body) (form : Form) (gives : World → Formula) → ((world : World) → at_numbers world body taken ≡ gives world) → Tells maker form gives → Of body form
  shown body form gives is tells world knows = subst (Alike (form_of form)) (sym (is world)) (tells world knows)

  moved : (body same : Body) (form : Form) → body ≡ same → Of same form → Of body form
  moved body same form is tells = subst (λ (it : Body). Of it form) (sym is) tells

  module _ (body x y got_x got_y : Body) (left right made : Form) where
    pub or_tells : body ≡ b.Or x y → got_x ≡ x → got_y ≡ y → Of got_x left → Of got_y right → Alike (form_of made) (AnyOf (both (form_of left) (form_of right))) → Of body made
    or_tells is is_x is_y one other join = moved body (b.Or x y) made is (shown (b.Or x y) made (λ world. AnyOf (both (at_numbers world x taken) (at_numbers world y taken))) (λ world. at_or world x y taken)
        (λ world knows. joined_made false (at_numbers world x taken) (at_numbers world y taken) (form_of left) (form_of right) (form_of made)
        (moved x got_x left (sym is_x) one world knows) (moved y got_y right (sym is_y) other world knows) join))

    pub and_tells : body ≡ b.And x y → got_x ≡ x → got_y ≡ y → Of got_x left → Of got_y right → Alike (form_of made) (AllOf (both (form_of left) (form_of right))) → Of body made
    and_tells is is_x is_y one other join = moved body (b.And x y) made is (shown (b.And x y) made (λ world. AllOf (both (at_numbers world x taken) (at_numbers world y taken))) (λ world. at_and world x y taken)
        (λ world knows. joined_made true (at_numbers world x taken) (at_numbers world y taken) (form_of left) (form_of right) (form_of made)
        (moved x got_x left (sym is_x) one world knows) (moved y got_y right (sym is_y) other world knows) join))

    pub implies_tells : (opposite : Form) → body ≡ b.Implies x y → got_x ≡ x → got_y ≡ y → Of got_x left → Of got_y right → Alike (form_of opposite) (Neg (form_of left))
        → Alike (form_of made) (AnyOf (both (form_of opposite) (form_of right))) → Of body made
    implies_tells opposite is is_x is_y one other neg join = moved body (b.Implies x y) made is
        (shown (b.Implies x y) made (λ world. AnyOf (both (Neg (at_numbers world x taken)) (at_numbers world y taken))) (λ world. at_implies world x y taken)
        (λ world knows. joined_made false (Neg (at_numbers world x taken)) (at_numbers world y taken) (form_of opposite) (form_of right) (form_of made)
        (on (form_of opposite) (Neg (form_of left)) (Neg (at_numbers world x taken)) neg (denied (form_of left) (at_numbers world x taken) (moved x got_x left (sym is_x) one world knows)))
        (moved y got_y right (sym is_y) other world knows) join))

  module _ (body x y got : Body) (left : Form) where
    pub or_left : body ≡ b.Or x y → got ≡ x → Of got left → form_of left ≡ constant_form true → Of body left
    or_left is is_x one decided = moved body (b.Or x y) left is (shown (b.Or x y) left (λ world. AnyOf (both (at_numbers world x taken) (at_numbers world y taken))) (λ world. at_or world x y taken)
        (λ world knows. joined_decided false (at_numbers world x taken) (at_numbers world y taken) (form_of left) decided (moved x got left (sym is_x) one world knows)))

    pub and_left : body ≡ b.And x y → got ≡ x → Of got left → form_of left ≡ constant_form false → Of body left
    and_left is is_x one decided = moved body (b.And x y) left is (shown (b.And x y) left (λ world. AllOf (both (at_numbers world x taken) (at_numbers world y taken))) (λ world. at_and world x y taken)
        (λ world knows. joined_decided true (at_numbers world x taken) (at_numbers world y taken) (form_of left) decided (moved x got left (sym is_x) one world knows)))

    pub implies_left : (opposite : Form) → body ≡ b.Implies x y → got ≡ x → Of got left → Alike (form_of opposite) (Neg (form_of left)) → form_of opposite ≡ constant_form true → Of body opposite
    implies_left opposite is is_x one neg decided = moved body (b.Implies x y) opposite is
        (shown (b.Implies x y) opposite (λ world. AnyOf (both (Neg (at_numbers world x taken)) (at_numbers world y taken))) (λ world. at_implies world x y taken)
        (λ world knows. joined_decided false (Neg (at_numbers world x taken)) (at_numbers world y taken) (form_of opposite) decided
        (on (form_of opposite) (Neg (form_of left)) (Neg (at_numbers world x taken)) neg (denied (form_of left) (at_numbers world x taken) (moved x got left (sym is_x) one world knows)))))

  pub not_tells : (body x got : Body) (inner made : Form) → body ≡ b.Not x → got ≡ x → Of got inner → Alike (form_of made) (Neg (form_of inner)) → Of body made
  not_tells body x got inner made is is_x one neg = moved body (b.Not x) made is (shown (b.Not x) made (λ world. Neg (at_numbers world x taken)) (λ world. at_not world x taken)
      (λ world knows. on (form_of made) (Neg (form_of inner)) (Neg (at_numbers world x taken)) neg (denied (form_of inner) (at_numbers world x taken) (moved x got inner (sym is_x) one world knows))))

  module _ {X : Type 0} (body x y got_x got_y : Body) (left right : Form) (result : Result Form X) where
    pub or_made : body ≡ b.Or x y → got_x ≡ x → got_y ≡ y → Of got_x left → Of got_y right → IfOk result (λ made. Alike (form_of made) (AnyOf (both (form_of left) (form_of right)))) → IfOk result (Of body)
    or_made is is_x is_y one other join = IfOk-weaker result (λ made. Alike (form_of made) (AnyOf (both (form_of left) (form_of right)))) (Of body)
        (λ made it. or_tells body x y got_x got_y left right made is is_x is_y one other it) join

    pub and_made : body ≡ b.And x y → got_x ≡ x → got_y ≡ y → Of got_x left → Of got_y right → IfOk result (λ made. Alike (form_of made) (AllOf (both (form_of left) (form_of right)))) → IfOk result (Of body)
    and_made is is_x is_y one other join = IfOk-weaker result (λ made. Alike (form_of made) (AllOf (both (form_of left) (form_of right)))) (Of body)
        (λ made it. and_tells body x y got_x got_y left right made is is_x is_y one other it) join

    pub implies_made : (opposite : Form) → body ≡ b.Implies x y → got_x ≡ x → got_y ≡ y → Of got_x left → Of got_y right → Alike (form_of opposite) (Neg (form_of left))
        → IfOk result (λ made. Alike (form_of made) (AnyOf (both (form_of opposite) (form_of right)))) → IfOk result (Of body)
    implies_made opposite is is_x is_y one other neg join = IfOk-weaker result (λ made. Alike (form_of made) (AnyOf (both (form_of opposite) (form_of right)))) (Of body)
        (λ made it. implies_tells body x y got_x got_y left right made opposite is is_x is_y one other neg it) join

  pub not_made : {X : Type 0} (body x got : Body) (inner : Form) (result : Result Form X) → body ≡ b.Not x → got ≡ x → Of got inner → IfOk result (λ made. Alike (form_of made) (Neg (form_of inner))) → IfOk result (Of body)
  not_made body x got inner result is is_x one neg = IfOk-weaker result (λ made. Alike (form_of made) (Neg (form_of inner))) (Of body) (λ made it. not_tells body x got inner made is is_x one it) neg

  -- a leaf
  exactly : (body : Body) (form : Form) (gives : World → Formula) → ((world : World) → at_numbers world body taken ≡ gives world) → ((world : World) → Knows maker world → form_of form ≡ gives world) → Of body form
  exactly body form gives is made = shown body form gives is (λ world knows. alike (form_of form) (gives world) (made world knows))

  pub truth_tells : (body : Body) (value : Bool) (made : Form) → body ≡ b.Truth value → form_of made ≡ constant_form value → Of body made
  truth_tells body value made is e = moved body (b.Truth value) made is (exactly (b.Truth value) made (λ world. constant_form value) (λ world. at_truth world value taken) (λ world knows. e))

  pub slot_tells : (body : Body) (places got : List ℕ) (value : Value) (made : Form) → body ≡ b.Slot places → got ≡ places
      → ((world : World) → IsIndex world.table maker.index.now → value ≡ slot_value world (map (number_at taken) got)) → form_of made ≡ is_one value → Of body made
  slot_tells body places got value made is same means e = moved body (b.Slot places) made is (exactly (b.Slot places) made (λ world. is_one (slot_value world (map (number_at taken) places))) (λ world. at_slot world places taken)
      (λ world knows. e ∙ ap is_one (means world knows.index ∙ ap (λ (l : List ℕ). slot_value world (map (number_at taken) l)) same)))

  pub derived_tells : (body : Body) (which : ℕ) (places got : List ℕ) (value : Value) (made : Form) → body ≡ b.Derived which places → got ≡ places
      → ((world : World) → Knows maker world → value ≡ boolean (slice_get world.derived which) (map (number_at taken) got)) → form_of made ≡ is_one value → Of body made
  derived_tells body which places got value made is same means e = moved body (b.Derived which places) made is
      (exactly (b.Derived which places) made (λ world. is_one (boolean (slice_get world.derived which) (map (number_at taken) places))) (λ world. at_derived world which places taken)
      (λ world knows. e ∙ ap is_one (means world knows ∙ ap (λ (l : List ℕ). boolean (slice_get world.derived which) (map (number_at taken) l)) same)))

  pub compare_tells : (body : Body) (left : Operand) (how : Comp) (right : Operand) (one other : Value) (made : Form) → body ≡ b.Compare left how right
      → ((world : World) → IsIndex world.table maker.index.now → one ≡ value_at world taken left) → ((world : World) → IsIndex world.table maker.index.now → other ≡ value_at world taken right)
      → form_of made ≡ atom one how other → Of body made
  compare_tells body left how right one other made is one_is other_is e = moved body (b.Compare left how right) made is
      (exactly (b.Compare left how right) made (λ world. atom (value_at world taken left) how (value_at world taken right)) (λ world. at_compare world left how right taken)
      (λ world knows. e ∙ ap₂ (λ (l r : Value). atom l how r) (one_is world knows.index) (other_is world knows.index)))

  pub compare_made : {X : Type 0} (body : Body) (left : Operand) (how : Comp) (right : Operand) (one other : Value) (result : Result Form X) → body ≡ b.Compare left how right
      → ((world : World) → IsIndex world.table maker.index.now → one ≡ value_at world taken left) → ((world : World) → IsIndex world.table maker.index.now → other ≡ value_at world taken right)
      → IfOk result (λ made. form_of made ≡ atom one how other) → IfOk result (Of body)
  compare_made body left how right one other result is one_is other_is e = IfOk-weaker result (λ made. form_of made ≡ atom one how other) (Of body)
      (λ made it. compare_tells body left how right one other made is one_is other_is it) e

  -- a quantifier, once its tuples are found
  module _ (body : Body) (many : Many) (ranges : List Range) (asks : List Asked) (found all : List (List ℕ)) where
    abbrev pub Found : Type 0
    Found = (ranges ≡ many.ranges) × (asks ≡ many.asks) × (found ≡ going_on (all_met maker.facts.now asks) ranges taken) × (all ≡ found)

    there : Found → (world : World) → Knows maker world → all ≡ going_on (all_met world.scene.facts many.asks) many.ranges taken
    there is world knows = is.3 ∙ (is.2 ∙ (ap₂ (λ (rs : List Range) (qs : List Asked). going_on (all_met maker.facts.now qs) rs taken) is.0 is.1
        ∙ ap (λ (facts : List (List (List ℕ))). going_on (all_met facts many.asks) many.ranges taken) (sym knows.facts)))

    pub every_tells : (made : Form) → body ≡ b.Every many → Found → Tells maker made (λ world. whole true (listed (map (at_numbers world many.body) all))) → Of body made
    every_tells made is found_is tells = moved body (b.Every many) made is
        (λ world knows. subst (Alike (form_of made)) (sym (at_every world many taken ∙ ap (λ (ts : List (List ℕ)). AllOf (listed (map (at_numbers world many.body) ts))) (sym (there found_is world knows)))) (tells world knows))

    pub exists_tells : (made : Form) → body ≡ b.Exists many → Found → Tells maker made (λ world. whole false (listed (map (at_numbers world many.body) all))) → Of body made
    exists_tells made is found_is tells = moved body (b.Exists many) made is
        (λ world knows. subst (Alike (form_of made)) (sym (at_exists world many taken ∙ ap (λ (ts : List (List ℕ)). AnyOf (listed (map (at_numbers world many.body) ts))) (sym (there found_is world knows)))) (tells world knows))

  pub every_made : {X : Type 0} (body : Body) (many : Many) (ranges : List Range) (asks : List Asked) (found all : List (List ℕ)) (result : Result Form X) → body ≡ b.Every many → Found body many ranges asks found all
      → IfOk result (λ made. Tells maker made (λ world. whole true (listed (map (at_numbers world many.body) all)))) → IfOk result (Of body)
  every_made body many ranges asks found all result is found_is e = IfOk-weaker result (λ made. Tells maker made (λ world. whole true (listed (map (at_numbers world many.body) all)))) (Of body)
      (λ made it. every_tells body many ranges asks found all made is found_is it) e

  pub exists_made : {X : Type 0} (body : Body) (many : Many) (ranges : List Range) (asks : List Asked) (found all : List (List ℕ)) (result : Result Form X) → body ≡ b.Exists many → Found body many ranges asks found all
      → IfOk result (λ made. Tells maker made (λ world. whole false (listed (map (at_numbers world many.body) all)))) → IfOk result (Of body)
  exists_made body many ranges asks found all result is found_is e = IfOk-weaker result (λ made. Tells maker made (λ world. whole false (listed (map (at_numbers world many.body) all)))) (Of body)
      (λ made it. exists_tells body many ranges asks found all made is found_is it) e

-- the tuples of a quantifier, one after the other
module _ (maker : Maker) (body : Body) (k : Bool) (found : List (List ℕ)) where
  -- what was gathered at a front of the tuples
  abbrev pub Front : List (List ℕ) → Gathered → Type 0
  Front front gathered = (world : World) → Knows maker world → Alike (so_far gathered) (whole k (listed (map (at_numbers world body) front)))

  pub front_none : (gathered : Gathered) → so_far gathered ≡ whole k (listed []) → Front [] gathered
  front_none gathered is world knows = alike (so_far gathered) (whole k (listed [])) is

  pub front_more : (old new : Gathered) (i : ℕ) (got : Body) (numbers taken : List ℕ) (form : Form) → i < length found → numbers ≡ get_or found i numbers → old.all ≡ k → Front (take i found) old
      → got ≡ body → taken ≡ numbers → Tells maker form (λ world. at_numbers world got taken)
      → ((gs : List Formula) (g : Formula) → Alike (so_far old) (whole old.all (listed gs)) → Alike (form_of form) g → Alike (so_far new) (whole old.all (listed (gs ++ g ∷ []))))
      → Front (take (i + 1) found) new
  front_more old new i got numbers taken form lt is all front same_body same tells grown world knows =
      subst (λ (gs : List Formula). Alike (so_far new) (whole k (listed gs)))
      (sym (ap (map (at_numbers world body)) (take_more found i numbers lt) ∙ (map-append (at_numbers world body) (take i found) (get_or found i numbers ∷ [])
      ∙ ap (λ (n : List ℕ). map (at_numbers world body) (take i found) ++ at_numbers world body n ∷ []) (sym is))))
      (subst (λ (k : Bool). Alike (so_far new) (whole k (listed (map (at_numbers world body) (take i found) ++ at_numbers world body numbers ∷ [])))) all
      (grown (map (at_numbers world body) (take i found)) (at_numbers world body numbers)
      (subst (λ (k : Bool). Alike (so_far old) (whole k (listed (map (at_numbers world body) (take i found))))) (sym all) (front world knows))
      (subst (λ (f : Formula). Alike (form_of form) f) (ap₂ (λ (it : Body) (n : List ℕ). at_numbers world it n) same_body same) (tells world knows))))

  pub front_all : (gathered : Gathered) (i : ℕ) → gathered.all ≡ k → gathered.decided ≡ true → Front (take i found) gathered → Front found gathered
  front_all gathered i all decided front world knows =
      subst (λ (gs : List Formula). Alike (so_far gathered) (whole k (listed gs)))
      (sym (map-append (at_numbers world body) (take i found) (drop i found)) ∙ ap (map (at_numbers world body)) (take-append-drop i found))
      (subst (λ (k : Bool). Alike (so_far gathered) (whole k (listed (map (at_numbers world body) (take i found) ++ map (at_numbers world body) (drop i found))))) all
      (leaves gathered (map (at_numbers world body) (take i found)) (map (at_numbers world body) (drop i found)) decided
      (subst (λ (k : Bool). Alike (so_far gathered) (whole k (listed (map (at_numbers world body) (take i found))))) (sym all) (front world knows))))

  pub ended : (gathered : Gathered) (form : Form) → Front found gathered → Alike (form_of form) (so_far gathered) → Tells maker form (λ world. whole k (listed (map (at_numbers world body) found)))
  ended gathered form front made world knows = on (form_of form) (so_far gathered) (whole k (listed (map (at_numbers world body) found))) made (front world knows)
