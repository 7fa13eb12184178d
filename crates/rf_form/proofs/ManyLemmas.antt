-- The value of a list of formulas, from one after the other.
use Rattle.std.proofs.Common.{◌≡◌, ◌⊎◌, ℕ, suc, ◌+◌, Bool, true, false, not, ◌||◌, List, [], ◌∷◌, ◌<◌, length, get_or, drop, drop-cons, refl, sym, ap, ap₂, ◌∙◌, subst, inl, inr, arith}
use Rattle.std.proofs.lemmas.Bool.{both_ways}
use Rattle.rf_form.specs.declared.forms.Form.{Form}
use Rattle.rf_form.specs.declared.forms.Tri.{Tri}
use Rattle.rf_form.specs.declared.forms.Tri.TheVariants as tri
use Rattle.rf_form.specs.Atoms.{Says, many, is_value, is_unknown, value_of, ended, Left}
use Rattle.rf_form.specs.Families.{Family}
use Rattle.rf_form.specs.Formulas.{Formula, Formulas, no_form, and_form}
use Rattle.rf_form.specs.Shown.{form_of, forms_of}
use Rattle.rf_form.specs.Truths.{Is}
use Rattle.rf_form.proofs.Below.{not_both}

-- the form at a place of the list, and those behind it
pub forms_at : (fs xs : List Form) (i : ℕ) (f : Form) → xs ≡ fs → i < length xs → f ≡ get_or xs i f → drop i fs ≡ f ∷ drop (i + 1) fs
forms_at fs xs i f e lt is = let next : suc i ≡ i + 1 = omega arith in subst (λ (l : List Form). drop i l ≡ f ∷ drop (i + 1) l) e
    (drop-cons xs i f lt ∙ ap₂ ◌∷◌ (sym is) (ap (λ (k : ℕ). drop k xs) next))

module _ (vals : List (List ℕ)) (δ : Family) where
  -- a part that has the other value decides nothing
  rest_up : (k : Bool) (f : Formula) (rest : Formulas) → Is vals δ f (not k) → (b : Bool) → Is vals δ (many k rest) b → Is vals δ (many k (and_form f rest)) b
  rest_up false f rest h true r = (h, r)
  rest_up false f rest h false r = inr r
  rest_up true f rest h true r = inr r
  rest_up true f rest h false r = (h, r)

  rest_down : (k : Bool) (f : Formula) (rest : Formulas) → Is vals δ f (not k) → (b : Bool) → Is vals δ (many k (and_form f rest)) b → Is vals δ (many k rest) b
  rest_down false f rest h true r = r.1
  rest_down false f rest h false (inl g) = absurd (not_both vals δ f h g)
  rest_down false f rest h false (inr r) = r
  rest_down true f rest h true (inl g) = absurd (not_both vals δ f g h)
  rest_down true f rest h true (inr r) = r
  rest_down true f rest h false r = r.1

  -- a part that is unknown leaves the deciding value alone
  open_up : (k : Bool) (f : Formula) (rest : Formulas) → Is vals δ (many k rest) k → Is vals δ (many k (and_form f rest)) k
  open_up false f rest r = inr r
  open_up true f rest r = inr r

  open_down : (k : Bool) (f : Formula) (rest : Formulas) → ((b : Bool) → Is vals δ f b → ⊥) → Is vals δ (many k (and_form f rest)) k → Is vals δ (many k rest) k
  open_down false f rest u (inl g) = absurd (u false g)
  open_down false f rest u (inr r) = r
  open_down true f rest u (inl g) = absurd (u true g)
  open_down true f rest u (inr r) = r

  open_never : (k : Bool) (f : Formula) (rest : Formulas) → ((b : Bool) → Is vals δ f b → ⊥) → Is vals δ (many k (and_form f rest)) (not k) → ⊥
  open_never false f rest u r = u true r.0
  open_never true f rest u r = u false r.0

  deciding : (k : Bool) (f : Formula) (rest : Formulas) → Is vals δ f k → Is vals δ (many k (and_form f rest)) k
  deciding false f rest h = inl h
  deciding true f rest h = inl h

  other_value : (k : Bool) (f : Formula) (v : Tri) → Says vals δ f v → is_value v k ≡ false → is_unknown v ≡ false → Is vals δ f (not k)
  other_value false f tri.True h e u = h
  other_value true f tri.True h e u = absurd (both_ways true e refl)
  other_value false f tri.False h e u = absurd (both_ways true e refl)
  other_value true f tri.False h e u = h
  other_value k f tri.Unknown h e u = absurd (both_ways true u refl)

  its_value : (k : Bool) (f : Formula) (v : Tri) → Says vals δ f v → is_value v k ≡ true → Is vals δ f k
  its_value false f tri.True h e = absurd (both_ways false refl e)
  its_value true f tri.True h e = h
  its_value false f tri.False h e = h
  its_value true f tri.False h e = absurd (both_ways false refl e)
  its_value k f tri.Unknown h e = absurd (both_ways false refl e)

  says_value : (k : Bool) (f : Formula) → Is vals δ f k → Says vals δ f (value_of k)
  says_value true f h = h
  says_value false f h = h

  left_same : (k : Bool) (fs rest : Formulas) (f : Formula) (o : Bool) → Left vals δ k fs (and_form f rest) o → Is vals δ f (not k) → Left vals δ k fs rest o
  left_same k fs rest f false way h = λ b. ((λ r. (way b).0 (rest_up k f rest h b r)), (λ r. rest_down k f rest h b ((way b).1 r)))
  left_same k fs rest f true way h = ((λ r. way.0 (rest_up k f rest h k r)), (λ r. rest_down k f rest h k (way.1 r)), way.2)

  left_open : (k : Bool) (fs rest : Formulas) (f : Formula) (o : Bool) → Left vals δ k fs (and_form f rest) o → ((b : Bool) → Is vals δ f b → ⊥) → Left vals δ k fs rest true
  left_open k fs rest f false way u = (
    (λ r. (way k).0 (open_up k f rest r)),
    (λ r. open_down k f rest u ((way k).1 r)),
    (λ r. open_never k f rest u ((way (not k)).1 r)),
  )
  left_open k fs rest f true way u = ((λ r. way.0 (open_up k f rest r)), (λ r. open_down k f rest u (way.1 r)), way.2)

  left_more : (k : Bool) (fs rest : Formulas) (f : Formula) (v : Tri) (o : Bool) → Left vals δ k fs (and_form f rest) o → Says vals δ f v → is_value v k ≡ false
      → Left vals δ k fs rest (o || is_unknown v)
  left_more k fs rest f tri.Unknown false way h e = left_open k fs rest f false way h
  left_more k fs rest f tri.Unknown true way h e = left_open k fs rest f true way h
  left_more k fs rest f tri.True false way h e = left_same k fs rest f false way (other_value k f tri.True h e refl)
  left_more k fs rest f tri.True true way h e = left_same k fs rest f true way (other_value k f tri.True h e refl)
  left_more k fs rest f tri.False false way h e = left_same k fs rest f false way (other_value k f tri.False h e refl)
  left_more k fs rest f tri.False true way h e = left_same k fs rest f true way (other_value k f tri.False h e refl)

  left_is : (k : Bool) (fs rest : Formulas) (o : Bool) → Left vals δ k fs rest o → Is vals δ (many k rest) k → Is vals δ (many k fs) k
  left_is k fs rest false way h = (way k).0 h
  left_is k fs rest true way h = way.0 h

  none_is : (k : Bool) → Is vals δ (many k no_form) (not k)
  none_is false = tt
  none_is true = tt

  none_never : (k : Bool) → Is vals δ (many k no_form) k → ⊥
  none_never false h = h
  none_never true h = h

  either_value : (k b : Bool) (f : Formula) → (Is vals δ f k → ⊥) → (Is vals δ f (not k) → ⊥) → Is vals δ f b → ⊥
  either_value false false f g h = g
  either_value false true f g h = h
  either_value true false f g h = h
  either_value true true f g h = g

  pub left_end : (k : Bool) (fs rest : Formulas) (o : Bool) → rest ≡ no_form → Left vals δ k fs rest o → Says vals δ (many k fs) (ended k o)
  left_end k fs rest false e way = let w = subst (λ (r : Formulas). Left vals δ k fs r false) e way in
      says_value (not k) (many k fs) ((w (not k)).0 (none_is k))
  left_end k fs rest true e way = let w = subst (λ (r : Formulas). Left vals δ k fs r true) e way in
      λ b. either_value k b (many k fs) (λ h. none_never k (w.1 h)) w.2

  pub left_begins : (k : Bool) (fs : Formulas) → Left vals δ k fs fs false
  left_begins k fs = λ b. ((λ h. h), (λ h. h))

  -- over the forms of the code
  pub forms_more : (k : Bool) (fs : List Form) (whole : Formulas) (i : ℕ) (f : Form) (v : Tri) (o : Bool) → drop i fs ≡ f ∷ drop (i + 1) fs
      → Left vals δ k whole (forms_of (drop i fs)) o → Says vals δ (form_of f) v → is_value v k ≡ false
      → Left vals δ k whole (forms_of (drop (i + 1) fs)) (o || is_unknown v)
  forms_more k fs whole i f v o e way h g = left_more k whole (forms_of (drop (i + 1) fs)) (form_of f) v o
      (subst (λ (l : List Form). Left vals δ k whole (forms_of l) o) e way) h g

  pub forms_decide : (k : Bool) (fs : List Form) (whole : Formulas) (i : ℕ) (f : Form) (v : Tri) (o : Bool) → drop i fs ≡ f ∷ drop (i + 1) fs
      → Left vals δ k whole (forms_of (drop i fs)) o → Says vals δ (form_of f) v → is_value v k ≡ true
      → Says vals δ (many k whole) (value_of k)
  forms_decide k fs whole i f v o e way h g = says_value k (many k whole) (left_is k whole (and_form (form_of f) (forms_of (drop (i + 1) fs))) o
      (subst (λ (l : List Form). Left vals δ k whole (forms_of l) o) e way)
      (deciding k (form_of f) (forms_of (drop (i + 1) fs)) (its_value k (form_of f) v h g)))

  pub forms_step : (k : Bool) (fs : List Form) (whole : Formulas) (i : ℕ) (f : Form) (v : Tri) (o p : Bool) → drop i fs ≡ f ∷ drop (i + 1) fs
      → Left vals δ k whole (forms_of (drop i fs)) o → Says vals δ (form_of f) v → is_value v k ≡ false → p ≡ (o || is_unknown v)
      → Left vals δ k whole (forms_of (drop (i + 1) fs)) p
  forms_step k fs whole i f v o p e way h g q = subst (λ (b : Bool). Left vals δ k whole (forms_of (drop (i + 1) fs)) b) (sym q)
      (forms_more k fs whole i f v o e way h g)
