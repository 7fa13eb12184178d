-- A formula looks at the variables that it mentions alone; where these are single, it is what plain truth says.
use Rattle.std.proofs.Common.{◌≡◌, ◌⊎◌, ℕ, Bool, true, false, not, ◌&&◌, ◌||◌, List, eqb, leb, refl, sym, ap, ap₂, ◌∙◌, subst, inl, inr, eq-eqb}
use Rattle.std.proofs.lemmas.Bool.{or_left, or_right}
use Rattle.rf_form.specs.declared.forms.Term.{Term}
use Rattle.rf_form.specs.declared.forms.Term.TheVariants.{Var, Const}
use Rattle.rf_form.specs.Families.{Family}
use Rattle.rf_form.specs.Formulas.{Formula, Truth, Lie, Equal, AtMost, Neg, AllOf, AnyOf, Formulas, no_form, and_form}
use Rattle.rf_form.specs.Truths.{row, value, truth, all_true, any_true, number, Picks, Agree, Is, Each, One}
use Rattle.rf_form.specs.Mentions.{is_var, mentions, some_mentions, IsSingle, AreSingle, AgreeOn}

module _ (vals : List (List ℕ)) (δ ε : Family) where
  picks_local : (s : Term) (a : ℕ → ℕ) → ((x : ℕ) → is_var s x ≡ true → (v : ℕ) → δ x v ≡ ε x v) → Picks δ a s → Picks ε a s
  picks_local (Var x) a same h = sym (same x (eq-eqb x x refl) (a x)) ∙ h
  picks_local (Const c) a same h = tt

  picks_back : (s : Term) (a : ℕ → ℕ) → ((x : ℕ) → is_var s x ≡ true → (v : ℕ) → δ x v ≡ ε x v) → Picks ε a s → Picks δ a s
  picks_back (Var x) a same h = same x (eq-eqb x x refl) (a x) ∙ h
  picks_back (Const c) a same h = tt

  agree_local : (test : ℕ → ℕ → Bool) (s t : Term) (b : Bool) → ((x : ℕ) → (is_var s x || is_var t x) ≡ true → (v : ℕ) → δ x v ≡ ε x v)
      → Agree vals δ test s t b → Agree vals ε test s t b
  agree_local test s t b same agree =
      let on_s = λ (x : ℕ) (h : is_var s x ≡ true). same x (or_left (is_var s x) (is_var t x) h) in
      let on_t = λ (x : ℕ) (h : is_var t x ≡ true). same x (or_right (is_var s x) (is_var t x) h) in
      record {
        some = (agree.some.0, picks_local s agree.some.0 on_s agree.some.1, picks_local t agree.some.0 on_t agree.some.2);
        each = λ a hs ht. agree.each a (picks_back s a on_s hs) (picks_back t a on_t ht);
      }

  mutual
    pub is_local : (f : Formula) (b : Bool) → AgreeOn f δ ε → Is vals δ f b → Is vals ε f b
    is_local Truth b same h = h
    is_local Lie b same h = h
    is_local (Equal s t) b same h = agree_local eqb s t b same h
    is_local (AtMost s t) b same h = agree_local leb s t b same h
    is_local (Neg f) b same h = is_local f (not b) same h
    is_local (AllOf fs) true same h = each_local fs true same h
    is_local (AllOf fs) false same h = one_local fs false same h
    is_local (AnyOf fs) true same h = one_local fs true same h
    is_local (AnyOf fs) false same h = each_local fs false same h

    each_local : (fs : Formulas) (b : Bool) → ((x : ℕ) → some_mentions fs x ≡ true → (v : ℕ) → δ x v ≡ ε x v) → Each vals δ fs b → Each vals ε fs b
    each_local no_form b same h = tt
    each_local (and_form f fs) b same h = (
      is_local f b (λ x m. same x (or_left (mentions f x) (some_mentions fs x) m)) h.0,
      each_local fs b (λ x m. same x (or_right (mentions f x) (some_mentions fs x) m)) h.1,
    )

    one_local : (fs : Formulas) (b : Bool) → ((x : ℕ) → some_mentions fs x ≡ true → (v : ℕ) → δ x v ≡ ε x v) → One vals δ fs b → One vals ε fs b
    one_local no_form b same h = h
    one_local (and_form f fs) b same (inl h) = inl (is_local f b (λ x m. same x (or_left (mentions f x) (some_mentions fs x) m)) h)
    one_local (and_form f fs) b same (inr h) = inr (one_local fs b (λ x m. same x (or_right (mentions f x) (some_mentions fs x) m)) h)

module _ (vals : List (List ℕ)) (δ : Family) (p : ℕ → ℕ) where
  -- the values of the choice
  abbrev chosen : ℕ → ℕ
  chosen x = number vals p (Var x)

  picks_single : (s : Term) → ((x : ℕ) → is_var s x ≡ true → IsSingle δ x (p x)) → Picks δ p s
  picks_single (Var x) single = (single x (eq-eqb x x refl)).there
  picks_single (Const c) single = tt

  number_single : (s : Term) → ((x : ℕ) → is_var s x ≡ true → IsSingle δ x (p x)) → (a : ℕ → ℕ) → Picks δ a s → number vals a s ≡ value chosen s
  number_single (Var x) single a h = ap (λ (v : ℕ). number vals (λ _. v) (Var x)) ((single x (eq-eqb x x refl)).only (a x) h)
  number_single (Const c) single a h = refl

  agree_single : (test : ℕ → ℕ → Bool) (s t : Term) → ((x : ℕ) → (is_var s x || is_var t x) ≡ true → IsSingle δ x (p x))
      → Agree vals δ test s t (test (value chosen s) (value chosen t))
  agree_single test s t single =
      let on_s = λ (x : ℕ) (h : is_var s x ≡ true). single x (or_left (is_var s x) (is_var t x) h) in
      let on_t = λ (x : ℕ) (h : is_var t x ≡ true). single x (or_right (is_var s x) (is_var t x) h) in
      record {
        some = (p, picks_single s on_s, picks_single t on_t);
        each = λ a hs ht. ap₂ test (number_single s on_s a hs) (number_single t on_t a ht);
      }

  not_twice : (b : Bool) → b ≡ not (not b)
  not_twice true = refl
  not_twice false = refl

  all_join : (f : Formula) (fs : Formulas) (b c : Bool) → Is vals δ f b → Is vals δ (AllOf fs) c → Is vals δ (AllOf (and_form f fs)) (b && c)
  all_join f fs true true h g = (h, g)
  all_join f fs true false h g = inr g
  all_join f fs false c h g = inl h

  any_join : (f : Formula) (fs : Formulas) (b c : Bool) → Is vals δ f b → Is vals δ (AnyOf fs) c → Is vals δ (AnyOf (and_form f fs)) (b || c)
  any_join f fs true c h g = inl h
  any_join f fs false true h g = inr g
  any_join f fs false false h g = (h, g)

  mutual
    pub is_truth : (f : Formula) → AreSingle δ p f → Is vals δ f (truth chosen f)
    is_truth Truth single = refl
    is_truth Lie single = refl
    is_truth (Equal s t) single = agree_single eqb s t single
    is_truth (AtMost s t) single = agree_single leb s t single
    is_truth (Neg f) single = subst (Is vals δ f) (not_twice (truth chosen f)) (is_truth f single)
    is_truth (AllOf fs) single = all_truth fs single
    is_truth (AnyOf fs) single = any_truth fs single

    all_truth : (fs : Formulas) → ((x : ℕ) → some_mentions fs x ≡ true → IsSingle δ x (p x)) → Is vals δ (AllOf fs) (all_true chosen fs)
    all_truth no_form single = tt
    all_truth (and_form f fs) single = all_join f fs (truth chosen f) (all_true chosen fs)
        (is_truth f (λ x m. single x (or_left (mentions f x) (some_mentions fs x) m)))
        (all_truth fs (λ x m. single x (or_right (mentions f x) (some_mentions fs x) m)))

    any_truth : (fs : Formulas) → ((x : ℕ) → some_mentions fs x ≡ true → IsSingle δ x (p x)) → Is vals δ (AnyOf fs) (any_true chosen fs)
    any_truth no_form single = tt
    any_truth (and_form f fs) single = any_join f fs (truth chosen f) (any_true chosen fs)
        (is_truth f (λ x m. single x (or_left (mentions f x) (some_mentions fs x) m)))
        (any_truth fs (λ x m. single x (or_right (mentions f x) (some_mentions fs x) m)))
