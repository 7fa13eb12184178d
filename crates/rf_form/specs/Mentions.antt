-- Which variables a formula mentions.
use Rattle.std.specs.Prelude.{◌≡◌, ℕ, Bool, true, false, ◌||◌, eqb}
use Rattle.rf_form.specs.declared.forms.Term.{Term}
use Rattle.rf_form.specs.declared.forms.Term.TheVariants.{Var, Const}
use Rattle.rf_form.specs.Families.{Family}
use Rattle.rf_form.specs.Formulas.{Formula, Truth, Lie, Equal, AtMost, Neg, AllOf, AnyOf, Formulas, no_form, and_form}

abbrev pub is_var : Term → ℕ → Bool
is_var (Var x) y = eqb x y
is_var (Const c) y = false

abbrev mutual
  pub mentions : Formula → ℕ → Bool
  mentions Truth y = false
  mentions Lie y = false
  mentions (Equal s t) y = is_var s y || is_var t y
  mentions (AtMost s t) y = is_var s y || is_var t y
  mentions (Neg f) y = mentions f y
  mentions (AllOf fs) y = some_mentions fs y
  mentions (AnyOf fs) y = some_mentions fs y

  pub some_mentions : Formulas → ℕ → Bool
  some_mentions no_form y = false
  some_mentions (and_form f fs) y = mentions f y || some_mentions fs y

-- v is the one alive place of x
pub record IsSingle (δ : Family) (x v : ℕ) : Type 0 where
  pub there : δ x v ≡ true
  pub only : (w : ℕ) → δ x w ≡ true → w ≡ v

-- the choice has the one alive place of each variable of the formula
abbrev pub AreSingle : Family → (ℕ → ℕ) → Formula → Type 0
AreSingle δ a f = (x : ℕ) → mentions f x ≡ true → IsSingle δ x (a x)

-- the families have the same places for each variable of the formula
abbrev pub AgreeOn : Formula → Family → Family → Type 0
AgreeOn f δ ε = (x : ℕ) → mentions f x ≡ true → (v : ℕ) → δ x v ≡ ε x v
