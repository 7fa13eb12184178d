-- What Kleene's value tells of a formula's falsity.
use Rattle.std.proofs.Common.{◌≡◌, ℕ, Bool, true, false, List, subst, sym}
use Rattle.rf_form.specs.Families.{Family}
use Rattle.rf_form.specs.Formulas.{Formula}
use Rattle.rf_form.specs.Truths.{Is}
use Rattle.rf_form.proofs.Below.{not_both}

moved : (vals ws : List (List ℕ)) (δ : Family) (f g : Formula) (b : Bool) → ws ≡ vals → f ≡ g → Is vals δ g b → Is ws δ f b
moved vals ws δ f g b e h so = subst (λ (us : List (List ℕ)). Is us δ f b) (sym e) (subst (λ (k : Formula). Is vals δ k b) (sym h) so)

pub true_not_false : (vals ws : List (List ℕ)) (δ : Family) (f g : Formula) → ws ≡ vals → f ≡ g → Is ws δ f true → Is vals δ g false → ⊥
true_not_false vals ws δ f g e h says so = not_both ws δ f says (moved vals ws δ f g false e h so)

pub unknown_not_false : (vals ws : List (List ℕ)) (δ : Family) (f g : Formula) → ws ≡ vals → f ≡ g → ((b : Bool) → Is ws δ f b → ⊥) → Is vals δ g false → ⊥
unknown_not_false vals ws δ f g e h says so = says false (moved vals ws δ f g false e h so)
