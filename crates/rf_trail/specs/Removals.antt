-- What is left of a family after a list of removals.
use Rattle.std.specs.Prelude.{◌≡◌, refl, ℕ, Bool, true, false, not, ◌&&◌, ◌||◌, eqb, List, [], ◌∷◌}
use Rattle.std.proofs.Math.Path.{fun_ext}
use Rattle.rf_form.specs.Families.{Family}

-- the place v of x was removed
abbrev pub is_removed : List (ℕ × ℕ) → ℕ → ℕ → Bool
is_removed [] x v = false
is_removed (r ∷ rs) x v = (eqb r.0 x && eqb r.1 v) || is_removed rs x v

unfoldable pub left : Family → List (ℕ × ℕ) → Family
left first rs = λ x v. first x v && not (is_removed rs x v)

-- no removal stands twice
abbrev pub are_once : List (ℕ × ℕ) → Bool
are_once [] = true
are_once (r ∷ rs) = not (is_removed rs r.0 r.1) && are_once rs

-- the domains from which the removals led: what is left, and what was removed
unfoldable pub began : Family → List (ℕ × ℕ) → Family
began δ rs = λ x v. δ x v || is_removed rs x v

-- nothing that was removed is alive
abbrev pub AreGone : Family → List (ℕ × ℕ) → Type 0
AreGone δ rs = (x v : ℕ) → is_removed rs x v ≡ true → δ x v ≡ false

-- what is left of what it began with
left_of : (b c : Bool) → (c ≡ true → b ≡ false) → b ≡ ((b || c) && not c)
left_of true true h = h refl
left_of true false h = refl
left_of false true h = refl
left_of false false h = refl

pub left_began : (δ : Family) (rs : List (ℕ × ℕ)) → AreGone δ rs → δ ≡ left (began δ rs) rs
unfolding left began
left_began δ rs gone = fun_ext (λ x. fun_ext (λ v. left_of (δ x v) (is_removed rs x v) (gone x v)))
