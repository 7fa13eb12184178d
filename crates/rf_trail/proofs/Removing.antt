-- Lists of removals, and what they leave of a family.
use Rattle.std.proofs.Common.{◌≡◌, ℕ, Bool, true, false, not, ◌&&◌, ◌||◌, eqb, List, [], ◌∷◌, ◌++◌, refl, sym, ap, ap₂, ◌∙◌, eq-eqb, eqb-true}
use Rattle.std.proofs.Math.Path.{fun_ext}
use Rattle.std.proofs.lemmas.Bool.{both_ways, and_parts, and_from, or_parts, or_right, or_from, not-true, not_from_false, false_from_ne_true}
use Rattle.rf_form.specs.Families.{Family, without}
use Rattle.rf_form.proofs.Firsts.{same_bool}
use Rattle.rf_trail.specs.Removals.{is_removed, are_once, began, AreGone}

or_none : (b : Bool) → (b || false) ≡ b
or_none true = refl
or_none false = refl

or_assoc : (a b c : Bool) → (a || (b || c)) ≡ ((a || b) || c)
or_assoc true b c = refl
or_assoc false b c = refl

pub eqb_sym : (a b : ℕ) → eqb a b ≡ eqb b a
eqb_sym a b = same_bool (eqb a b) (eqb b a) (λ h. eq-eqb b a (sym (eqb-true a b h))) (λ h. eq-eqb a b (sym (eqb-true b a h)))

-- one removal more
pub removed_more : (rs : List (ℕ × ℕ)) (x v y w : ℕ) → is_removed (rs ++ (x, v) ∷ []) y w ≡ (is_removed rs y w || (eqb x y && eqb v w))
removed_more [] x v y w = or_none (eqb x y && eqb v w)
removed_more (r ∷ rs) x v y w = ap (λ (b : Bool). (eqb r.0 y && eqb r.1 w) || b) (removed_more rs x v y w)
    ∙ or_assoc (eqb r.0 y && eqb r.1 w) (is_removed rs y w) (eqb x y && eqb v w)

pub removed_last : (rs : List (ℕ × ℕ)) (x v : ℕ) → is_removed (rs ++ (x, v) ∷ []) x v ≡ true
removed_last rs x v = removed_more rs x v x v ∙ or_right (is_removed rs x v) (eqb x x && eqb v v) (and_from (eqb x x) (eqb v v) (eq-eqb x x refl) (eq-eqb v v refl))

here_swaps : (x v y w : ℕ) → (eqb x y && eqb v w) ≡ (eqb y x && eqb w v)
here_swaps x v y w = ap₂ (λ (b c : Bool). b && c) (eqb_sym x y) (eqb_sym v w)

pub once_push : (rs : List (ℕ × ℕ)) (x v : ℕ) → are_once rs ≡ true → is_removed rs x v ≡ false → are_once (rs ++ (x, v) ∷ []) ≡ true
once_push [] x v once fresh = refl
once_push (r ∷ rs) x v once fresh =
    let parts = and_parts (not (is_removed rs r.0 r.1)) (are_once rs) once in
    let apart = or_parts (eqb r.0 x && eqb r.1 v) (is_removed rs x v) fresh in
    and_from (not (is_removed (rs ++ (x, v) ∷ []) r.0 r.1)) (are_once (rs ++ (x, v) ∷ []))
    (not_from_false (is_removed (rs ++ (x, v) ∷ []) r.0 r.1) (removed_more rs x v r.0 r.1
    ∙ or_from (is_removed rs r.0 r.1) (eqb x r.0 && eqb v r.1) (not-true (is_removed rs r.0 r.1) parts.0) (here_swaps x v r.0 r.1 ∙ apart.0)))
    (once_push rs x v parts.1 apart.1)

pub once_last : (rs : List (ℕ × ℕ)) (x v : ℕ) → are_once (rs ++ (x, v) ∷ []) ≡ true → (are_once rs ≡ true) × (is_removed rs x v ≡ false)
once_last [] x v once = (refl, refl)
once_last (r ∷ rs) x v once =
    let parts = and_parts (not (is_removed (rs ++ (x, v) ∷ []) r.0 r.1)) (are_once (rs ++ (x, v) ∷ [])) once in
    let below = once_last rs x v parts.1 in
    let apart = or_parts (is_removed rs r.0 r.1) (eqb x r.0 && eqb v r.1)
    (sym (removed_more rs x v r.0 r.1) ∙ not-true (is_removed (rs ++ (x, v) ∷ []) r.0 r.1) parts.0) in (
      and_from (not (is_removed rs r.0 r.1)) (are_once rs) (not_from_false (is_removed rs r.0 r.1) apart.0) below.0,
      or_from (eqb r.0 x && eqb r.1 v) (is_removed rs x v) (here_swaps r.0 r.1 x v ∙ apart.1) below.1,
    )

-- the place v of x alone
abbrev here : ℕ → ℕ → ℕ → ℕ → Bool
here x v y w = eqb x y && eqb v w

here_is : (δ : Family) (x v y w : ℕ) (b : Bool) → here x v y w ≡ true → δ x v ≡ b → δ y w ≡ b
here_is δ x v y w b h is = let both = and_parts (eqb x y) (eqb v w) h in
    ap₂ δ (sym (eqb-true x y both.0)) (sym (eqb-true v w both.1)) ∙ is

pub not_removed : (δ : Family) (rs : List (ℕ × ℕ)) (x v : ℕ) → AreGone δ rs → δ x v ≡ true → is_removed rs x v ≡ false
not_removed δ rs x v gone alive = false_from_ne_true (is_removed rs x v) (λ h. both_ways (δ x v) (gone x v h) alive)

pub began_none : (δ : Family) → began δ [] ≡ δ
unfolding began
began_none δ = fun_ext (λ x. fun_ext (λ v. or_none (δ x v)))

-- one place is taken
gone_more : (d r h : Bool) → (r ≡ true → d ≡ false) → (r || h) ≡ true → (d && not h) ≡ false
gone_more true r true f e = refl
gone_more true true false f e = f refl
gone_more true false false f e = absurd (both_ways false refl e)
gone_more false r h f e = refl

began_more : (d r h : Bool) → (h ≡ true → d ≡ true) → ((d && not h) || (r || h)) ≡ (d || r)
began_more true true true f = refl
began_more true true false f = refl
began_more true false true f = refl
began_more true false false f = refl
began_more false true h f = refl
began_more false false true f = sym (f refl)
began_more false false false f = refl

pub gone_push : (δ ε : Family) (rs : List (ℕ × ℕ)) (x v : ℕ) → ((y w : ℕ) → ε y w ≡ without δ x v y w) → AreGone δ rs → AreGone ε (rs ++ (x, v) ∷ [])
gone_push δ ε rs x v is gone y w h = is y w ∙ gone_more (δ y w) (is_removed rs y w) (here x v y w) (gone y w) (sym (removed_more rs x v y w) ∙ h)

pub began_push : (δ ε : Family) (rs : List (ℕ × ℕ)) (x v : ℕ) → ((y w : ℕ) → ε y w ≡ without δ x v y w) → δ x v ≡ true → began ε (rs ++ (x, v) ∷ []) ≡ began δ rs
unfolding began
began_push δ ε rs x v is alive = fun_ext (λ y. fun_ext (λ w. ap₂ (λ (b c : Bool). b || c) (is y w) (removed_more rs x v y w)
    ∙ began_more (δ y w) (is_removed rs y w) (here x v y w) (λ h. here_is δ x v y w true h alive)))

-- the last removal is taken back
gone_less : (d r h : Bool) → ((r || h) ≡ true → d ≡ false) → (r ≡ true → h ≡ false) → r ≡ true → (d || h) ≡ false
gone_less d true h f g e = or_from d h (f refl) (g refl)
gone_less d false h f g e = absurd (both_ways false refl e)

pub gone_back : (δ ε : Family) (rs : List (ℕ × ℕ)) (x v : ℕ) → ((y w : ℕ) → ε y w ≡ (δ y w || (eqb x y && eqb v w))) → are_once (rs ++ (x, v) ∷ []) ≡ true
    → AreGone δ (rs ++ (x, v) ∷ []) → AreGone ε rs
gone_back δ ε rs x v is once gone y w h = is y w ∙ gone_less (δ y w) (is_removed rs y w) (here x v y w)
    (λ k. gone y w (removed_more rs x v y w ∙ k))
    (λ k. false_from_ne_true (here x v y w) (λ e. both_ways (is_removed rs y w) (here_is (is_removed rs) x v y w false e (once_last rs x v once).1) k)) h

began_less : (d r h : Bool) → ((d || h) || r) ≡ (d || (r || h))
began_less true r h = refl
began_less false true true = refl
began_less false true false = refl
began_less false false true = refl
began_less false false false = refl

pub began_back : (δ ε : Family) (rs : List (ℕ × ℕ)) (x v : ℕ) → ((y w : ℕ) → ε y w ≡ (δ y w || (eqb x y && eqb v w))) → began ε rs ≡ began δ (rs ++ (x, v) ∷ [])
unfolding began
began_back δ ε rs x v is = fun_ext (λ y. fun_ext (λ w. ap (λ (b : Bool). b || is_removed rs y w) (is y w)
    ∙ (began_less (δ y w) (is_removed rs y w) (here x v y w) ∙ ap (λ (b : Bool). δ y w || b) (sym (removed_more rs x v y w)))))
