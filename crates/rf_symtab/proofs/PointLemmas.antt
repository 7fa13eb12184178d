-- Texts without points, joined by points, are told apart.
use Rattle.std.proofs.Common.{◌≡◌, ℕ, List, [], ◌∷◌, ◌++◌, refl, sym, ap₂, ◌∙◌}
use Rattle.std.specs.List.{flat_map, AllByRecursion}
use Rattle.rf_jtree.specs.NameText.{dotted}

abbrev pub NoPoint : List ℕ → Type 0
NoPoint [] = Unit {0}
NoPoint (byte ∷ text) = (byte ≡ 46 → ⊥) × NoPoint text

-- a text that isn't empty and has no point in it
abbrev pub IsPlain : List ℕ → Type 0
IsPlain text = (text ≡ [] → ⊥) × NoPoint text

-- nothing, or what begins with a point
abbrev AtPoint : List ℕ → Type 0
AtPoint [] = Unit {0}
AtPoint (byte ∷ text) = byte ≡ 46

abbrev pub behind_points : List (List ℕ) → List ℕ
behind_points texts = flat_map (λ text. 46 ∷ text) texts

at-point : (texts : List (List ℕ)) → AtPoint (behind_points texts)
at-point [] = tt
at-point (text ∷ texts) = refl

first-byte : {one other : ℕ} {some more : List ℕ} → one ∷ some ≡ other ∷ more → one ≡ other
first-byte same = cc

other-bytes : {one other : ℕ} {some more : List ℕ} → one ∷ some ≡ other ∷ more → some ≡ more
other-bytes same = cc

not-none : {byte : ℕ} {text : List ℕ} → [] ≡ byte ∷ text → ⊥
not-none same = cc

-- two texts without points are the same where what begins with them, up to the first point, is
front : (one other some more : List ℕ) → NoPoint one → NoPoint other → AtPoint some → AtPoint more → one ++ some ≡ other ++ more
    → (one ≡ other) × (some ≡ more)
front [] [] some more plain other-plain at other-at same = (refl, same)
front [] (byte ∷ other) [] more plain other-plain at other-at same = absurd (not-none same)
front [] (byte ∷ other) (point ∷ some) more plain other-plain at other-at same = absurd (other-plain.0 (sym (first-byte same) ∙ at))
front (byte ∷ one) [] some [] plain other-plain at other-at same = absurd (not-none (sym same))
front (byte ∷ one) [] some (point ∷ more) plain other-plain at other-at same = absurd (plain.0 (first-byte same ∙ other-at))
front (byte ∷ one) (next ∷ other) some more plain other-plain at other-at same =
    let rest = front one other some more plain.1 other-plain.1 at other-at (other-bytes same) in
    (ap₂ (λ (first : ℕ) (text : List ℕ). first ∷ text) (first-byte same) rest.0, rest.1)

rest-one : (texts others : List (List ℕ)) → AllByRecursion IsPlain texts → AllByRecursion IsPlain others
    → behind_points texts ≡ behind_points others → texts ≡ others
rest-one [] [] plain other-plain same = refl
rest-one [] (other ∷ others) plain other-plain same = absurd (not-none same)
rest-one (text ∷ texts) [] plain other-plain same = absurd (not-none (sym same))
rest-one (text ∷ texts) (other ∷ others) plain other-plain same =
    let parts = front text other (behind_points texts) (behind_points others) plain.0.1 other-plain.0.1 (at-point texts) (at-point others) (other-bytes same) in
    ap₂ (λ (first : List ℕ) (rest : List (List ℕ)). first ∷ rest) parts.0 (rest-one texts others plain.1 other-plain.1 parts.1)

empty-front : (text more : List ℕ) → [] ≡ text ++ more → text ≡ []
empty-front [] more same = refl
empty-front (byte ∷ text) more same = absurd (not-none same)

pub dotted-one : (ids others : List (List ℕ)) → AllByRecursion IsPlain ids → AllByRecursion IsPlain others → dotted ids ≡ dotted others → ids ≡ others
dotted-one [] [] plain other-plain same = refl
dotted-one [] (other ∷ others) plain other-plain same = absurd (other-plain.0.0 (empty-front other (behind_points others) same))
dotted-one (id ∷ ids) [] plain other-plain same = absurd (plain.0.0 (empty-front id (behind_points ids) (sym same)))
dotted-one (id ∷ ids) (other ∷ others) plain other-plain same =
    let parts = front id other (behind_points ids) (behind_points others) plain.0.1 other-plain.0.1 (at-point ids) (at-point others) same in
    ap₂ (λ (first : List ℕ) (rest : List (List ℕ)). first ∷ rest) parts.0 (rest-one ids others plain.1 other-plain.1 parts.1)
