-- Nodes one behind the other: a text goes on in one way alone.
use Rattle.std.proofs.Common.{◌≡◌, ◌≢◌, ◌⊎◌, ℕ, zero, suc, ◌+◌, ◌-◌, ◌^◌, ◌<◌, ◌≤◌, ◌++◌, List, [], ◌∷◌, length, refl, sym, ap, ap₂, ◌∙◌, subst, arith, inl, inr, append_assoc, length-append}
use Rattle.std.specs.Prelude.{codes, flat_map}
use Rattle.std.proofs.lemmas.List.{append_cancel_left}
use Rattle.std.specs.Fmt.{decimal}
use Rattle.rf_refute.specs.Trees.{Node, Remove, Split, Fail}
use Rattle.rf_proof.specs.Trees.{children, Leaves, IsWhole}
use Rattle.rf_proof.specs.Numbers.{EndsNumber, BeginsField}
use Rattle.rf_proof.specs.Texts.{spaced, line_of, lines_of, line_end, version_line, text_of, ArePlaces, HasLine, HaveLines, IsText}
use Rattle.rf_proof.specs.Lines.{BeginsNode, BeginsNoNode, BeginsPlaces, Breaks, BreaksBehind, IsBadLine}
use Rattle.rf_proof.proofs.Lines.{remove_tail, split_tail, fail_tail, remove_onto, split_onto, fail_onto, field_there, field_same, places_end}

first_same : (x y : ℕ) (xs ys : List ℕ) → x ∷ xs ≡ y ∷ ys → x ≡ y
first_same x y xs ys e = cc

pub apart : (x y : ℕ) (xs ys : List ℕ) → (x ≡ y → ⊥) → x ∷ xs ≡ y ∷ ys → ⊥
apart x y xs ys other e = other (first_same x y xs ys e)

-- ---- one line

-- this number stands in front of both
front_number : (most n m : ℕ) (a b : List ℕ) → most < 2 ^ 64 → n ≤ most → m ≤ most → EndsNumber a → EndsNumber b → spaced n ++ a ≡ spaced m ++ b
    → (n ≡ m) × (a ≡ b)
front_number most n m a b fits small other ends stops e =
    field_same (spaced n ++ a) most n m a b fits (field_there (spaced n ++ a) most n a small ends refl) other stops e

pub fail_same : (c d : ℕ) (a b : List ℕ) → c < 2 ^ 64 → d < 2 ^ 64 → fail_tail c a ≡ fail_tail d b → (c ≡ d) × (a ≡ b)
fail_same c d a b h k e = let here = front_number (2 ^ 64 - 1) c d (line_end ++ a) (line_end ++ b) (omega arith) (omega arith) (omega arith) refl refl e in
    (here.0, append_cancel_left line_end a b here.1)

pub remove_same : (x v c y w d : ℕ) (a b : List ℕ) → HasLine (Remove x v c) → HasLine (Remove y w d) → remove_tail x v c a ≡ remove_tail y w d b
    → (Remove x v c ≡ Remove y w d) × (a ≡ b)
remove_same x v c y w d a b h k e =
    let one = front_number (2 ^ 32 - 1) x y _ _ (omega arith) (omega (arith, h.0)) (omega (arith, k.0)) refl refl e in
    let two = front_number (2 ^ 16 - 1) v w _ _ (omega arith) (omega (arith, h.1.0)) (omega (arith, k.1.0)) refl refl one.1 in
    let last = fail_same c d a b h.1.1 k.1.1 two.1 in
    (ap (λ (n : ℕ). Remove n v c) one.0 ∙ (ap (λ (n : ℕ). Remove y n c) two.0 ∙ ap (λ (n : ℕ). Remove y w n) last.0), last.1)

values_same : (vs ws a b : List ℕ) → ArePlaces vs → ArePlaces ws → flat_map spaced vs ++ (line_end ++ a) ≡ flat_map spaced ws ++ (line_end ++ b)
    → (vs ≡ ws) × (a ≡ b)
values_same [] [] a b h k e = (refl, append_cancel_left line_end a b e)
values_same [] (w ∷ ws) a b h k e = absurd (apart 10 32 _ _ (λ f. omega (arith, f)) e)
values_same (v ∷ vs) [] a b h k e = absurd (apart 32 10 _ _ (λ f. omega (arith, f)) e)
values_same (v ∷ vs) (w ∷ ws) a b h k e =
    let one = append_assoc (spaced v) (flat_map spaced vs) (line_end ++ a) in
    let other = append_assoc (spaced w) (flat_map spaced ws) (line_end ++ b) in
    let here = front_number (2 ^ 16 - 1) v w (flat_map spaced vs ++ (line_end ++ a)) (flat_map spaced ws ++ (line_end ++ b)) (omega arith) (omega (arith, h.0)) (omega (arith, k.0))
    (places_end vs a) (places_end ws b) (sym one ∙ (e ∙ other)) in
    let later = values_same vs ws a b h.1 k.1 here.1 in
    (ap₂ (λ (n : ℕ) (l : List ℕ). n ∷ l) here.0 later.0, later.1)

pub split_same : (x y : ℕ) (vs ws a b : List ℕ) → HasLine (Split x vs) → HasLine (Split y ws) → split_tail x vs a ≡ split_tail y ws b
    → (Split x vs ≡ Split y ws) × (a ≡ b)
split_same x y vs ws a b h k e =
    let one = front_number (2 ^ 32 - 1) x y (flat_map spaced vs ++ (line_end ++ a)) (flat_map spaced ws ++ (line_end ++ b)) (omega arith) (omega (arith, h.0)) (omega (arith, k.0))
    (places_end vs a) (places_end ws b) e in
    let rest = values_same vs ws a b h.1.0 k.1.0 one.1 in
    (ap₂ (λ (n : ℕ) (l : List ℕ). Split n l) one.0 rest.0, rest.1)

pub line_same : (n m : Node) (a b : List ℕ) → HasLine n → HasLine m → line_of n ++ a ≡ line_of m ++ b → (n ≡ m) × (a ≡ b)
line_same (Remove x v c) (Remove y w d) a b h k e = remove_same x v c y w d a b h k
    (append_cancel_left (codes "remove") _ _ (sym (remove_onto x v c a) ∙ (e ∙ remove_onto y w d b)))
line_same (Split x vs) (Split y ws) a b h k e = split_same x y vs ws a b h k
    (append_cancel_left (codes "split") _ _ (sym (split_onto x vs a) ∙ (e ∙ split_onto y ws b)))
line_same (Fail c) (Fail d) a b h k e = let same = fail_same c d a b h k (append_cancel_left (codes "fail") _ _ (sym (fail_onto c a) ∙ (e ∙ fail_onto d b))) in
    (ap (λ (n : ℕ). Fail n) same.0, same.1)
line_same (Remove x v c) (Split y ws) a b h k e = absurd (apart 114 115 _ _ (λ f. omega (arith, f)) e)
line_same (Remove x v c) (Fail d) a b h k e = absurd (apart 114 102 _ _ (λ f. omega (arith, f)) e)
line_same (Split x vs) (Remove y w d) a b h k e = absurd (apart 115 114 _ _ (λ f. omega (arith, f)) e)
line_same (Split x vs) (Fail d) a b h k e = absurd (apart 115 102 _ _ (λ f. omega (arith, f)) e)
line_same (Fail c) (Remove y w d) a b h k e = absurd (apart 102 114 _ _ (λ f. omega (arith, f)) e)
line_same (Fail c) (Split y ws) a b h k e = absurd (apart 102 115 _ _ (λ f. omega (arith, f)) e)

-- ---- all lines

-- nothing goes on behind the nodes
abbrev pub Ends : ℕ → List ℕ → Type 0
Ends left rest = (left ≡ 0) ⊎ BeginsNoNode rest

over : (k a : ℕ) (m : Node) (ms : List Node) (r s : List ℕ) → HasLine m → suc k ≡ a → Ends a r → r ≡ lines_of (m ∷ ms) ++ s → ⊥
over k a m ms r s h e ends f = elim ends [
  | inl none ↦ omega (arith, e, none)
  | inr none ↦ none m (lines_of ms ++ s) (record { line = h; text_is = f ∙ append_assoc (line_of m) (lines_of ms) s })
]

pub front_same : (wanted : ℕ) (ns ms : List Node) (a b : ℕ) (r s : List ℕ) → HaveLines ns → HaveLines ms → Leaves wanted ns a → Leaves wanted ms b
    → Ends a r → Ends b s → lines_of ns ++ r ≡ lines_of ms ++ s → (ns ≡ ms) × ((a ≡ b) × (r ≡ s))
front_same wanted [] [] a b r s hn hm ln lm en em e = (refl, (sym ln ∙ lm, e))
front_same zero [] (m ∷ ms) a b r s hn hm ln lm en em e = absurd lm
front_same (suc k) [] (m ∷ ms) a b r s hn hm ln lm en em e = absurd (over k a m ms r s hm.0 ln en e)
front_same zero (n ∷ ns) ms a b r s hn hm ln lm en em e = absurd ln
front_same (suc k) (n ∷ ns) [] a b r s hn hm ln lm en em e = absurd (over k b n ns s r hn.0 lm em (sym e))
front_same (suc k) (n ∷ ns) (m ∷ ms) a b r s hn hm ln lm en em e =
    let here = line_same n m (lines_of ns ++ r) (lines_of ms ++ s) hn.0 hm.0
    (sym (append_assoc (line_of n) (lines_of ns) r) ∙ (e ∙ append_assoc (line_of m) (lines_of ms) s)) in
    let later = front_same (children n + k) ns ms a b r s hn.1 hm.1 ln (subst (λ (t : Node). Leaves (children t + k) ms b) (sym here.0) lm) en em here.1 in
    (ap₂ (λ (t : Node) (ts : List Node). t ∷ ts) here.0 later.0, later.1)
