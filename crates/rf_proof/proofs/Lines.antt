-- Lines of nodes, number by number.
use Rattle.std.proofs.Common.{◌≡◌, ◌≢◌, ℕ, suc, ◌+◌, ◌^◌, ◌<◌, ◌≤◌, ◌++◌, List, [], ◌∷◌, length, refl, sym, ap, ap₂, ◌∙◌, arith, append_assoc}
use Rattle.std.specs.Prelude.{codes, flat_map}
use Rattle.std.specs.Fmt.{decimal}
use Rattle.rf_refute.specs.Trees.{Node, Remove, Split, Fail}
use Rattle.rf_proof.specs.Numbers.{EndsNumber, BeginsNumber, BeginsField}
use Rattle.rf_proof.specs.Texts.{spaced, line_of, line_end, ArePlaces, HasLine}
use Rattle.rf_proof.specs.Lines.{BeginsNode, BeginsNoNode, BeginsPlaces}
use Rattle.rf_proof.proofs.Digits.{field_is_one}

-- ---- what is behind the word of a line

abbrev pub remove_tail : ℕ → ℕ → ℕ → List ℕ → List ℕ
remove_tail x v c rest = spaced x ++ (spaced v ++ (spaced c ++ (line_end ++ rest)))

abbrev pub split_tail : ℕ → List ℕ → List ℕ → List ℕ
split_tail x vs rest = spaced x ++ (flat_map spaced vs ++ (line_end ++ rest))

abbrev pub fail_tail : ℕ → List ℕ → List ℕ
fail_tail c rest = spaced c ++ (line_end ++ rest)

pub remove_onto : (x v c : ℕ) (rest : List ℕ) → line_of (Remove x v c) ++ rest ≡ codes "remove" ++ remove_tail x v c rest
remove_onto x v c rest = ap (λ (l : List ℕ). codes "remove" ++ l) (append_assoc (spaced x) (spaced v ++ (spaced c ++ line_end)) rest
    ∙ ap (λ (l : List ℕ). spaced x ++ l) (append_assoc (spaced v) (spaced c ++ line_end) rest
    ∙ ap (λ (l : List ℕ). spaced v ++ l) (append_assoc (spaced c) line_end rest)))

pub split_onto : (x : ℕ) (vs rest : List ℕ) → line_of (Split x vs) ++ rest ≡ codes "split" ++ split_tail x vs rest
split_onto x vs rest = ap (λ (l : List ℕ). codes "split" ++ l) (append_assoc (spaced x) (flat_map spaced vs ++ line_end) rest
    ∙ ap (λ (l : List ℕ). spaced x ++ l) (append_assoc (flat_map spaced vs) line_end rest))

pub fail_onto : (c : ℕ) (rest : List ℕ) → line_of (Fail c) ++ rest ≡ codes "fail" ++ fail_tail c rest
fail_onto c rest = ap (λ (l : List ℕ). codes "fail" ++ l) (append_assoc (spaced c) line_end rest)

-- ---- one number

pub field_text : (text : List ℕ) (most n : ℕ) (rest : List ℕ) → BeginsField text most n rest → text ≡ spaced n ++ rest
field_text text most n rest has = has.text_is ∙ ap (λ (l : List ℕ). 32 ∷ l) has.number.text_is

pub field_there : (text : List ℕ) (most n : ℕ) (rest : List ℕ) → n ≤ most → EndsNumber rest → text ≡ spaced n ++ rest → BeginsField text most n rest
field_there text most n rest small ends e = record { behind = decimal n ++ rest; text_is = e; number = record { small = small; text_is = refl; ends = ends } }

-- what was read is what stands there
pub field_same : (text : List ℕ) (most n m : ℕ) (rest more : List ℕ) → most < 2 ^ 64 → BeginsField text most n rest → m ≤ most → EndsNumber more → text ≡ spaced m ++ more
    → (n ≡ m) × (rest ≡ more)
field_same text most n m rest more fits has small ends e = field_is_one most text n m rest more fits has (field_there text most m more small ends e)

-- ---- the places of a split

pub places_end : (vs rest : List ℕ) → EndsNumber (flat_map spaced vs ++ (line_end ++ rest))
places_end [] rest = refl
places_end (v ∷ vs) rest = refl

places_end_so : (vs rest : List ℕ) → EndsNumber rest → EndsNumber (flat_map spaced vs ++ rest)
places_end_so [] rest ends = ends
places_end_so (v ∷ vs) rest ends = refl

pub places_same : (text vs rest ws more : List ℕ) → BeginsPlaces text vs rest → ArePlaces ws → text ≡ flat_map spaced ws ++ (line_end ++ more)
    → (vs ≡ ws) × (rest ≡ line_end ++ more)
places_same text vs rest ws more has small e = go vs ws has.places small (sym has.text_is ∙ e)
  where
    go : (vs ws : List ℕ) → ArePlaces vs → ArePlaces ws → flat_map spaced vs ++ rest ≡ flat_map spaced ws ++ (line_end ++ more)
        → (vs ≡ ws) × (rest ≡ line_end ++ more)
    go [] [] some all f = (refl, f)
    go [] (w ∷ ws) some all f = absurd (has.none w (flat_map spaced ws ++ (line_end ++ more)) (field_there rest 65535 w (flat_map spaced ws ++ (line_end ++ more))
        (omega (arith, all.0)) (places_end ws more) (f ∙ append_assoc (spaced w) (flat_map spaced ws) (line_end ++ more))))
    go (v ∷ vs) [] some all f = cc f
    go (v ∷ vs) (w ∷ ws) some all f =
        let one = append_assoc (spaced v) (flat_map spaced vs) rest in
        let other = append_assoc (spaced w) (flat_map spaced ws) (line_end ++ more) in
        let here = field_same (spaced v ++ (flat_map spaced vs ++ rest)) 65535 v w (flat_map spaced vs ++ rest) (flat_map spaced ws ++ (line_end ++ more)) (omega arith)
        (field_there (spaced v ++ (flat_map spaced vs ++ rest)) 65535 v (flat_map spaced vs ++ rest) (omega (arith, some.0)) (places_end_so vs rest has.ends) refl)
        (omega (arith, all.0)) (places_end ws more) (sym one ∙ (f ∙ other)) in
        let later = go vs ws some.1 all.1 here.1 in
        (ap₂ (λ (k : ℕ) (l : List ℕ). k ∷ l) here.0 later.0, later.1)
