-- Lines behind the target line, one after the other.
use Rattle.std.proofs.Common.{◌≡◌, ◌∙◌, ap, sym, refl, subst, ℕ, Bool, true, false, not, ◌&&◌, ◌||◌, List, [], ◌∷◌, ◌++◌, map, All, true≢false}
use Rattle.std.specs.List.{list_any}
use Rattle.std.proofs.lemmas.List.{map-append, append_assoc}
use Rattle.std.proofs.lemmas.List.Elements.{All-head, All-tail, All-push}
use Rattle.rf_request.specs.declared.choices.Choice.{Choice}
use Rattle.rf_request.specs.declared.choices.ChoiceLine.{ChoiceLine}
use Rattle.rf_request.specs.Choices.{AreChoices, ChoiceFits, choice_line, choice_words, repeats, is_repeated, none_repeats}
use Rattle.rf_request.specs.Requests.{Line}
use Rattle.rf_request.proofs.ChoiceLemmas.{same_choice}

abbrev pub LineFits : ChoiceLine → Type 0
LineFits line = ChoiceFits line.choice

abbrev is_repeated_by : ChoiceLine → List ChoiceLine → Bool
is_repeated_by line lines = list_any (λ other. repeats line.choice other.choice) lines

both : (a b : Bool) → (a && b) ≡ true → (a ≡ true) × (b ≡ true)
both true b e = (refl, e)
both false b e = absurd (true≢false (sym e))

neither : (a b : Bool) → (a || b) ≡ false → (a ≡ false) × (b ≡ false)
neither true b e = absurd (true≢false e)
neither false b e = (refl, e)

nor : (a b : Bool) → a ≡ false → b ≡ false → (a || b) ≡ false
nor true b a_is b_is = a_is
nor false b a_is b_is = b_is

not_true : (b : Bool) → not b ≡ true → b ≡ false
not_true true e = sym e
not_true false e = refl

and : (a b : Bool) → a ≡ true → b ≡ true → (a && b) ≡ true
and true b a_is b_is = b_is
and false b a_is b_is = a_is

not_false : (b : Bool) → b ≡ false → not b ≡ true
not_false true e = sym e
not_false false e = refl

-- a line that repeats none of those before it
any_pushed : (line : ChoiceLine) (lines : List ChoiceLine) (last : ChoiceLine) → is_repeated_by line lines ≡ false → repeats line.choice last.choice ≡ false → is_repeated_by line (lines ++ last ∷ []) ≡ false
any_pushed line [] last none apart = nor _ false apart refl
any_pushed line (other ∷ lines) last none apart =
    let parts = neither (repeats line.choice other.choice) (is_repeated_by line lines) none in
    nor (repeats line.choice other.choice) (is_repeated_by line (lines ++ last ∷ [])) parts.0 (any_pushed line lines last parts.1 apart)

none_pushed : (lines : List ChoiceLine) (last : ChoiceLine) → none_repeats lines ≡ true → is_repeated last.choice lines ≡ false → none_repeats (lines ++ last ∷ []) ≡ true
none_pushed [] last once fresh = refl
none_pushed (line ∷ lines) last once fresh =
    let before = both (not (is_repeated_by line lines)) (none_repeats lines) once in
    let apart = neither (repeats line.choice last.choice) (is_repeated last.choice lines) fresh in
    and _ _ (not_false _ (any_pushed line lines last (not_true _ before.0) apart.0)) (none_pushed lines last before.1 apart.1)

pub pushed : (lines : List ChoiceLine) (last : ChoiceLine) → AreChoices lines → ChoiceFits last.choice → is_repeated last.choice lines ≡ false → AreChoices (lines ++ last ∷ [])
pushed lines last are fits fresh = record {
  fit = All-push LineFits lines last are.fit fits;
  once = none_pushed lines last are.once fresh;
}

-- the next line is read
pub read_on : (lines : List ChoiceLine) (last : ChoiceLine) (rest whole : List Line) (words : List (List ℕ)) → words ≡ choice_words last.choice →
    map choice_line lines ++ ((last.number, words) ∷ rest) ≡ whole → map choice_line (lines ++ last ∷ []) ++ rest ≡ whole
read_on lines last rest whole words is before =
    ap (λ (front : List Line). front ++ rest) (map-append choice_line lines (last ∷ []))
    ∙ append_assoc (map choice_line lines) (choice_line last ∷ []) rest
    ∙ ap (λ (ws : List (List ℕ)). map choice_line lines ++ ((last.number, ws) ∷ rest)) (sym is)
    ∙ before

abbrev line_by : ℕ → Choice → ChoiceLine
line_by number choice = record { number = number; choice = choice }

same_line : (one other : ChoiceLine) → LineFits one → LineFits other → choice_line one ≡ choice_line other → one ≡ other
same_line one other one_fits other_fits same =
    ap (λ n. line_by n one.choice) (ap (λ (l : Line). l.0) same)
    ∙ ap (line_by other.number) (same_choice one.choice other.choice one_fits other_fits (ap (λ (l : Line). l.1) same))

-- other lines that begin with the same ones
pub record Longer (lines others : List ChoiceLine) (line : Line) : Type 0 where
  next : ChoiceLine
  tail : List ChoiceLine
  parts : others ≡ lines ++ next ∷ tail
  is : line ≡ choice_line next
  fits : LineFits next

pub head_of : {X : Type 0} (x y : X) (xs ys : List X) → x ∷ xs ≡ y ∷ ys → x ≡ y
head_of x y xs ys e = cc

pub tail_of : {X : Type 0} (x y : X) (xs ys : List X) → x ∷ xs ≡ y ∷ ys → xs ≡ ys
tail_of x y xs ys e = cc

longer : (lines others : List ChoiceLine) (line : Line) (more : List Line) → All LineFits lines → All LineFits others → map choice_line lines ++ (line ∷ more) ≡ map choice_line others → Longer lines others line
longer [] [] line more fit others_fit same = cc
longer [] (other ∷ others) line more fit others_fit same =
    record { next = other; tail = others; parts = refl; is = head_of line (choice_line other) _ _ same; fits = All-head LineFits other others others_fit }
longer (first ∷ lines) [] line more fit others_fit same = cc
longer (first ∷ lines) (other ∷ others) line more fit others_fit same =
    let firsts = same_line first other (All-head LineFits first lines fit) (All-head LineFits other others others_fit) (head_of (choice_line first) (choice_line other) _ _ same) in
    let rest = longer lines others line more (All-tail LineFits first lines fit) (All-tail LineFits other others others_fit) (tail_of (choice_line first) (choice_line other) _ _ same) in
    record {
      next = rest.next;
      tail = rest.tail;
      parts = ap (λ (l : ChoiceLine). l ∷ others) (sym firsts) ∙ ap (λ (ls : List ChoiceLine). first ∷ ls) rest.parts;
      is = rest.is;
      fits = rest.fits;
    }

any_inside : (line : ChoiceLine) (lines : List ChoiceLine) (next : ChoiceLine) (tail : List ChoiceLine) → is_repeated_by line (lines ++ next ∷ tail) ≡ false → repeats line.choice next.choice ≡ false
any_inside line [] next tail none = (neither _ _ none).0
any_inside line (other ∷ lines) next tail none = any_inside line lines next tail (neither _ _ none).1

fresh_inside : (lines : List ChoiceLine) (next : ChoiceLine) (tail : List ChoiceLine) → none_repeats (lines ++ next ∷ tail) ≡ true → is_repeated next.choice lines ≡ false
fresh_inside [] next tail once = refl
fresh_inside (line ∷ lines) next tail once =
    let parts = both (not (is_repeated_by line (lines ++ next ∷ tail))) (none_repeats (lines ++ next ∷ tail)) once in
    nor _ _ (any_inside line lines next tail (not_true _ parts.0)) (fresh_inside lines next tail parts.1)

-- a line that can't stand behind others stands in no reading behind them
pub never : (lines others : List ChoiceLine) (number : ℕ) (words : List (List ℕ)) (more : List Line) → AreChoices lines → AreChoices others →
    ((choice : Choice) → words ≡ choice_words choice → ChoiceFits choice → is_repeated choice lines ≡ true) →
    map choice_line lines ++ ((number, words) ∷ more) ≡ map choice_line others → ⊥
never lines others number words more are others_are unread same =
    let found = longer lines others (number, words) more are.fit others_are.fit same in
    let repeated = unread found.next.choice (ap (λ (l : Line). l.1) found.is) found.fits in
    true≢false (sym repeated ∙ fresh_inside lines found.next found.tail (subst (λ (ls : List ChoiceLine). none_repeats ls ≡ true) found.parts others_are.once))
