-- The loops of readers: any number of parts, parts with a separator between them, and what goes on growing. For each: what
-- is known of its answer, and what it answers on the tokens of such parts.
use Rattle.std.proofs.Common.{◌≡◌, ℕ, zero, suc, ◌+◌, ◌≤◌, ◌<◌, List, [], ◌∷◌, ◌++◌, Option, Some, None, length, refl, ap, ◌∙◌, sym, subst, arith, append_assoc, length-append}
use Rattle.std.specs.List.{flat_map}
use Rattle.rf_jtree.specs.declared.operators.Op.{Op}
use Rattle.rf_jtree.specs.declared.tokens.Tok.{Tok}
use Rattle.rf_jtree.specs.Kinds.{IsOp}
use Rattle.rf_jtree.specs.NameFits.{EachFits, ManyFit}
use Rattle.rf_jtree.specs.NameTrees.{many_yield}
use Rattle.rf_jexpr.specs.Reads.{Reads, and_then, or_else, is_op, token, repeat, many, behind, separated, chain}
use Rattle.rf_jexpr.proofs.Tools.{bound, of_bind, by_first, by_other, of_else, missing, there, perhaps, token_takes, bind-Some, bind-None, else-Some, else-None, token-at, is_op-IsOp, IsOp-is_op, by_some}

-- What a reader read: a part that fits, and the tokens of which stood there.
pub record Read {A : Type 0} (Fits : A → Type 0) (yield : A → List Tok) (toks : List Tok) (x : A) (rest : List Tok) : Type 0 where
  pub fits : Fits x
  pub takes : toks ≡ yield x ++ rest

-- a reader reads only such parts
abbrev pub IsSound : {A : Type 0} → (A → Type 0) → (A → List Tok) → Reads A → Type 0
IsSound {A} Fits yield item = (toks : List Tok) (y : A × List Tok) → item toks ≡ Some y → Read Fits yield toks y.0 y.1

-- ---- any number of parts

pub repeat-sound : {A : Type 0} (Fits : A → Type 0) (yield : A → List Tok) (item : Reads A) → IsSound Fits yield item → (turns : ℕ) → IsSound (EachFits Fits) (flat_map yield) (repeat turns item)
unfolding repeat
repeat-sound Fits yield item sound zero toks y h =
    let none : Read (EachFits Fits) (flat_map yield) toks [] toks = record { fits = tt; takes = refl } in
    by_some (λ z. Read (EachFits Fits) (flat_map yield) toks z.0 z.1) ([], toks) y h none
repeat-sound Fits yield item sound (suc turns) toks y h = elim (of_else _ _ _ h) [
  | by_first e ↦ elim (of_bind (item toks) _ _ e) [
    | bound x found more_found ↦ elim (of_bind (repeat turns item x.1) _ _ more_found) [
      | bound more rest_found same ↦
          let first = sound toks x found in
          let rest = repeat-sound Fits yield item sound turns x.1 more rest_found in
          let all : Read (EachFits Fits) (flat_map yield) toks (x.0 ∷ more.0) more.1 =
          record { fits = (first.fits, rest.fits); takes = first.takes ∙ ap (λ others. yield x.0 ++ others) rest.takes ∙ sym (append_assoc (yield x.0) (flat_map yield more.0) more.1) } in
          by_some (λ z. Read (EachFits Fits) (flat_map yield) toks z.0 z.1) (x.0 ∷ more.0, more.1) y same all
    ]
  ]
  | by_other e same ↦
      let none : Read (EachFits Fits) (flat_map yield) toks [] toks = record { fits = tt; takes = refl } in
      by_some (λ z. Read (EachFits Fits) (flat_map yield) toks z.0 z.1) ([], toks) y same none
]

-- it always answers
pub data Answers {A : Type 0} (result : Option A) : Type 0 where
  answers : (x : A) → result ≡ Some x → Answers result

pub repeat-answers : {A : Type 0} (turns : ℕ) (item : Reads A) (toks : List Tok) → Answers (repeat turns item toks)
unfolding repeat
repeat-answers zero item toks = answers ([], toks) refl
repeat-answers (suc turns) item toks = elim (perhaps (item toks)) [
  | missing none ↦ answers ([], toks) (else-None _ _ (bind-None (item toks) _ none))
  | there x found ↦ elim (repeat-answers turns item x.1) [
    | answers more rest_found ↦ answers (x.0 ∷ more.0, more.1) (else-Some _ _ _ (bind-Some (item toks) _ x _ found (bind-Some (repeat turns item x.1) _ more _ rest_found refl)))
  ]
]

-- with these parts before the rest it reads them, where each of them is read
abbrev pub IsExact : {A : Type 0} → (A → Type 0) → (List Tok → Type 0) → (A → List Tok) → Reads A → Type 0
IsExact {A} Fits Stops yield item = (x : A) (rest : List Tok) → Fits x → Stops rest → item (yield x ++ rest) ≡ Some (x, rest)

stops_before : {A : Type 0} (Fits : A → Type 0) (Stops : List Tok → Type 0) (yield : A → List Tok) → ((x : A) (rest : List Tok) → Fits x → Stops (yield x ++ rest))
    → (xs : List A) (rest : List Tok) → EachFits Fits xs → Stops rest → Stops (flat_map yield xs ++ rest)
stops_before Fits Stops yield starts [] rest fit stops = stops
stops_before Fits Stops yield starts (x ∷ xs) rest fit stops =
    subst Stops (sym (append_assoc (yield x) (flat_map yield xs) rest)) (starts x (flat_map yield xs ++ rest) fit.0)

pub repeat-exact : {A : Type 0} (Fits : A → Type 0) (Stops : List Tok → Type 0) (yield : A → List Tok) (item : Reads A)
    → IsExact Fits Stops yield item → ((x : A) (rest : List Tok) → Fits x → Stops (yield x ++ rest))
    → (turns : ℕ) (xs : List A) (rest : List Tok) → EachFits Fits xs → length xs ≤ turns → Stops rest → item rest ≡ None
    → repeat turns item (flat_map yield xs ++ rest) ≡ Some (xs, rest)
unfolding repeat
repeat-exact Fits Stops yield item exact starts zero [] rest fit few stops none = refl
repeat-exact Fits Stops yield item exact starts zero (x ∷ xs) rest fit few stops none = absurd (omega arith)
repeat-exact Fits Stops yield item exact starts (suc turns) [] rest fit few stops none = else-None _ _ (bind-None (item rest) _ none)
repeat-exact Fits Stops yield item exact starts (suc turns) (x ∷ xs) rest fit few stops none =
    let further = repeat-exact Fits Stops yield item exact starts turns xs rest fit.1 (omega arith) stops none in
    let first = exact x (flat_map yield xs ++ rest) fit.0 (stops_before Fits Stops yield starts xs rest fit.1 stops) in
    rw append_assoc (else-Some _ _ _ (bind-Some (item (yield x ++ (flat_map yield xs ++ rest))) _ (x, flat_map yield xs ++ rest) _ first (bind-Some (repeat turns item (flat_map yield xs ++ rest)) _ (xs, rest) _ further refl)))

-- each part has a token at least
length_parts : {A : Type 0} (Fits : A → Type 0) (yield : A → List Tok) → ((x : A) → Fits x → 1 ≤ length (yield x)) → (xs : List A) → EachFits Fits xs → length xs ≤ length (flat_map yield xs)
length_parts Fits yield some [] fit = omega arith
length_parts Fits yield some (x ∷ xs) fit =
    let here : 1 ≤ length (yield x) = some x fit.0 in
    let further = length_parts Fits yield some xs fit.1 in
    omega (arith, length-append (yield x) (flat_map yield xs))

pub many-exact : {A : Type 0} (Fits : A → Type 0) (Stops : List Tok → Type 0) (yield : A → List Tok) (item : Reads A)
    → IsExact Fits Stops yield item → ((x : A) (rest : List Tok) → Fits x → Stops (yield x ++ rest)) → ((x : A) → Fits x → 1 ≤ length (yield x))
    → IsExact (EachFits Fits) (λ rest. Stops rest × (item rest ≡ None)) (flat_map yield) (many item)
unfolding many
many-exact Fits Stops yield item exact starts some xs rest fit stops =
    let few = length_parts Fits yield some xs fit in
    repeat-exact Fits Stops yield item exact starts (length (flat_map yield xs ++ rest)) xs rest fit (omega (arith, length-append (flat_map yield xs) rest)) stops.0 stops.1

pub many-sound : {A : Type 0} (Fits : A → Type 0) (yield : A → List Tok) (item : Reads A) → IsSound Fits yield item → IsSound (EachFits Fits) (flat_map yield) (many item)
unfolding many
many-sound Fits yield item sound toks y h = repeat-sound Fits yield item sound (length toks) toks y h

-- Parts that are read whatever follows: it reads them, and goes on.
pub repeat-front : {A : Type 0} (Fits : A → Type 0) (yield : A → List Tok) (item : Reads A) → IsExact Fits (λ rest. Unit {0}) yield item
    → (n turns : ℕ) (xs : List A) (rest : List Tok) (more : List A × List Tok) → n ≡ length xs + turns → EachFits Fits xs → repeat turns item rest ≡ Some more
    → repeat n item (flat_map yield xs ++ rest) ≡ Some (xs ++ more.0, more.1)
unfolding repeat
repeat-front Fits yield item exact n turns [] rest more count fit h = let same : n ≡ turns = omega arith in rw same h
repeat-front Fits yield item exact zero turns (x ∷ xs) rest more count fit h = absurd (omega arith)
repeat-front Fits yield item exact (suc n) turns (x ∷ xs) rest more count fit h =
    let further = repeat-front Fits yield item exact n turns xs rest more (omega arith) fit.1 h in
    let first = exact x (flat_map yield xs ++ rest) fit.0 tt in
    rw append_assoc (else-Some _ _ _ (bind-Some (item (yield x ++ (flat_map yield xs ++ rest))) _ (x, flat_map yield xs ++ rest) _ first (bind-Some (repeat n item (flat_map yield xs ++ rest)) _ (xs ++ more.0, more.1) _ further refl)))

-- What takes a token at least leaves fewer, and so the number of turns doesn't matter where there are enough.
abbrev pub Shrinks : {A : Type 0} → Reads A → Type 0
Shrinks {A} item = (toks : List Tok) (y : A × List Tok) → item toks ≡ Some y → length y.1 < length toks

pub repeat-enough : {A : Type 0} (item : Reads A) → Shrinks item → (one other : ℕ) (toks : List Tok) → length toks ≤ one → length toks ≤ other → repeat one item toks ≡ repeat other item toks
unfolding repeat or_else and_then
repeat-enough item shrinks zero zero toks h k = refl
repeat-enough item shrinks zero (suc other) toks h k = elim (perhaps (item toks)) [
  | missing none ↦ sym (else-None _ _ (bind-None (item toks) _ none))
  | there x found ↦ let fewer = shrinks toks x found in absurd (omega arith)
]
repeat-enough item shrinks (suc one) zero toks h k = elim (perhaps (item toks)) [
  | missing none ↦ else-None _ _ (bind-None (item toks) _ none)
  | there x found ↦ let fewer = shrinks toks x found in absurd (omega arith)
]
repeat-enough item shrinks (suc one) (suc other) toks h k = elim (perhaps (item toks)) [
  | missing none ↦ else-None _ _ (bind-None (item toks) _ none) ∙ sym (else-None _ _ (bind-None (item toks) _ none))
  | there x found ↦
      let fewer : length x.1 < length toks = shrinks toks x found in
      let same = repeat-enough item shrinks one other x.1 (omega arith) (omega arith) in
      rw (found, same) refl
]

-- one turn, and the turns behind it
pub many-turn : {A : Type 0} (item : Reads A) → Shrinks item → (toks : List Tok) (x : A) (rest : List Tok) (more : List A × List Tok) → item toks ≡ Some (x, rest) → many item rest ≡ Some more → many item toks ≡ Some (x ∷ more.0, more.1)
unfolding many repeat
many-turn item shrinks [] x rest more found rest_found = let fewer : length rest < 0 = shrinks [] (x, rest) found in absurd (omega arith)
many-turn item shrinks (tok ∷ toks) x rest more found rest_found =
    let fewer : length rest < suc (length toks) = shrinks (tok ∷ toks) (x, rest) found in
    let same = repeat-enough item shrinks (length toks) (length rest) rest (omega arith) (omega arith) in
    else-Some _ _ _ (bind-Some (item (tok ∷ toks)) _ (x, rest) _ found (bind-Some (repeat (length toks) item rest) _ more _ (same ∙ rest_found) refl))

-- and no turn
pub many-none : {A : Type 0} (item : Reads A) (toks : List Tok) → item toks ≡ None → many item toks ≡ Some ([], toks)
unfolding many repeat
many-none item [] none = refl
many-none item (tok ∷ toks) none = else-None _ _ (bind-None (item (tok ∷ toks)) _ none)

pub many-answers : {A : Type 0} (item : Reads A) (toks : List Tok) → Answers (many item toks)
unfolding many
many-answers item toks = repeat-answers (length toks) item toks

-- ---- a part behind a separator, and parts with separators between them

pub behind-sound : {A : Type 0} (Fits : A → Type 0) (yield : A → List Tok) (between : Op) (item : Reads A) → IsSound Fits yield item
    → IsSound (λ (part : Tok × A). IsOp between part.0 × Fits part.1) (λ (part : Tok × A). part.0 ∷ yield part.1) (behind (is_op between) item)
unfolding behind
behind-sound Fits yield between item sound toks y h = elim (of_bind (token (is_op between) toks) _ _ h) [
  | bound word found item_found ↦ elim (of_bind (item word.1) _ _ item_found) [
    | bound x x_found same ↦
        let took = token_takes (is_op between) toks word found in
        let part = sound word.1 x x_found in
        let all : Read (λ (p : Tok × _). IsOp between p.0 × Fits p.1) (λ (p : Tok × _). p.0 ∷ yield p.1) toks (word.0, x.0) x.1 =
        record { fits = (is_op-IsOp between word.0 took.is, part.fits); takes = took.takes ∙ ap (λ others. word.0 ∷ others) part.takes } in
        by_some (λ z. Read (λ (p : Tok × _). IsOp between p.0 × Fits p.1) (λ (p : Tok × _). p.0 ∷ yield p.1) toks z.0 z.1) ((word.0, x.0), x.1) y same all
  ]
]

pub separated-sound : {A : Type 0} (Fits : A → Type 0) (yield : A → List Tok) (between : Op) (item : Reads A) → IsSound Fits yield item
    → IsSound (ManyFit Fits between) (many_yield yield) (separated between item)
unfolding separated
separated-sound {A} Fits yield between item sound toks y h = elim (of_bind (item toks) _ _ h) [
  | bound first found rest_found ↦ elim (of_bind (many (behind (is_op between) item) first.1) _ _ rest_found) [
    | bound rest more_found same ↦
        let head = sound toks first found in
        let tail = many-sound _ _ (behind (is_op between) item) (behind-sound Fits yield between item sound) first.1 rest more_found in
        let all : Read (ManyFit Fits between) (many_yield yield) toks (record { first = first.0; rest = rest.0 }) rest.1 =
        record { fits = (head.fits, tail.fits); takes = head.takes ∙ ap (λ others. yield first.0 ++ others) tail.takes ∙ sym (append_assoc (yield first.0) (flat_map (λ part. part.0 ∷ yield part.1) rest.0) rest.1) } in
        by_some (λ z. Read (ManyFit Fits between) (many_yield yield) toks z.0 z.1) (record { first = first.0; rest = rest.0 }, rest.1) y same all
  ]
]

-- a separator and a part behind it, where the part is read
pub behind-exact : {A : Type 0} (Fits : A → Type 0) (Stops : List Tok → Type 0) (yield : A → List Tok) (between : Op) (item : Reads A) → IsExact Fits Stops yield item
    → IsExact (λ (part : Tok × A). IsOp between part.0 × Fits part.1) Stops (λ (part : Tok × A). part.0 ∷ yield part.1) (behind (is_op between) item)
unfolding behind
behind-exact Fits Stops yield between item exact part rest fit stops =
    bind-Some (token (is_op between) (part.0 ∷ (yield part.1 ++ rest))) _ (part.0, yield part.1 ++ rest) _ (token-at (is_op between) part.0 (yield part.1 ++ rest) (IsOp-is_op between part.0 fit.0))
    (bind-Some (item (yield part.1 ++ rest)) _ (part.1, rest) _ (exact part.1 rest fit.1 stops) refl)

-- With separators between parts it reads them all, where each part is read before a separator and before what follows.
pub separated-exact : {A : Type 0} (Fits : A → Type 0) (Stops : List Tok → Type 0) (yield : A → List Tok) (between : Op) (item : Reads A) → IsExact Fits Stops yield item
    → ((tok : Tok) (rest : List Tok) → IsOp between tok → Stops (tok ∷ rest))
    → IsExact (ManyFit Fits between) (λ rest. Stops rest × (behind (is_op between) item rest ≡ None)) (many_yield yield) (separated between item)
unfolding separated
separated-exact {A} Fits Stops yield between item exact starts parts rest fit stops =
    let later : List Tok = flat_map (λ (part : Tok × A). part.0 ∷ yield part.1) parts.rest in
    let tail = many-exact (λ (part : Tok × A). IsOp between part.0 × Fits part.1) Stops (λ (part : Tok × A). part.0 ∷ yield part.1) (behind (is_op between) item)
    (behind-exact Fits Stops yield between item exact) (λ part others fits. starts part.0 (yield part.1 ++ others) fits.0) (λ part fits. omega arith) parts.rest rest fit.1 stops in
    let here : Stops (later ++ rest) = stops_before (λ (part : Tok × A). IsOp between part.0 × Fits part.1) Stops (λ (part : Tok × A). part.0 ∷ yield part.1)
    (λ part others fits. starts part.0 (yield part.1 ++ others) fits.0) parts.rest rest fit.1 stops.0 in
    let head = exact parts.first (later ++ rest) fit.0 here in
    rw append_assoc (bind-Some (item (yield parts.first ++ (later ++ rest))) _ (parts.first, later ++ rest) _ head (bind-Some (many (behind (is_op between) item) (later ++ rest)) _ (parts.rest, rest) _ tail refl))

-- ---- what goes on growing

-- What is known of what is in hand, and of the tokens behind it, stays known where each turn keeps it.
pub chain-keeps : {A : Type 0} (Known : A → List Tok → Type 0) (turn : A → Reads A)
    → ((x : A) (toks : List Tok) (y : A × List Tok) → Known x toks → turn x toks ≡ Some y → Known y.0 y.1)
    → (turns : ℕ) (x : A) (toks : List Tok) (y : A × List Tok) → Known x toks → chain turn turns x toks ≡ Some y → Known y.0 y.1
unfolding chain
chain-keeps Known turn keeps zero x toks y known h = by_some (λ z. Known z.0 z.1) (x, toks) y h known
chain-keeps Known turn keeps (suc turns) x toks y known h = elim (of_else _ _ _ h) [
  | by_first e ↦ elim (of_bind (turn x toks) _ _ e) [
    | bound next found further ↦ chain-keeps Known turn keeps turns next.0 next.1 y (keeps x toks next known found) further
  ]
  | by_other e same ↦ by_some (λ z. Known z.0 z.1) (x, toks) y same known
]

pub chain-answers : {A : Type 0} (turn : A → Reads A) (turns : ℕ) (x : A) (toks : List Tok) → Answers (chain turn turns x toks)
unfolding chain
chain-answers turn zero x toks = answers (x, toks) refl
chain-answers turn (suc turns) x toks = elim (perhaps (turn x toks)) [
  | missing none ↦ answers (x, toks) (else-None _ _ (bind-None (turn x toks) _ none))
  | there next found ↦ elim (chain-answers turn turns next.0 next.1) [
    | answers y further ↦ answers y (else-Some _ _ _ (bind-Some (turn x toks) _ next _ found further))
  ]
]

-- a turn, and the turns behind it
pub chain-turn : {A : Type 0} (turn : A → Reads A) (turns : ℕ) (x : A) (toks : List Tok) (next : A × List Tok) → turn x toks ≡ Some next → chain turn (suc turns) x toks ≡ chain turn turns next.0 next.1
unfolding chain
chain-turn turn turns x toks next found = elim (chain-answers turn turns next.0 next.1) [
  | answers y further ↦ else-Some _ _ _ (bind-Some (turn x toks) _ next _ found further) ∙ sym further
]

-- and no turn
pub chain-stops : {A : Type 0} (turn : A → Reads A) (turns : ℕ) (x : A) (toks : List Tok) → turn x toks ≡ None → chain turn turns x toks ≡ Some (x, toks)
unfolding chain
chain-stops turn zero x toks none = refl
chain-stops turn (suc turns) x toks none = else-None _ _ (bind-None (turn x toks) _ none)
