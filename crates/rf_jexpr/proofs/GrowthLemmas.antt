-- The loops of the code over parts of one kind, with the depth of what was read, and over an expression that grows.
use Rattle.std.proofs.Common.{◌≡◌, ℕ, zero, suc, ◌+◌, ◌≤◌, ◌<◌, max, List, [], ◌∷◌, ◌++◌, Option, Some, None, map, length, drop, refl, ap, sym, ◌∙◌, subst, arith}
use Rattle.std.proofs.lemmas.List.{map-append}
use Rattle.rf_jtree.specs.declared.tokens.Tok.{Tok}
use Rattle.rf_jtree.specs.ExprTrees.{ExprTree, expr_depth}
use Rattle.rf_jtree.specs.NameTrees.{list_depth}
use Rattle.rf_jexpr.specs.Reads.{Reads, and_then, many, chain}
use Rattle.rf_jexpr.proofs.LoopLemmas.{chain-turn, chain-stops}
use Rattle.rf_jexpr.proofs.Tools.{bind-Some}
use Rattle.rf_jexpr.proofs.TurnLemmas.{IsAtTurn, first-turn, next-turn, last-turn}

-- ---- parts of one kind

max-zero : (n : ℕ) → max n 0 ≡ n
max-zero n = omega arith

max-assoc : (a b c : ℕ) → max a (max b c) ≡ max (max a b) c
max-assoc a b c = omega arith

zero-max : (n : ℕ) → max 0 n ≡ n
zero-max n = omega arith

list_depth-snoc : {A : Type 0} (depth : A → ℕ) (xs : List A) (x : A) → list_depth depth (xs ++ x ∷ []) ≡ max (list_depth depth xs) (depth x)
list_depth-snoc depth [] x = max-zero (depth x) ∙ sym (zero-max (depth x))
list_depth-snoc depth (y ∷ xs) x = ap (max (depth y)) (list_depth-snoc depth xs x) ∙ max-assoc (depth y) (list_depth depth xs) (depth x)

-- the parts that were read up to a place, what they show as, and how deep they are
pub record IsFilling {A B : Type 0} (shown : A → B) (depth : B → ℕ) (room : ℕ) (item : Reads B) (toks : List Tok) (at : ℕ) (done : List A) (end deep : ℕ) : Type 0 where
  pub turn : IsAtTurn item toks at (map shown done) end
  pub depth_is : deep ≡ list_depth depth (map shown done)
  pub shallow : deep ≤ room

pub first-filling : {A B : Type 0} (shown : A → B) (depth : B → ℕ) (room : ℕ) (item : Reads B) (toks : List Tok) (at : ℕ) (done : List A) → done ≡ [] → at ≤ length toks → IsFilling shown depth room item toks at done at 0
first-filling {A} {B} shown depth room item toks at done none h =
    let start : IsFilling {A = A} {B = B} shown depth room item toks at [] at 0 = record { turn = first-turn item toks at h; depth_is = refl; shallow = omega arith } in
    subst (λ (xs : List A). IsFilling shown depth room item toks at xs at 0) (sym none) start

pub next-filling : {A B : Type 0} (shown : A → B) (depth : B → ℕ) (room : ℕ) (item : Reads B) (toks : List Tok) (at : ℕ) (done : List A) (end deep : ℕ) (x : A) (next deep_x : ℕ) (more : List A) (deep_more : ℕ)
    → IsFilling shown depth room item toks at done end deep → item (drop end toks) ≡ Some (shown x, drop next toks) → end < next → next ≤ length toks → deep_x ≡ depth (shown x) → deep_x ≤ room
    → more ≡ done ++ x ∷ [] → deep_more ≡ max deep deep_x → IsFilling shown depth room item toks at more next deep_more
next-filling {A} {B} shown depth room item toks at done end deep x next deep_x more deep_more filling found forth within deep_is shallow more_is deep_more_is =
    let turn : IsAtTurn item toks at (map shown done ++ shown x ∷ []) next = next-turn item toks at (map shown done) end (shown x) next filling.turn found forth within in
    let list : map shown done ++ shown x ∷ [] ≡ map shown (done ++ x ∷ []) = sym (map-append shown done (x ∷ [])) in
    let deeper : max deep deep_x ≡ list_depth depth (map shown (done ++ x ∷ [])) =
    rw (filling.depth_is, deep_is) (sym (list_depth-snoc depth (map shown done) (shown x)) ∙ ap (list_depth depth) list) in
    let step : IsFilling shown depth room item toks at (done ++ x ∷ []) next (max deep deep_x) =
    record {
      turn = subst (λ (xs : List B). IsAtTurn item toks at xs next) list turn;
      depth_is = deeper;
      shallow = omega (arith, filling.shallow);
    } in
    rw (more_is, deep_more_is) step

pub last-filling : {A B : Type 0} (shown : A → B) (depth : B → ℕ) (room : ℕ) (item : Reads B) (toks : List Tok) (at : ℕ) (done : List A) (end deep : ℕ) → IsFilling shown depth room item toks at done end deep → item (drop end toks) ≡ None → many item (drop at toks) ≡ Some (map shown done, drop end toks)
last-filling shown depth room item toks at done end deep filling nothing = last-turn item toks at (map shown done) end filling.turn nothing

-- ---- an expression that grows

-- What was to be read is what comes of going on with the expression in hand, and turns enough are left for all the room.
pub record IsGrowing {A : Type 0} (turn : A → Reads A) (room : ℕ) (read : Option (A × List Tok)) (x : A) (rest : List Tok) (deep : ℕ) : Type 0 where
  pub turns : ℕ
  pub enough : room ≤ turns + deep
  pub same : read ≡ chain turn turns x rest

growth-of : {A : Type 0} (turn : A → Reads A) (room : ℕ) (read : Option (A × List Tok)) (x : A) (rest : List Tok) (deep : ℕ) (y : A) (next : List Tok) (deep_y : ℕ) (turns : ℕ)
    → room ≤ turns + deep → read ≡ chain turn turns x rest → turn x rest ≡ Some (y, next) → deep < deep_y → deep_y ≤ room → IsGrowing turn room read y next deep_y
growth-of turn room read x rest deep y next deep_y zero enough same found deeper shallow = absurd (omega arith)
growth-of turn room read x rest deep y next deep_y (suc turns) enough same found deeper shallow = record { turns = turns; enough = omega arith; same = same ∙ chain-turn turn turns x rest (y, next) found }

-- the same of the tokens from one place on, up to another, with what is known of the expression in hand
pub record IsInHand (turn : ExprTree → Reads ExprTree) (room : ℕ) (toks : List Tok) (at : ℕ) (read : Option (ExprTree × List Tok)) (tree : ExprTree) (end deep : ℕ) : Type 0 where
  pub growing : IsGrowing turn room read tree (drop end toks) deep
  pub known : deep ≡ expr_depth tree
  pub shallow : deep ≤ room
  pub forth : at ≤ end
  pub within : end ≤ length toks

pub first-hand : (turn : ExprTree → Reads ExprTree) (room : ℕ) (toks : List Tok) (at turns : ℕ) (first : Option (ExprTree × List Tok)) (tree : ExprTree) (end deep : ℕ)
    → first ≡ Some (tree, drop end toks) → at ≤ end → end ≤ length toks → deep ≡ expr_depth tree → deep ≤ room → room ≤ turns → IsInHand turn room toks at (and_then first (λ y. chain turn turns y.0 y.1)) tree end deep
first-hand turn room toks at turns first tree end deep found forth within known shallow enough =
    let growing : IsGrowing turn room (and_then first (λ y. chain turn turns y.0 y.1)) tree (drop end toks) deep =
    record { turns = turns; enough = omega arith; same = bind-Some first _ (tree, drop end toks) _ found refl } in
    record { growing = growing; known = known; shallow = shallow; forth = forth; within = within }

-- with no turn taken yet
pub start-hand : (turn : ExprTree → Reads ExprTree) (room : ℕ) (toks : List Tok) (tree : ExprTree) (end deep : ℕ)
    → end ≤ length toks → deep ≡ expr_depth tree → deep ≤ room → IsInHand turn room toks end (chain turn room tree (drop end toks)) tree end deep
start-hand turn room toks tree end deep within known shallow =
    let growing : IsGrowing turn room (chain turn room tree (drop end toks)) tree (drop end toks) deep = record { turns = room; enough = omega arith; same = refl } in
    record { growing = growing; known = known; shallow = shallow; forth = omega arith; within = within }

-- one turn: the greater tree is what the one in hand and its tail make
pub next-hand : (turn : ExprTree → Reads ExprTree) (room : ℕ) (toks : List Tok) (at : ℕ) (read : Option (ExprTree × List Tok)) (tree : ExprTree) (end deep : ℕ) (joined : ExprTree) (next deep_joined : ℕ) (more : ExprTree) (more_end more_deep : ℕ)
    → IsInHand turn room toks at read tree end deep → turn tree (drop end toks) ≡ Some (joined, drop next toks) → end ≤ next → next ≤ length toks → deep_joined ≡ expr_depth joined → deep_joined ≤ room → deep < deep_joined
    → more ≡ joined → more_end ≡ next → more_deep ≡ deep_joined → IsInHand turn room toks at read more more_end more_deep
next-hand turn room toks at read tree end deep joined next deep_joined more more_end more_deep hand found forth within known shallow deeper more_is end_is deep_is =
    let growing : IsGrowing turn room read joined (drop next toks) deep_joined =
    growth-of turn room read tree (drop end toks) deep joined (drop next toks) deep_joined hand.growing.turns hand.growing.enough hand.growing.same found deeper shallow in
    let step : IsInHand turn room toks at read joined next deep_joined =
    record { growing = growing; known = known; shallow = shallow; forth = omega (arith, hand.forth); within = within } in
    rw (more_is, end_is, deep_is) step

pub last-hand : (turn : ExprTree → Reads ExprTree) (room : ℕ) (toks : List Tok) (at : ℕ) (read : Option (ExprTree × List Tok)) (tree : ExprTree) (end deep : ℕ)
    → IsInHand turn room toks at read tree end deep → turn tree (drop end toks) ≡ None → read ≡ Some (tree, drop end toks)
last-hand turn room toks at read tree end deep hand nothing = hand.growing.same ∙ chain-stops turn hand.growing.turns tree (drop end toks) nothing
