-- The loops of the code over parts of one kind: what was read so far, and what the reader reads from there on, are
-- together what it reads.
use Rattle.std.proofs.Common.{◌≡◌, ℕ, zero, suc, ◌≤◌, ◌<◌, List, [], ◌∷◌, ◌++◌, Option, Some, None, length, drop, refl, ◌∙◌, arith, append_assoc, append-nil, length-drop}
use Rattle.rf_jtree.specs.declared.tokens.Tok.{Tok}
use Rattle.rf_jexpr.specs.Reads.{Reads, repeat, many}
use Rattle.rf_jexpr.proofs.Tools.{bind-Some, bind-None, else-Some, else-None}
use Rattle.rf_jexpr.proofs.LoopLemmas.{answers, repeat-answers}

abbrev pub ahead : {A : Type 0} → List A → Option (List A × List Tok) → Option (List A × List Tok)
ahead done None = None
ahead done (Some x) = Some (done ++ x.0, x.1)

ahead-nothing : {A : Type 0} (read : Option (List A × List Tok)) → read ≡ ahead [] read
ahead-nothing None = refl
ahead-nothing (Some x) = refl

pub record IsGoing {A : Type 0} (item : Reads A) (start : List Tok) (done : List A) (rest : List Tok) : Type 0 where
  pub turns : ℕ
  pub enough : length rest ≤ turns
  pub same : many item start ≡ ahead done (repeat turns item rest)

going-start : {A : Type 0} (item : Reads A) (toks : List Tok) → IsGoing item toks [] toks
unfolding many
going-start item toks = record { turns = length toks; enough = omega arith; same = ahead-nothing (repeat (length toks) item toks) }

repeat-turn : {A : Type 0} (item : Reads A) (done : List A) (rest next : List Tok) (x : A) (turns : ℕ) → item rest ≡ Some (x, next) → ahead done (repeat (suc turns) item rest) ≡ ahead (done ++ x ∷ []) (repeat turns item next)
unfolding repeat
repeat-turn item done rest next x turns h = elim (repeat-answers turns item next) [
  | answers more found ↦
      let here : repeat (suc turns) item rest ≡ Some (x ∷ more.0, more.1) = else-Some _ _ _ (bind-Some (item rest) _ (x, next) _ h (bind-Some (repeat turns item next) _ more _ found refl)) in
      rw (here, found, append_assoc) refl
]

repeat-end : {A : Type 0} (item : Reads A) (rest : List Tok) (turns : ℕ) → item rest ≡ None → repeat turns item rest ≡ Some ([], rest)
unfolding repeat
repeat-end item rest zero h = refl
repeat-end item rest (suc turns) h = else-None _ _ (bind-None (item rest) _ h)

turn-of : {A : Type 0} (item : Reads A) (start : List Tok) (done : List A) (rest next : List Tok) (x : A) (turns : ℕ) → length rest ≤ turns → many item start ≡ ahead done (repeat turns item rest) → item rest ≡ Some (x, next) → length next < length rest → IsGoing item start (done ++ x ∷ []) next
turn-of item start done rest next x zero enough same h less = absurd (omega arith)
turn-of item start done rest next x (suc turns) enough same h less = record { turns = turns; enough = omega arith; same = same ∙ repeat-turn item done rest next x turns h }

-- what was read of the tokens from one place on, up to another
pub record IsAtTurn {A : Type 0} (item : Reads A) (toks : List Tok) (at : ℕ) (done : List A) (end : ℕ) : Type 0 where
  pub going : IsGoing item (drop at toks) done (drop end toks)
  pub forth : at ≤ end
  pub within : end ≤ length toks

pub first-turn : {A : Type 0} (item : Reads A) (toks : List Tok) (at : ℕ) → at ≤ length toks → IsAtTurn item toks at [] at
first-turn item toks at h = record { going = going-start item (drop at toks); forth = omega arith; within = h }

pub next-turn : {A : Type 0} (item : Reads A) (toks : List Tok) (at : ℕ) (done : List A) (end : ℕ) (x : A) (next : ℕ) → IsAtTurn item toks at done end → item (drop end toks) ≡ Some (x, drop next toks) → end < next → next ≤ length toks → IsAtTurn item toks at (done ++ x ∷ []) next
next-turn item toks at done end x next turn h forth within =
    let less : length (drop next toks) < length (drop end toks) = simp length-drop (omega arith) in
    record {
      going = turn-of item (drop at toks) done (drop end toks) (drop next toks) x turn.going.turns turn.going.enough turn.going.same h less;
      forth = omega (arith, turn.forth);
      within = within;
    }

pub last-turn : {A : Type 0} (item : Reads A) (toks : List Tok) (at : ℕ) (done : List A) (end : ℕ) → IsAtTurn item toks at done end → item (drop end toks) ≡ None → many item (drop at toks) ≡ Some (done, drop end toks)
last-turn item toks at done end turn h = turn.going.same ∙ (rw (repeat-end item (drop end toks) turn.going.turns h, append-nil) refl)

pub ruleset turns = (first-turn, next-turn, last-turn)
