-- What a search of a comment finds: its end, and a backslash.
use Rattle.std.proofs.Common.{◌≡◌, ℕ, zero, suc, ◌+◌, ◌<◌, ◌≤◌, List, [], ◌∷◌, inl, inr, Option, Some, None, get_or, length, refl, ap, ◌∙◌, arith, length-append}
use Rattle.std.proofs.lemmas.Bool.{cases_lt}
use Rattle.std.proofs.lemmas.List.{get_or_at}
use Rattle.memchr.specs.Find.{OccursAt, FindsNeedle, Nowhere, Passes, is_byte}
use Rattle.rf_jtree.specs.Trivia.{EscapesAreAllowed}
use Rattle.rf_jlex.specs.Comments.{EndsAt, GivesFirstEnd}
use Rattle.rf_jlex.proofs.CommentLemmas.{ends_within}

occurs : (body : List ℕ) (at : ℕ) → EndsAt body at → OccursAt body (42 ∷ 47 ∷ []) at
occurs body at ends = record { fits = omega (arith, ends_within body at ends); reads = reads }
  where
    reads : (j : ℕ) → j < 2 → get_or body (at + j) 0 ≡ get_or (42 ∷ 47 ∷ []) j 0
    reads zero below = let at_0 : at + 0 ≡ at = omega arith in ap (λ k. get_or body k 0) at_0 ∙ ends.star
    reads (suc zero) below = ends.slash
    reads (suc (suc j)) below = absurd (too_far j below)
      where
        too_far : (j : ℕ) → suc (suc j) < 2 → ⊥
        too_far j below = omega arith

ends : (body : List ℕ) (at : ℕ) → OccursAt body (42 ∷ 47 ∷ []) at → EndsAt body at
ends body at found =
    let at_0 : at ≡ at + 0 = omega arith in
    record { star = ap (λ k. get_or body k 0) at_0 ∙ found.reads 0 (omega arith); slash = found.reads 1 (omega arith) }

-- the first `*/` is the first end
pub gives_first_end : (body : List ℕ) (found : Option ℕ) → FindsNeedle body (42 ∷ 47 ∷ []) 0 found → GivesFirstEnd body found
gives_first_end body None nowhere = λ at there. nowhere at (omega arith) (omega (arith, ends_within body at there)) (occurs body at there)
gives_first_end body (Some at) found = (ends body at found.1, λ other there. not_before other there)
  where
    not_before : (other : ℕ) → EndsAt body other → at ≤ other
    not_before other there =
        elim (cases_lt other at) [
          | inl early ↦ absurd (found.0.before other (omega arith) early (occurs body other there))
          | inr late ↦ late
        ]

-- where no backslash stands, no escape begins
pub without_backslash : (comment : List ℕ) → Nowhere (Passes (is_byte 92) comment) 0 (length comment) → EscapesAreAllowed comment
without_backslash comment nowhere = λ front rest parts even.
    let there : get_or comment (length front) 0 ≡ 92 = ap (λ bytes. get_or bytes (length front) 0) parts ∙ get_or_at front 92 (117 ∷ rest) 0 (length front) refl in
    let long : length comment ≡ length front + suc (suc (length rest)) = ap (λ bytes. length bytes) parts ∙ length-append front (92 ∷ 117 ∷ rest) in
    absurd (nowhere (length front) (omega arith) (omega arith) (ap (is_byte 92) there))
