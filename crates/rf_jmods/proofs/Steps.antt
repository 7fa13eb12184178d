-- The steps of a reader that answered, one by one, and what was read of the tokens in all.
use Rattle.std.proofs.Common.{◌≡◌, ℕ, suc, ◌+◌, ◌≤◌, max, List, [], ◌∷◌, ◌++◌, Option, Some, Bool, IsTrue, ap, ◌∙◌, sym, append_assoc, arith}
use Rattle.rf_jtree.specs.declared.tokens.Tok.{Tok}
use Rattle.rf_jexpr.specs.Reads.{Reads, ◌>>=◌, when, token}
use Rattle.rf_jexpr.proofs.LoopLemmas.{Read, IsSound}
use Rattle.rf_jexpr.proofs.Tools.{bound, of_bind, passed, of_when, Took, token_takes, by_some}

-- a token, and what follows it
pub step_tok : {B P : Type 0} (test : Tok → Bool) (toks : List Tok) (next : Tok × List Tok → Option B) (y : B) → (token test toks >>= next) ≡ Some y
    → ((x : Tok × List Tok) → Took test toks x.0 x.1 → next x ≡ Some y → P) → P
step_tok test toks next y h further = elim (of_bind (token test toks) next y h) [ bound x found after ↦ further x (token_takes test toks x found) after ]

-- a part, and what follows it
pub step_part : {A B P : Type 0} (Fits : A → Type 0) (yield : A → List Tok) (item : Reads A) (toks : List Tok) (next : A × List Tok → Option B) (y : B) → IsSound Fits yield item → (item toks >>= next) ≡ Some y
    → ((x : A × List Tok) → Read Fits yield toks x.0 x.1 → next x ≡ Some y → P) → P
step_part Fits yield item toks next y sound h further = elim (of_bind (item toks) next y h) [ bound x found after ↦ further x (sound toks x found) after ]

-- a test, and what follows it
pub step_when : {A P : Type 0} (test : Bool) (result : Option A) (y : A) → when test result ≡ Some y → (IsTrue test → result ≡ Some y → P) → P
step_when test result y h further = elim (of_when test result y h) [ passed is found ↦ further is found ]

-- ---- the tokens in all

-- These tokens stood there, with the rest behind them.
pub record Takes (toks front rest : List Tok) : Type 0 where
  pub same : toks ≡ front ++ rest

pub tok_then : {toks mid more rest : List Tok} {tok : Tok} → toks ≡ tok ∷ mid → Takes mid more rest → Takes toks (tok ∷ more) rest
tok_then {tok = tok} h k = record { same = h ∙ ap (λ others. tok ∷ others) k.same }

pub part_then : {toks mid more rest : List Tok} (part : List Tok) → toks ≡ part ++ mid → Takes mid more rest → Takes toks (part ++ more) rest
part_then {more = more} {rest = rest} part h k = record { same = h ∙ ap (λ others. part ++ others) k.same ∙ sym (append_assoc part more rest) }

pub at_last : {toks rest : List Tok} (part : List Tok) → toks ≡ part ++ rest → Takes toks part rest
at_last part h = record { same = h }

pub tok_last : {toks rest : List Tok} {tok : Tok} → toks ≡ tok ∷ rest → Takes toks (tok ∷ []) rest
tok_last h = record { same = h }

-- the value
pub done : {A : Type 0} (Fits : A → Type 0) (yield : A → List Tok) (toks : List Tok) (x : A) (rest : List Tok) (y : A × List Tok) → Some (x, rest) ≡ Some y → Fits x → Takes toks (yield x) rest → Read Fits yield toks y.0 y.1
done Fits yield toks x rest y same good takes = by_some (λ z. Read Fits yield toks z.0 z.1) (x, rest) y same (record { fits = good; takes = takes.same })

-- ---- depths

pub max_le : (a b n : ℕ) → a ≤ n → b ≤ n → max a b ≤ n
max_le a b n h k = omega arith

pub one_more : (a n : ℕ) → a ≤ n → a + 1 ≤ suc n
one_more a n h = omega arith

pub alone : (n : ℕ) → 1 ≤ suc n
alone n = omega arith
