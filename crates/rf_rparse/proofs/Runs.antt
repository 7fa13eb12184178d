-- A machine that takes one token at a time, over a list of tokens.
use Rattle.std.proofs.Common.{◌≡◌, ◌∙◌, ap, refl, List, [], ◌∷◌, ◌++◌, Option, Some, None}
use Rattle.rf_rtree.specs.Tokens.{Tok}
use Rattle.rf_rparse.specs.declared.next.Next.{Next}
use Rattle.rf_rparse.specs.declared.next.Next.TheVariants.{More, Whole, Held, No}

abbrev pub on : {A B : Type 0} → Option A → (A → Option B) → Option B
on None f = None
on (Some a) f = f a

abbrev pub run : {S : Type 0} → (Tok → S → Option S) → List Tok → S → Option S
run step [] s = Some s
run step (tok ∷ toks) s = on (step tok s) (run step toks)

-- what goes on
abbrev pub taken : {S X : Type 0} → Next S X → Option S
taken (More s) = Some s
taken (Whole x) = None
taken (Held x) = None
taken No = None

on_append : {S : Type 0} (o : Option S) (g h k : S → Option S) → ((s : S) → k s ≡ on (g s) h) → on o k ≡ on (on o g) h
on_append None g h k e = refl
on_append (Some s) g h k e = e s

pub run_append : {S : Type 0} (f : Tok → S → Option S) (xs ys : List Tok) (s : S) → run f (xs ++ ys) s ≡ on (run f xs s) (run f ys)
run_append f [] ys s = refl
run_append f (x ∷ xs) ys s = on_append (f x s) (run f xs) (run f ys) (run f (xs ++ ys)) (run_append f xs ys)

-- a run of which the first part is known
pub run_from : {S : Type 0} (f : Tok → S → Option S) (xs ys : List Tok) (s t : S) → run f xs s ≡ Some t → run f (xs ++ ys) s ≡ run f ys t
run_from f xs ys s t e = run_append f xs ys s ∙ ap (λ o. on o (run f ys)) e

module _ {S T : Type 0} (f : Tok → S → Option S) (g : Tok → T → Option T) (wrap : S → T)
    (steps : (tok : Tok) (s s' : S) → f tok s ≡ Some s' → g tok (wrap s) ≡ Some (wrap s')) where
  within_on : (tok : Tok) (toks : List Tok) (s s' : S) (o : Option S) → f tok s ≡ o → on o (run f toks) ≡ Some s' →
      ((s s' : S) → run f toks s ≡ Some s' → run g toks (wrap s) ≡ Some (wrap s')) →
      on (g tok (wrap s)) (run g toks) ≡ Some (wrap s')
  within_on tok toks s s' None is e later = let h : None ≡ Some s' = e in cc
  within_on tok toks s s' (Some next) is e later =
      ap (λ o. on o (run g toks)) (steps tok s next is) ∙ later next s' e

  -- the run of a part is a run of the whole that it is a part of
  pub within : (toks : List Tok) (s s' : S) → run f toks s ≡ Some s' → run g toks (wrap s) ≡ Some (wrap s')
  within [] s s' e = let h : Some s ≡ Some s' = e in cc
  within (tok ∷ toks) s s' e = within_on tok toks s s' (f tok s) refl e (within toks)
