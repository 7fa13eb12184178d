-- What is taken off a stack, and how it is joined.
use Rattle.std.proofs.Common.{◌≡◌, ◌∙◌, sym, ap, ◌<◌, List, [], ◌∷◌, Bool, true, false, Option, Some, None, length, arith}
use Rattle.rf_rtree.specs.declared.forms.RForm.{RForm}
use Rattle.rf_rtree.specs.declared.forms.RForm.TheVariants as form
use Rattle.rf_rparse.specs.declared.frames.Frame.{Frame}
use Rattle.rf_rparse.specs.declared.frames.Frame.TheVariants.{Not, Paren, Quant, And, Or, Implies}
use Rattle.rf_rparse.specs.Frames.{done, join_or, join_implies, take_not, take_and, take_or, take_implies}

true_false : {X : Type 0} {s k : List Frame} → ◌≡◌ {A = Bool × List Frame} (true, s) (false, k) → X
true_false h = let e : true ≡ false = ap (λ p. p.0) h in cc

false_true : {X : Type 0} {s k : List Frame} → ◌≡◌ {A = Bool × List Frame} (false, s) (true, k) → X
false_true h = let e : false ≡ true = ap (λ p. p.0) h in cc

some_none : {X : Type 0} {a : RForm} {s k : List Frame} → ◌≡◌ {A = Option RForm × List Frame} (Some a, s) (None, k) → X
some_none {a = a} h = let e : Some a ≡ None = ap (λ p. p.0) h in cc

none_some : {X : Type 0} {a : RForm} {s k : List Frame} → ◌≡◌ {A = Option RForm × List Frame} (None, s) (Some a, k) → X
none_some {a = a} h = let e : None ≡ Some a = ap (λ p. p.0) h in cc

same : {a b : RForm} {s k : List Frame} → ◌≡◌ {A = Option RForm × List Frame} (Some a, s) (Some b, k) → a ≡ b
same {a = a} {b = b} h = let e : Some a ≡ Some b = ap (λ p. p.0) h in cc

pub not_joined : (x : RForm) (old new : List Frame) → (true, new) ≡ take_not old → done x old ≡ done (form.Not x) new
not_joined x (Not ∷ old) new h = let e : new ≡ old = ap (λ p. p.1) h in ap (done (form.Not x)) (sym e)
not_joined x old new h = true_false h

pub not_shorter : (old new : List Frame) → (true, new) ≡ take_not old → length new < length old
not_shorter (Not ∷ old) new h = let e : new ≡ old = ap (λ p. p.1) h in omega (arith, ap length e)
not_shorter old new h = true_false h

-- where no `not` was taken, the stack is as it was
kept : (old between : List Frame) → (false, between) ≡ take_not old → between ≡ old
kept [] between h = ap (λ p. p.1) h
kept (Not ∷ old) between h = false_true h
kept (Paren ∷ old) between h = ap (λ p. p.1) h
kept (Quant every head ∷ old) between h = ap (λ p. p.1) h
kept (And left ∷ old) between h = ap (λ p. p.1) h
kept (Or left ∷ old) between h = ap (λ p. p.1) h
kept (Implies left ∷ old) between h = ap (λ p. p.1) h

and_taken : (x left : RForm) (old new : List Frame) → (Some left, new) ≡ take_and old → (form.And left x, new) ≡ done x old
and_taken x left (And other ∷ old) new h =
    let a : left ≡ other = same h in
    let b : new ≡ old = ap (λ p. p.1) h in cc
and_taken x left old new h = some_none h

pub and_joined : (x left : RForm) (old between new : List Frame) → (false, between) ≡ take_not old →
    (Some left, new) ≡ take_and between → (form.And left x, new) ≡ done x old
and_joined x left old between new none h = and_taken x left old new (h ∙ ap take_and (kept old between none))

no_and_taken : (x : RForm) (old new : List Frame) → (false, old) ≡ take_not old → (None, new) ≡ take_and old → (x, new) ≡ done x old
no_and_taken x [] new none h = ap (λ (k : List Frame). (x, k)) (ap (λ p. p.1) h)
no_and_taken x (Not ∷ old) new none h = false_true none
no_and_taken x (Paren ∷ old) new none h = ap (λ (k : List Frame). (x, k)) (ap (λ p. p.1) h)
no_and_taken x (Quant every head ∷ old) new none h = ap (λ (k : List Frame). (x, k)) (ap (λ p. p.1) h)
no_and_taken x (And left ∷ old) new none h = none_some h
no_and_taken x (Or left ∷ old) new none h = ap (λ (k : List Frame). (x, k)) (ap (λ p. p.1) h)
no_and_taken x (Implies left ∷ old) new none h = ap (λ (k : List Frame). (x, k)) (ap (λ p. p.1) h)

pub no_and : (x : RForm) (old between new : List Frame) → (false, between) ≡ take_not old →
    (None, new) ≡ take_and between → (x, new) ≡ done x old
no_and x old between new none h =
    let e = kept old between none in
    no_and_taken x old new (ap (λ (k : List Frame). (false, k)) (sym e) ∙ none) (h ∙ ap take_and e)

pub or_joined : (x left : RForm) (old new : List Frame) → (Some left, new) ≡ take_or old → (form.Or left x, new) ≡ join_or x old
or_joined x left (Or other ∷ old) new h =
    let a : left ≡ other = same h in
    let b : new ≡ old = ap (λ p. p.1) h in cc
or_joined x left old new h = some_none h

pub no_or : (x : RForm) (old new : List Frame) → (None, new) ≡ take_or old → (x, new) ≡ join_or x old
no_or x [] new h = ap (λ (k : List Frame). (x, k)) (ap (λ p. p.1) h)
no_or x (Or left ∷ old) new h = none_some h
no_or x (Not ∷ old) new h = ap (λ (k : List Frame). (x, k)) (ap (λ p. p.1) h)
no_or x (And left ∷ old) new h = ap (λ (k : List Frame). (x, k)) (ap (λ p. p.1) h)
no_or x (Paren ∷ old) new h = ap (λ (k : List Frame). (x, k)) (ap (λ p. p.1) h)
no_or x (Quant every head ∷ old) new h = ap (λ (k : List Frame). (x, k)) (ap (λ p. p.1) h)
no_or x (Implies left ∷ old) new h = ap (λ (k : List Frame). (x, k)) (ap (λ p. p.1) h)

pub implies_joined : (x left : RForm) (old new : List Frame) → (Some left, new) ≡ take_implies old →
    join_implies x old ≡ join_implies (form.Implies left x) new
implies_joined x left (Implies other ∷ old) new h =
    let a : left ≡ other = same h in
    let b : new ≡ old = ap (λ p. p.1) h in
    sym (ap (λ (y : RForm). join_implies (form.Implies y x) new) a ∙ ap (join_implies (form.Implies other x)) b)
implies_joined x left old new h = some_none h

pub implies_shorter : (left : RForm) (old new : List Frame) → (Some left, new) ≡ take_implies old → length new < length old
implies_shorter left (Implies other ∷ old) new h =
    let b : new ≡ old = ap (λ p. p.1) h in omega (arith, ap length b)
implies_shorter left old new h = some_none h

pub no_implies : (x : RForm) (old new : List Frame) → (None, new) ≡ take_implies old → (x, new) ≡ join_implies x old
no_implies x [] new h = ap (λ (k : List Frame). (x, k)) (ap (λ p. p.1) h)
no_implies x (Implies left ∷ old) new h = none_some h
no_implies x (Not ∷ old) new h = ap (λ (k : List Frame). (x, k)) (ap (λ p. p.1) h)
no_implies x (And left ∷ old) new h = ap (λ (k : List Frame). (x, k)) (ap (λ p. p.1) h)
no_implies x (Or left ∷ old) new h = ap (λ (k : List Frame). (x, k)) (ap (λ p. p.1) h)
no_implies x (Paren ∷ old) new h = ap (λ (k : List Frame). (x, k)) (ap (λ p. p.1) h)
no_implies x (Quant every head ∷ old) new h = ap (λ (k : List Frame). (x, k)) (ap (λ p. p.1) h)
