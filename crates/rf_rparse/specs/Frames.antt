-- What waits while a part of a formula is read, and how what is complete is joined to it.
use Rattle.std.specs.Prelude.{List, [], ◌∷◌, Bool, true, false, Option, Some, None}
use Rattle.rf_rtree.specs.declared.forms.RForm.{RForm}
use Rattle.rf_rtree.specs.declared.forms.RForm.TheVariants as form
use Rattle.rf_rparse.specs.declared.frames.Frame.{Frame}
use Rattle.rf_rparse.specs.declared.frames.Frame.TheVariants.{Not, Paren, Quant, And, Or, Implies}

abbrev pub popped : List Frame → Option Frame × List Frame
popped [] = (None, [])
popped (frame ∷ stack) = (Some frame, stack)

abbrev pub take_not : List Frame → Bool × List Frame
take_not (Not ∷ stack) = (true, stack)
take_not stack = (false, stack)

abbrev pub take_and : List Frame → Option RForm × List Frame
take_and (And left ∷ stack) = (Some left, stack)
take_and stack = (None, stack)

abbrev pub take_or : List Frame → Option RForm × List Frame
take_or (Or left ∷ stack) = (Some left, stack)
take_or stack = (None, stack)

abbrev pub take_implies : List Frame → Option RForm × List Frame
take_implies (Implies left ∷ stack) = (Some left, stack)
take_implies stack = (None, stack)

-- a formula and what waits for it
abbrev pub Waited : Type 0
Waited = RForm × List Frame

-- an operand is complete: each `not` before it takes it, and then an `and`
abbrev pub done : RForm → List Frame → Waited
done x [] = (x, [])
done x (Not ∷ stack) = done (form.Not x) stack
done x (And left ∷ stack) = (form.And left x, stack)
done x (Paren ∷ stack) = (x, Paren ∷ stack)
done x (Quant every head ∷ stack) = (x, Quant every head ∷ stack)
done x (Or left ∷ stack) = (x, Or left ∷ stack)
done x (Implies left ∷ stack) = (x, Implies left ∷ stack)

-- an operand of `or` is complete
abbrev pub join_or : RForm → List Frame → Waited
join_or x [] = (x, [])
join_or x (Or left ∷ stack) = (form.Or left x, stack)
join_or x (Not ∷ stack) = (x, Not ∷ stack)
join_or x (And left ∷ stack) = (x, And left ∷ stack)
join_or x (Paren ∷ stack) = (x, Paren ∷ stack)
join_or x (Quant every head ∷ stack) = (x, Quant every head ∷ stack)
join_or x (Implies left ∷ stack) = (x, Implies left ∷ stack)

-- the last operand of a chain of `implies` is complete
abbrev pub join_implies : RForm → List Frame → Waited
join_implies x [] = (x, [])
join_implies x (Implies left ∷ stack) = join_implies (form.Implies left x) stack
join_implies x (Not ∷ stack) = (x, Not ∷ stack)
join_implies x (And left ∷ stack) = (x, And left ∷ stack)
join_implies x (Or left ∷ stack) = (x, Or left ∷ stack)
join_implies x (Paren ∷ stack) = (x, Paren ∷ stack)
join_implies x (Quant every head ∷ stack) = (x, Quant every head ∷ stack)

abbrev pub either_of : Waited → Waited
either_of waited = join_or waited.0 waited.1

abbrev pub whole_of : Waited → Waited
whole_of waited = join_implies waited.0 waited.1
