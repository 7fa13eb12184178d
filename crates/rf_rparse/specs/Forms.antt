-- Formulas, token by token.
use Rattle.std.specs.Prelude.{List, [], ◌∷◌, Bool, true, false, Option, Some, None}
use Rattle.std.specs.Option.{option_map}
use Rattle.rf_rtree.specs.declared.forms.RForm.{RForm}
use Rattle.rf_rtree.specs.declared.forms.RForm.TheVariants as form
use Rattle.rf_rtree.specs.Grammar.{quant_tree}
use Rattle.rf_rtree.specs.Tokens.{Tok}
use Rattle.rf_rtree.specs.Tokens as t
use Rattle.rf_rparse.specs.declared.atoms.Atom.{Atom as Begun}
use Rattle.rf_rparse.specs.declared.forms.Mode.{Mode}
use Rattle.rf_rparse.specs.declared.forms.Mode.TheVariants.{Want, Got, Atom, Head, Open, End}
use Rattle.rf_rparse.specs.declared.frames.Frame.{Frame}
use Rattle.rf_rparse.specs.declared.frames.Frame.TheVariants as frame
use Rattle.rf_rparse.specs.declared.heads.Head.{Head as Heading}
use Rattle.rf_rparse.specs.declared.heads.HeadState.{HeadState}
use Rattle.rf_rparse.specs.declared.next.Next.{Next}
use Rattle.rf_rparse.specs.declared.next.Next.TheVariants.{More, Whole, Held, No}
use Rattle.rf_rparse.specs.Atoms.{first_of_atom, step_atom}
use Rattle.rf_rparse.specs.Frames.{Waited, done, either_of, whole_of}
use Rattle.rf_rparse.specs.Heads.{empty_head, step_head}

-- how far a formula has come, and what waits for it
abbrev pub State : Type 0
State = Mode × List Frame

-- a formula in parentheses, by what opened them
abbrev pub closed : RForm → Option Frame → Option RForm
closed x (Some frame.Paren) = Some x
closed x (Some (frame.Quant every head)) = Some (quant_tree every head.vars head.asks x)
closed x top = None

-- `)`
abbrev pub close : Waited → Option State
close (x, []) = None
close (x, frame ∷ stack) = option_map (λ y. (Got y, stack)) (closed x (Some frame))

-- `end`
abbrev pub end : Waited → Option State
end (x, []) = Some (End x, [])
end (x, frame ∷ stack) = None

-- behind an operand, which its `not`s and its `and` have taken
abbrev pub step_got : Tok → Waited → Option State
step_got t.And waited = Some (Want, frame.And waited.0 ∷ waited.1)
step_got t.Or waited = Some (Want, frame.Or (either_of waited).0 ∷ (either_of waited).1)
step_got t.Implies waited = Some (Want, frame.Implies (either_of waited).0 ∷ (either_of waited).1)
step_got t.Right waited = close (whole_of (either_of waited))
step_got t.End waited = end (whole_of (either_of waited))
step_got tok waited = None

abbrev pub begin_atom : List Frame → Option Begun → Option State
begin_atom stack (Some atom) = Some (Atom atom, stack)
begin_atom stack None = None

abbrev pub step_want : Tok → List Frame → Option State
step_want t.Not stack = Some (Want, frame.Not ∷ stack)
step_want t.Left stack = Some (Want, frame.Paren ∷ stack)
step_want t.All stack = Some (Head true empty_head, stack)
step_want t.Some stack = Some (Head false empty_head, stack)
step_want t.True stack = Some (Got (form.Truth true), stack)
step_want t.False stack = Some (Got (form.Truth false), stack)
step_want tok stack = begin_atom stack (first_of_atom tok)

abbrev pub in_atom : Tok → List Frame → Next Begun RForm → Option State
in_atom tok stack (More atom) = Some (Atom atom, stack)
in_atom tok stack (Whole x) = Some (Got x, stack)
in_atom tok stack (Held x) = step_got tok (done x stack)
in_atom tok stack No = None

-- a quantifier's head ends before its colon
abbrev pub opens : Tok → Bool → Heading → Option Mode
opens t.Colon every head = Some (Open every head)
opens tok every head = None

abbrev pub in_head : Tok → Bool → Next HeadState Heading → Option Mode
in_head tok every (More head) = Some (Head every head)
in_head tok every (Whole head) = None
in_head tok every (Held head) = opens tok every head
in_head tok every No = None

abbrev pub step_open : Tok → Bool → Heading → List Frame → Option State
step_open t.Left every head stack = Some (Want, frame.Quant every head ∷ stack)
step_open tok every head stack = None

abbrev pub step_form : Tok → Mode → List Frame → Option State
step_form tok Want stack = step_want tok stack
step_form tok (Got x) stack = step_got tok (done x stack)
step_form tok (Atom atom) stack = in_atom tok stack (step_atom tok atom)
step_form tok (Head every head) stack =
    option_map (λ mode. (mode, stack)) (in_head tok every (step_head tok head))
step_form tok (Open every head) stack = step_open tok every head stack
step_form tok (End x) stack = None
