-- Predicates and comparisons, token by token.
use Rattle.std.specs.Prelude.{[], Option, Some, None}
use Rattle.rf_rtree.specs.declared.forms.Comp.{Comp}
use Rattle.rf_rtree.specs.declared.forms.RForm.{RForm}
use Rattle.rf_rtree.specs.declared.forms.RForm.TheVariants as form
use Rattle.rf_rtree.specs.declared.forms.RTerm.{RTerm}
use Rattle.rf_rtree.specs.declared.forms.RTerm.TheVariants as term
use Rattle.rf_rtree.specs.declared.words.Ask.{Ask}
use Rattle.rf_rtree.specs.declared.words.Word.{Word}
use Rattle.rf_rtree.specs.Grammar.{word}
use Rattle.rf_rtree.specs.Tokens.{Tok}
use Rattle.rf_rtree.specs.Tokens as t
use Rattle.rf_rparse.specs.declared.args.Args.{Args as Arguments}
use Rattle.rf_rparse.specs.declared.args.Args.TheVariants.{Want}
use Rattle.rf_rparse.specs.declared.atoms.Atom.{Atom}
use Rattle.rf_rparse.specs.declared.atoms.Atom.TheVariants.{Named, Args, Part, Compared, Right, RightNamed}
use Rattle.rf_rparse.specs.declared.atoms.Side.{Side}
use Rattle.rf_rparse.specs.declared.atoms.Side.TheVariants as side
use Rattle.rf_rparse.specs.declared.parts.Part.{Part as Term}
use Rattle.rf_rparse.specs.declared.parts.Part.TheVariants as part
use Rattle.rf_rparse.specs.declared.next.Next.{Next}
use Rattle.rf_rparse.specs.declared.next.Next.TheVariants.{More, Whole, Held, No}
use Rattle.rf_rparse.specs.Args.{step_args}
use Rattle.rf_rparse.specs.Parts.{step_part}
use Rattle.rf_rparse.specs.Words.{comp_in}

abbrev pub first_of_atom : Tok → Option Atom
first_of_atom (t.Name text line) = Some (Named (word text line))
first_of_atom (t.Old line) = Some (Part side.Left (part.Old line))
first_of_atom (t.Access text line) = Some (Compared (term.Access (word text line)))
first_of_atom (t.Text text line) = Some (Compared (term.Text (word text line)))
first_of_atom tok = None

abbrev pub with_comp : RTerm → Option Comp → Next Atom RForm
with_comp left (Some comp) = More (Right left comp)
with_comp left None = No

abbrev pub step_named : Tok → Word → Next Atom RForm
step_named t.Left name = More (Args (Want name []))
step_named t.Dot name = More (Part side.Left (part.Prop name))
step_named tok name = with_comp (term.Var name) (comp_in tok)

abbrev pub in_args : Next Arguments Ask → Next Atom RForm
in_args (More args) = More (Args args)
in_args (Whole ask) = Whole (form.Pred ask)
in_args (Held ask) = No
in_args No = No

abbrev pub with_term : Side → RTerm → Next Atom RForm
with_term side.Left term = More (Compared term)
with_term (side.Right left comp) term = Whole (form.Cmp left comp term)

abbrev pub in_part : Side → Next Term RTerm → Next Atom RForm
in_part side (More part) = More (Part side part)
in_part side (Whole term) = with_term side term
in_part side (Held term) = No
in_part side No = No

-- a term on the right, by the atom that its first token would begin
abbrev pub right_of : RTerm → Comp → Option Atom → Next Atom RForm
right_of left comp (Some (Named name)) = More (RightNamed left comp name)
right_of left comp (Some (Part on part)) = More (Part (side.Right left comp) part)
right_of left comp (Some (Compared term)) = Whole (form.Cmp left comp term)
right_of left comp atom = No

abbrev pub step_right_named : Tok → RTerm → Comp → Word → Next Atom RForm
step_right_named t.Dot left comp name = More (Part (side.Right left comp) (part.Prop name))
step_right_named tok left comp name = Held (form.Cmp left comp (term.Var name))

abbrev pub step_atom : Tok → Atom → Next Atom RForm
step_atom tok (Named name) = step_named tok name
step_atom tok (Args args) = in_args (step_args tok args)
step_atom tok (Part side part) = in_part side (step_part tok part)
step_atom tok (Compared left) = with_comp left (comp_in tok)
step_atom tok (Right left comp) = right_of left comp (first_of_atom tok)
step_atom tok (RightNamed left comp name) = step_right_named tok left comp name
