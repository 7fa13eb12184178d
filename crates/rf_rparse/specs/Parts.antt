-- What follows the first word of `elem.prop` and of `old(elem.prop)`, token by token.
use Rattle.std.specs.Prelude.{ℕ, Option, Some, None}
use Rattle.rf_rtree.specs.declared.forms.RTerm.{RTerm}
use Rattle.rf_rtree.specs.declared.forms.RTerm.TheVariants as term
use Rattle.rf_rtree.specs.declared.words.Word.{Word}
use Rattle.rf_rtree.specs.Tokens.{Tok}
use Rattle.rf_rtree.specs.Tokens as t
use Rattle.rf_rparse.specs.declared.next.Next.{Next}
use Rattle.rf_rparse.specs.declared.next.Next.TheVariants.{More, Whole, No}
use Rattle.rf_rparse.specs.declared.parts.Part.{Part}
use Rattle.rf_rparse.specs.declared.parts.Part.TheVariants.{Prop, Old, OldLeft, OldElem, OldDot, OldProp}
use Rattle.rf_rparse.specs.Words.{name_in, prop_in}

abbrev pub with_prop : Word → Option Word → Next Part RTerm
with_prop elem (Some prop) = Whole (term.Prop elem prop)
with_prop elem None = No

abbrev pub with_elem : ℕ → Option Word → Next Part RTerm
with_elem line (Some elem) = More (OldElem line elem)
with_elem line None = No

abbrev pub with_old_prop : ℕ → Word → Option Word → Next Part RTerm
with_old_prop line elem (Some prop) = More (OldProp line elem prop)
with_old_prop line elem None = No

abbrev pub step_part : Tok → Part → Next Part RTerm
step_part tok (Prop elem) = with_prop elem (prop_in tok)
step_part t.Left (Old line) = More (OldLeft line)
step_part tok (Old line) = No
step_part tok (OldLeft line) = with_elem line (name_in tok)
step_part t.Dot (OldElem line elem) = More (OldDot line elem)
step_part tok (OldElem line elem) = No
step_part tok (OldDot line elem) = with_old_prop line elem (prop_in tok)
step_part t.Right (OldProp line elem prop) = Whole (term.Old line elem prop)
step_part tok (OldProp line elem prop) = No
