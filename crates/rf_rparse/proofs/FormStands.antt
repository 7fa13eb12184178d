-- What stands for a formula, while it is read.
use Rattle.std.proofs.Common.{◌≡◌, ◌∙◌, ap, sym, refl, List, [], ◌∷◌, ◌++◌, Bool, true, false, Option, Some, None, append_assoc, append-nil}
use Rattle.std.specs.Option.{option_map}
use Rattle.rf_rtree.specs.declared.forms.RForm.{RForm}
use Rattle.rf_rtree.specs.Grammar.{word, Whole, only, Either, both, Both, tight, Tight, paren, truth, whole_yield, either_yield, both_yield, tight_yield, whole_tree, either_tree, both_tree, tight_tree, quant_token, vars_yield, asks_yield, name_of}
use Rattle.rf_rtree.specs.Grammar as g
use Rattle.rf_rtree.specs.Tokens.{Tok}
use Rattle.rf_rtree.specs.Tokens as t
use Rattle.rf_rparse.specs.declared.atoms.Atom.{Atom as Begun}
use Rattle.rf_rparse.specs.declared.forms.Mode.{Mode}
use Rattle.rf_rparse.specs.declared.forms.Mode.TheVariants.{Want, Got, Atom, Head, Open, End}
use Rattle.rf_rparse.specs.declared.frames.Frame.{Frame}
use Rattle.rf_rparse.specs.declared.frames.Frame.TheVariants as frame
use Rattle.rf_rparse.specs.declared.heads.Head.{Head as Heading}
use Rattle.rf_rparse.specs.declared.heads.HeadState.{HeadState}
use Rattle.rf_rparse.specs.declared.next.Next.{Next}
use Rattle.rf_rparse.specs.declared.next.Next.TheVariants.{More, Held, No}
use Rattle.rf_rparse.specs.declared.next.Next.TheVariants as next
use Rattle.rf_rparse.specs.Atoms.{step_atom}
use Rattle.rf_rparse.specs.Forms.{State, step_form, step_got, step_want, step_open, close, end, in_atom, in_head, opens}
use Rattle.rf_rparse.specs.Frames.{Waited, whole_of}
use Rattle.rf_rparse.specs.Heads.{step_head}
use Rattle.rf_rparse.proofs.AtomStands.{IsTight, tight_of, AtomStands, named_first, left_part, left, old, atom_steps, atom_begins}
use Rattle.rf_rparse.proofs.Contexts.{AroundTight, behind_not, behind_and, first_of_and, behind_or, first_of_or, behind_implies, in_paren, in_quant, frames_tight, before_tight, before_both, before_whole, after_tight, plug_tight, plugged_tight, quantified, AtBoth, at_both, AtEither, at_either, AtWhole, at_top, at_paren, at_quant, done_at, either_at, whole_at}
use Rattle.rf_rparse.proofs.HeadStands.{HeadWay, head_yield, head_tree, IsHead, head, HeadStands, var, head_steps, head_begins}
use Rattle.rf_rparse.proofs.Standing.{Onward, Begins, none, one_more, one_more_of}

pub data FormStands : Mode → List Frame → List Tok → Type 0 where
  wanted : (c : AroundTight) (toks : List Tok) → toks ≡ before_tight c → FormStands Want (frames_tight c) toks
  got : (x : Tight) (c : AroundTight) (toks : List Tok) → toks ≡ before_tight c ++ tight_yield x →
      FormStands (Got (tight_tree x)) (frames_tight c) toks
  in_the_atom : (atom : Begun) (c : AroundTight) (sub toks : List Tok) → AtomStands atom sub → toks ≡ before_tight c ++ sub →
      FormStands (Atom atom) (frames_tight c) toks
  in_the_head : (every : Bool) (state : HeadState) (c : AroundTight) (sub toks : List Tok) → HeadStands state sub →
      toks ≡ before_tight c ++ (quant_token every ∷ sub) → FormStands (Head every state) (frames_tight c) toks
  opened : (every : Bool) (way : HeadWay) (c : AroundTight) (toks : List Tok) →
      toks ≡ before_tight c ++ (quant_token every ∷ (head_yield way ++ t.Colon ∷ [])) →
      FormStands (Open every (head_tree way)) (frames_tight c) toks

pub data IsEnded : RForm → List Tok → Type 0 where
  ended : (w : Whole) (toks : List Tok) → toks ≡ whole_yield w ++ t.End ∷ [] → IsEnded (whole_tree w) toks

abbrev pub OnMode : Mode → List Frame → List Tok → Type 0
OnMode (End x) k toks = IsEnded x toks
OnMode Want k toks = FormStands Want k toks
OnMode (Got x) k toks = FormStands (Got x) k toks
OnMode (Atom atom) k toks = FormStands (Atom atom) k toks
OnMode (Head every state) k toks = FormStands (Head every state) k toks
OnMode (Open every way) k toks = FormStands (Open every way) k toks

abbrev pub OnForm : Option State → List Tok → Type 0
OnForm None toks = Unit {0}
OnForm (Some state) toks = OnMode state.0 state.1 toks

or_steps : {p : Waited} {pre : List Tok} → AtEither p pre → FormStands Want (frame.Or p.0 ∷ p.1) (pre ++ t.Or ∷ [])
or_steps (at_either e c pre is) = wanted (first_of_and (behind_or e c)) _ (one_more_of pre (before_whole c) (either_yield e) t.Or is)

implies_steps : {p : Waited} {pre : List Tok} → AtEither p pre → FormStands Want (frame.Implies p.0 ∷ p.1) (pre ++ t.Implies ∷ [])
implies_steps (at_either e c pre is) = wanted (first_of_and (first_of_or (behind_implies e c))) _
    (one_more_of pre (before_whole c) (either_yield e) t.Implies is)

whole_steps : {p : Waited} {pre : List Tok} → AtEither p pre → AtWhole (whole_of p) pre
whole_steps (at_either e c pre is) = whole_at (only e) c pre is

paren_turned : (x w : List Tok) → ((x ++ t.Left ∷ []) ++ w) ++ t.Right ∷ [] ≡ x ++ (t.Left ∷ (w ++ t.Right ∷ []))
paren_turned x w = simp append_assoc

quant_turned : (x vars asks w : List Tok) (every : Tok) →
    ((x ++ (every ∷ ((vars ++ asks) ++ (t.Colon ∷ t.Left ∷ [])))) ++ w) ++ t.Right ∷ []
    ≡ x ++ (every ∷ (vars ++ (asks ++ (t.Colon ∷ t.Left ∷ (w ++ t.Right ∷ [])))))
quant_turned x vars asks w every = simp append_assoc

close_steps : {p : Waited} {pre : List Tok} → AtWhole p pre → OnForm (close p) (pre ++ t.Right ∷ [])
close_steps (at_top w pre e) = tt
close_steps (at_paren w c pre e) = got (paren w) c _ (one_more _ _ t.Right e ∙ paren_turned (before_tight c) (whole_yield w))
close_steps (at_quant w every way c pre e) = got (quantified every way w) c _ (one_more _ _ t.Right e
    ∙ quant_turned (before_tight c) (vars_yield way.vars) (asks_yield way.asks) (whole_yield w) (quant_token every))

end_steps : {p : Waited} {pre : List Tok} → AtWhole p pre → OnForm (end p) (pre ++ t.End ∷ [])
end_steps (at_top w pre e) = ended w _ (one_more _ _ t.End e)
end_steps (at_paren w c pre e) = tt
end_steps (at_quant w every way c pre e) = tt

and_steps : {p : Waited} {pre : List Tok} → AtBoth p pre → FormStands Want (frame.And p.0 ∷ p.1) (pre ++ t.And ∷ [])
and_steps (at_both b c pre e) = wanted (behind_and b c) _ (one_more_of pre (before_both c) (both_yield b) t.And e)

got_steps : {p : Waited} {pre : List Tok} → AtBoth p pre → (tok : Tok) → OnForm (step_got tok p) (pre ++ tok ∷ [])
got_steps at t.And = and_steps at
got_steps at t.Or = or_steps (either_at at)
got_steps at t.Implies = implies_steps (either_at at)
got_steps at t.Right = close_steps (whole_steps (either_at at))
got_steps at t.End = end_steps (whole_steps (either_at at))
got_steps at tok = tt

want_steps : (c : AroundTight) (pre : List Tok) → pre ≡ before_tight c → (tok : Tok) →
    OnForm (step_want tok (frames_tight c)) (pre ++ tok ∷ [])
want_steps c pre e t.Not = wanted (behind_not c) _ (one_more _ _ _ e)
want_steps c pre e t.Left = wanted (first_of_and (first_of_or (in_paren c))) _ (one_more _ _ _ e)
want_steps c pre e t.All = in_the_head true _ c [] _ (var none refl [] refl) (one_more _ _ _ e)
want_steps c pre e t.Some = in_the_head false _ c [] _ (var none refl [] refl) (one_more _ _ _ e)
want_steps c pre e t.True = got (truth true) c _ (one_more _ _ _ e)
want_steps c pre e t.False = got (truth false) c _ (one_more _ _ _ e)
want_steps c pre e (t.Name text line) = in_the_atom _ c (t.Name text line ∷ []) _ (named_first (word text line) _ refl) (one_more _ _ _ e)
want_steps c pre e (t.Old line) = in_the_atom _ c (t.Old line ∷ []) _ (left_part _ _ (old line _ refl)) (one_more _ _ _ e)
want_steps c pre e (t.Access text line) = in_the_atom _ c (t.Access text line ∷ []) _ (left (g.access (word text line)) _ refl) (one_more _ _ _ e)
want_steps c pre e (t.Text text line) = in_the_atom _ c (t.Text text line ∷ []) _ (left (g.text (word text line)) _ refl) (one_more _ _ _ e)
want_steps c pre e tok = tt

in_atom_steps : (n : Next Begun RForm) (c : AroundTight) (sub pre : List Tok) (tok : Tok) → pre ≡ before_tight c ++ sub →
    Onward AtomStands IsTight n sub tok → OnForm (in_atom tok (frames_tight c) n) (pre ++ tok ∷ [])
in_atom_steps (More atom) c sub pre tok e stands = in_the_atom atom c (sub ++ tok ∷ []) _ stands (one_more_of pre (before_tight c) sub tok e)
in_atom_steps (next.Whole a) c sub pre tok e (tight_of x toks is) = got x c _ (one_more_of pre (before_tight c) sub tok e
    ∙ ap (λ (toks : List Tok). before_tight c ++ toks) is)
in_atom_steps (Held a) c sub pre tok e (tight_of x toks is) = got_steps (done_at x c pre (e ∙ ap (λ (toks : List Tok). before_tight c ++ toks) is)) tok
in_atom_steps No c sub pre tok e is = tt

colon_steps : (every : Bool) (way : HeadWay) (c : AroundTight) (pre : List Tok) (tok : Tok) →
    pre ≡ before_tight c ++ (quant_token every ∷ head_yield way) →
    OnForm (option_map (λ mode. (mode, frames_tight c)) (opens tok every (head_tree way))) (pre ++ tok ∷ [])
colon_steps every way c pre t.Colon e = opened every way c _ (one_more_of pre (before_tight c) (quant_token every ∷ head_yield way) t.Colon e)
colon_steps every way c pre tok e = tt

in_head_steps : (n : Next HeadState Heading) (every : Bool) (c : AroundTight) (sub pre : List Tok) (tok : Tok) →
    pre ≡ before_tight c ++ (quant_token every ∷ sub) → Onward HeadStands IsHead n sub tok →
    OnForm (option_map (λ mode. (mode, frames_tight c)) (in_head tok every n)) (pre ++ tok ∷ [])
in_head_steps (More state) every c sub pre tok e stands = in_the_head every state c (sub ++ tok ∷ []) _ stands
    (one_more_of pre (before_tight c) (quant_token every ∷ sub) tok e)
in_head_steps (next.Whole a) every c sub pre tok e is = tt
in_head_steps (Held a) every c sub pre tok e (head way toks is) = colon_steps every way c pre tok
    (e ∙ ap (λ (toks : List Tok). before_tight c ++ (quant_token every ∷ toks)) is)
in_head_steps No every c sub pre tok e is = tt

open_turned : (x way : List Tok) (every : Tok) → (x ++ (every ∷ (way ++ t.Colon ∷ []))) ++ t.Left ∷ []
    ≡ x ++ (every ∷ (way ++ (t.Colon ∷ t.Left ∷ [])))
open_turned x way every = simp append_assoc

open_steps : (every : Bool) (way : HeadWay) (c : AroundTight) (pre : List Tok) (tok : Tok) →
    pre ≡ before_tight c ++ (quant_token every ∷ (head_yield way ++ t.Colon ∷ [])) →
    OnForm (step_open tok every (head_tree way) (frames_tight c)) (pre ++ tok ∷ [])
open_steps every way c pre t.Left e = wanted (first_of_and (first_of_or (in_quant every way c))) _
    (one_more _ _ t.Left e ∙ open_turned (before_tight c) (head_yield way) (quant_token every))
open_steps every way c pre tok e = tt

pub form_steps : {mode : Mode} {k : List Frame} {pre : List Tok} → FormStands mode k pre → (tok : Tok) →
    OnForm (step_form tok mode k) (pre ++ tok ∷ [])
form_steps (wanted c pre e) tok = want_steps c pre e tok
form_steps (got x c pre e) tok = got_steps (done_at x c pre e) tok
form_steps (in_the_atom atom c sub pre stands e) tok = in_atom_steps (step_atom tok atom) c sub pre tok e (atom_steps stands tok)
form_steps (in_the_head every state c sub pre stands e) tok = in_head_steps (step_head tok state) every c sub pre tok e (head_steps stands tok)
form_steps (opened every way c pre e) tok = open_steps every way c pre tok e

-- an operand in the gap completes what stands before it
finish : (c : AroundTight) (x : Tight) (pre more : List Tok) → pre ++ more ≡ before_tight c ++ tight_yield x → Begins whole_yield pre
finish c x pre more e = record {
  more = more ++ after_tight c;
  way = plug_tight c x;
  yields = plugged_tight c x ∙ sym (append_assoc (before_tight c) (tight_yield x) (after_tight c))
      ∙ ap (λ (toks : List Tok). toks ++ after_tight c) (sym e) ∙ append_assoc pre more (after_tight c);
}

abbrev pub some_whole : Whole
some_whole = only (both (tight (truth true)))

abbrev closing : List Tok
closing = t.Colon ∷ t.Left ∷ t.True ∷ t.Right ∷ []

head_turned : (x sub more rest : List Tok) (every : Tok) → (x ++ (every ∷ sub)) ++ (more ++ rest) ≡ x ++ (every ∷ ((sub ++ more) ++ rest))
head_turned x sub more rest every = simp append_assoc

opened_turned : (x vars asks : List Tok) (every : Tok) →
    (x ++ (every ∷ ((vars ++ asks) ++ t.Colon ∷ []))) ++ (t.Left ∷ t.True ∷ t.Right ∷ []) ≡ x ++ (every ∷ (vars ++ (asks ++ closing)))
opened_turned x vars asks every = simp append_assoc

pub form_begins : {mode : Mode} {k : List Frame} {pre : List Tok} → FormStands mode k pre → Begins whole_yield pre
form_begins (wanted c pre e) = finish c (truth true) pre (t.True ∷ []) (one_more _ _ _ e)
form_begins (got x c pre e) = finish c x pre [] (append-nil pre ∙ e)
form_begins (in_the_atom atom c sub pre stands e) =
    let begun = atom_begins stands in
    finish c begun.way pre begun.more (ap (λ (toks : List Tok). toks ++ begun.more) e ∙ append_assoc (before_tight c) sub begun.more
    ∙ ap (λ (toks : List Tok). before_tight c ++ toks) (sym begun.yields))
form_begins (in_the_head every state c sub pre stands e) =
    let begun = head_begins stands in
    finish c (quantified every begun.way some_whole) pre (begun.more ++ closing)
    (ap (λ (toks : List Tok). toks ++ (begun.more ++ closing)) e
    ∙ head_turned (before_tight c) sub begun.more closing (quant_token every)
    ∙ ap (λ (toks : List Tok). before_tight c ++ (quant_token every ∷ (toks ++ closing))) (sym begun.yields)
    ∙ ap (λ (toks : List Tok). before_tight c ++ (quant_token every ∷ toks)) (append_assoc (vars_yield begun.way.vars) (asks_yield begun.way.asks) closing))
form_begins (opened every way c pre e) = finish c (quantified every way some_whole) pre (t.Left ∷ t.True ∷ t.Right ∷ [])
    (ap (λ (toks : List Tok). toks ++ (t.Left ∷ t.True ∷ t.Right ∷ [])) e
    ∙ opened_turned (before_tight c) (vars_yield way.vars) (asks_yield way.asks) (quant_token every))
