-- What stands for the arguments of a predicate, for a term and for an atom, while they are read.
use Rattle.std.proofs.Common.{◌≡◌, ◌∙◌, ap, sym, refl, subst, ℕ, List, [], ◌∷◌, ◌++◌, Bool, true, false, Option, Some, None, codes, append_assoc, append-nil, if◌then◌else◌}
use Rattle.std.proofs.lemmas.Slice.Eq.{bytes_eq-Decides}
use Rattle.rf_rtree.specs.declared.forms.Comp.{Comp}
use Rattle.rf_rtree.specs.declared.forms.Comp.TheVariants as comp
use Rattle.rf_rtree.specs.declared.forms.RForm.{RForm}
use Rattle.rf_rtree.specs.declared.forms.RTerm.{RTerm}
use Rattle.rf_rtree.specs.declared.words.Ask.{Ask as Asked}
use Rattle.rf_rtree.specs.declared.words.Word.{Word}
use Rattle.rf_rtree.specs.Grammar.{word, Listed, one, next, items_of, listed_yield, arg_yield, AskWay, ask_yield, ask_tree, PropWay, named, word_package, prop_token, prop_word, TermWay, term_yield, term_tree, comp_token, Tight, tight_yield, tight_tree, name_of}
use Rattle.rf_rtree.specs.Grammar as g
use Rattle.rf_rtree.specs.Tokens.{Tok}
use Rattle.rf_rtree.specs.Tokens as t
use Rattle.rf_rparse.specs.declared.args.Args.{Args as Arguments}
use Rattle.rf_rparse.specs.declared.args.Args.TheVariants.{Want, Have}
use Rattle.rf_rparse.specs.declared.atoms.Atom.{Atom}
use Rattle.rf_rparse.specs.declared.atoms.Atom.TheVariants.{Named, Args, Part, Compared, Right, RightNamed}
use Rattle.rf_rparse.specs.declared.atoms.Side.TheVariants as side
use Rattle.rf_rparse.specs.declared.parts.Part.{Part as Term}
use Rattle.rf_rparse.specs.declared.parts.Part.TheVariants.{Prop, Old, OldLeft, OldElem, OldDot, OldProp}
use Rattle.rf_rparse.specs.declared.next.Next.{Next}
use Rattle.rf_rparse.specs.declared.next.Next.TheVariants.{More, Whole, Held, No}
use Rattle.rf_rparse.specs.Args.{step_args}
use Rattle.rf_rparse.specs.Atoms.{step_atom, in_args, in_part}
use Rattle.rf_rparse.specs.Parts.{step_part, with_prop, with_old_prop}
use Rattle.rf_rparse.specs.Words.{is_package, prop_in}
use Rattle.rf_rparse.proofs.Standing.{Onward, Begins, Lead, none, behind, lead_items, lead_yield, lead_add, one_more, one_more_of, added_yield}

pub data IsAsk : Asked → List Tok → Type 0 where
  ask : (way : AskWay) (toks : List Tok) → toks ≡ ask_yield way → IsAsk (ask_tree way) toks

pub data IsTerm : RTerm → List Tok → Type 0 where
  term_of : (way : TermWay) (toks : List Tok) → toks ≡ term_yield way → IsTerm (term_tree way) toks

pub data IsTight : RForm → List Tok → Type 0 where
  tight_of : (x : Tight) (toks : List Tok) → toks ≡ tight_yield x → IsTight (tight_tree x) toks

pub data ArgsStand : Arguments → List Tok → Type 0 where
  want : (name : Word) (args : Lead Word) (toks : List Tok) → toks ≡ name_of name ∷ t.Left ∷ lead_yield arg_yield args →
      ArgsStand (Want name (lead_items args)) toks
  have : (name : Word) (args : Listed Word) (toks : List Tok) → toks ≡ name_of name ∷ t.Left ∷ listed_yield arg_yield args →
      ArgsStand (Have name (items_of args)) toks

pub args_steps : {args : Arguments} {pre : List Tok} → ArgsStand args pre → (tok : Tok) →
    Onward ArgsStand IsAsk (step_args tok args) pre tok
args_steps (want name none pre e) (t.Name text line) = have name (one (word text line)) _ (one_more _ _ _ e)
args_steps (want name (behind args) pre e) (t.Name text line) = have name (next args (word text line)) _
    (one_more_of pre (name_of name ∷ t.Left ∷ listed_yield arg_yield args) (t.Comma ∷ []) (t.Name text line) e)
args_steps (want name args pre e) tok = tt
args_steps (have name args pre e) t.Comma = want name (behind args) _ (one_more _ _ _ e)
args_steps (have name args pre e) t.Right = ask (record { name = name; args = args }) _ (one_more _ _ _ e)
args_steps (have name args pre e) tok = tt

-- some word
abbrev pub some_word : Word
some_word = word [] 0

pub args_begin : {args : Arguments} {pre : List Tok} → ArgsStand args pre → Begins ask_yield pre
args_begin (want name args pre e) = record {
  more = name_of some_word ∷ t.Right ∷ [];
  way = record { name = name; args = lead_add args some_word };
  yields = ap (λ (toks : List Tok). name_of name ∷ t.Left ∷ (toks ++ t.Right ∷ [])) (added_yield arg_yield args some_word)
      ∙ ap (λ (toks : List Tok). name_of name ∷ t.Left ∷ toks) (append_assoc (lead_yield arg_yield args) (name_of some_word ∷ []) (t.Right ∷ []))
      ∙ ap (λ (toks : List Tok). toks ++ name_of some_word ∷ t.Right ∷ []) (sym e);
}
args_begin (have name args pre e) = record {
  more = t.Right ∷ [];
  way = record { name = name; args = args };
  yields = ap (λ (toks : List Tok). toks ++ t.Right ∷ []) (sym e);
}

pub data PartStands : Term → List Tok → Type 0 where
  prop : (elem : Word) (toks : List Tok) → toks ≡ name_of elem ∷ t.Dot ∷ [] → PartStands (Prop elem) toks
  old : (line : ℕ) (toks : List Tok) → toks ≡ t.Old line ∷ [] → PartStands (Old line) toks
  old_left : (line : ℕ) (toks : List Tok) → toks ≡ t.Old line ∷ t.Left ∷ [] → PartStands (OldLeft line) toks
  old_elem : (line : ℕ) (elem : Word) (toks : List Tok) → toks ≡ t.Old line ∷ t.Left ∷ name_of elem ∷ [] →
      PartStands (OldElem line elem) toks
  old_dot : (line : ℕ) (elem : Word) (toks : List Tok) → toks ≡ t.Old line ∷ t.Left ∷ name_of elem ∷ t.Dot ∷ [] →
      PartStands (OldDot line elem) toks
  old_prop : (line : ℕ) (elem : Word) (name : PropWay) (toks : List Tok) →
      toks ≡ t.Old line ∷ t.Left ∷ name_of elem ∷ t.Dot ∷ prop_token name ∷ [] → PartStands (OldProp line elem (prop_word name)) toks

on_test : (test : Bool) (P : Option Word → Type 0) (w : Word) → (test ≡ true → P (Some w)) → P None → P (if test then Some w else None)
on_test true P w there missing = there refl
on_test false P w there missing = missing

-- an access word as a property: it is `package`
on_package : (P : List ℕ → Option Word → Type 0) (text : List ℕ) (line : ℕ) → P (codes "package") (Some (word (codes "package") line)) →
    P text None → P text (prop_in (t.Access text line))
on_package P text line there missing = on_test (is_package text) (P text) (word text line)
    (λ is. subst (λ (text : List ℕ). P text (Some (word text line))) (sym ((bytes_eq-Decides text (codes "package")).0 is)) there) missing

pub part_steps : {part : Term} {pre : List Tok} → PartStands part pre → (tok : Tok) →
    Onward PartStands IsTerm (step_part tok part) pre tok
part_steps (prop elem pre e) (t.Name text line) = term_of (g.prop elem (named (word text line))) _ (one_more _ _ _ e)
part_steps (prop elem pre e) (t.Access text line) =
    on_package (λ (text : List ℕ) (name : Option Word). Onward PartStands IsTerm (with_prop elem name) pre (t.Access text line)) text line
    (term_of (g.prop elem (word_package line)) _ (one_more _ _ _ e)) tt
part_steps (prop elem pre e) tok = tt
part_steps (old line pre e) t.Left = old_left line _ (one_more _ _ _ e)
part_steps (old line pre e) tok = tt
part_steps (old_left line pre e) (t.Name text at) = old_elem line (word text at) _ (one_more _ _ _ e)
part_steps (old_left line pre e) tok = tt
part_steps (old_elem line elem pre e) t.Dot = old_dot line elem _ (one_more _ _ _ e)
part_steps (old_elem line elem pre e) tok = tt
part_steps (old_dot line elem pre e) (t.Name text at) = old_prop line elem (named (word text at)) _ (one_more _ _ _ e)
part_steps (old_dot line elem pre e) (t.Access text at) =
    on_package (λ (text : List ℕ) (name : Option Word). Onward PartStands IsTerm (with_old_prop line elem name) pre (t.Access text at)) text at
    (old_prop line elem (word_package at) _ (one_more _ _ _ e)) tt
part_steps (old_dot line elem pre e) tok = tt
part_steps (old_prop line elem name pre e) t.Right = term_of (g.old line elem name) _ (one_more _ _ _ e)
part_steps (old_prop line elem name pre e) tok = tt

completed : (pre toks more : List Tok) → pre ≡ toks → toks ++ more ≡ pre ++ more
completed pre toks more e = ap (λ (toks : List Tok). toks ++ more) (sym e)

pub part_begins : {part : Term} {pre : List Tok} → PartStands part pre → Begins term_yield pre
part_begins (prop elem pre e) = record {
  more = name_of some_word ∷ [];
  way = g.prop elem (named some_word);
  yields = completed _ _ _ e;
}
part_begins (old line pre e) = record {
  more = t.Left ∷ name_of some_word ∷ t.Dot ∷ name_of some_word ∷ t.Right ∷ [];
  way = g.old line some_word (named some_word);
  yields = completed _ _ _ e;
}
part_begins (old_left line pre e) = record {
  more = name_of some_word ∷ t.Dot ∷ name_of some_word ∷ t.Right ∷ [];
  way = g.old line some_word (named some_word);
  yields = completed _ _ _ e;
}
part_begins (old_elem line elem pre e) = record {
  more = t.Dot ∷ name_of some_word ∷ t.Right ∷ [];
  way = g.old line elem (named some_word);
  yields = completed _ _ _ e;
}
part_begins (old_dot line elem pre e) = record {
  more = name_of some_word ∷ t.Right ∷ [];
  way = g.old line elem (named some_word);
  yields = completed _ _ _ e;
}
part_begins (old_prop line elem name pre e) = record {
  more = t.Right ∷ [];
  way = g.old line elem name;
  yields = completed _ _ _ e;
}

pub data AtomStands : Atom → List Tok → Type 0 where
  named_first : (name : Word) (toks : List Tok) → toks ≡ name_of name ∷ [] → AtomStands (Named name) toks
  args_of : (args : Arguments) (toks : List Tok) → ArgsStand args toks → AtomStands (Args args) toks
  left_part : (part : Term) (toks : List Tok) → PartStands part toks → AtomStands (Part side.Left part) toks
  left : (l : TermWay) (toks : List Tok) → toks ≡ term_yield l → AtomStands (Compared (term_tree l)) toks
  right : (l : TermWay) (c : Comp) (toks : List Tok) → toks ≡ term_yield l ++ comp_token c ∷ [] → AtomStands (Right (term_tree l) c) toks
  right_part : (l : TermWay) (c : Comp) (part : Term) (sub toks : List Tok) → PartStands part sub →
      toks ≡ (term_yield l ++ comp_token c ∷ []) ++ sub → AtomStands (Part (side.Right (term_tree l) c) part) toks
  right_named : (l : TermWay) (c : Comp) (name : Word) (toks : List Tok) → toks ≡ (term_yield l ++ comp_token c ∷ []) ++ name_of name ∷ [] →
      AtomStands (RightNamed (term_tree l) c name) toks

args_in_atom : (n : Next Arguments Asked) (pre : List Tok) (tok : Tok) → Onward ArgsStand IsAsk n pre tok →
    Onward AtomStands IsTight (in_args n) pre tok
args_in_atom (More args) pre tok stands = args_of args _ stands
args_in_atom (Whole a) pre tok (ask way toks e) = tight_of (g.predicate way) _ e
args_in_atom (Held a) pre tok is = tt
args_in_atom No pre tok is = tt

part_on_left : (n : Next Term RTerm) (pre : List Tok) (tok : Tok) → Onward PartStands IsTerm n pre tok →
    Onward AtomStands IsTight (in_part side.Left n) pre tok
part_on_left (More part) pre tok stands = left_part part _ stands
part_on_left (Whole a) pre tok (term_of way toks e) = left way _ e
part_on_left (Held a) pre tok is = tt
part_on_left No pre tok is = tt

-- a comparison of which the right term is complete
both_sides : (l : TermWay) (c : Comp) (r : TermWay) (toks sub : List Tok) → toks ≡ (term_yield l ++ comp_token c ∷ []) ++ sub →
    sub ≡ term_yield r → toks ≡ tight_yield (g.compare l c r)
both_sides l c r toks sub e is = e ∙ append_assoc (term_yield l) (comp_token c ∷ []) sub
    ∙ ap (λ (right : List Tok). term_yield l ++ comp_token c ∷ right) is

part_on_right : (l : TermWay) (c : Comp) (n : Next Term RTerm) (sub pre : List Tok) (tok : Tok) →
    pre ≡ (term_yield l ++ comp_token c ∷ []) ++ sub → Onward PartStands IsTerm n sub tok →
    Onward AtomStands IsTight (in_part (side.Right (term_tree l) c) n) pre tok
part_on_right l c (More part) sub pre tok e stands = right_part l c part (sub ++ tok ∷ []) _ stands
    (one_more_of pre (term_yield l ++ comp_token c ∷ []) sub tok e)
part_on_right l c (Whole a) sub pre tok e (term_of way toks is) = tight_of (g.compare l c way) _
    (both_sides l c way _ _ (one_more_of pre (term_yield l ++ comp_token c ∷ []) sub tok e) is)
part_on_right l c (Held a) sub pre tok e is = tt
part_on_right l c No sub pre tok e is = tt

pub atom_steps : {atom : Atom} {pre : List Tok} → AtomStands atom pre → (tok : Tok) →
    Onward AtomStands IsTight (step_atom tok atom) pre tok
atom_steps (named_first name pre e) t.Left = args_of _ _ (want name none _ (one_more _ _ _ e))
atom_steps (named_first name pre e) t.Dot = left_part _ _ (prop name _ (one_more _ _ _ e))
atom_steps (named_first name pre e) t.Equal = right (g.var name) comp.Equal _ (one_more _ _ _ e)
atom_steps (named_first name pre e) t.Unequal = right (g.var name) comp.Unequal _ (one_more _ _ _ e)
atom_steps (named_first name pre e) t.AtMost = right (g.var name) comp.AtMost _ (one_more _ _ _ e)
atom_steps (named_first name pre e) tok = tt
atom_steps (args_of args pre stands) tok = args_in_atom (step_args tok args) pre tok (args_steps stands tok)
atom_steps (left_part part pre stands) tok = part_on_left (step_part tok part) pre tok (part_steps stands tok)
atom_steps (left l pre e) t.Equal = right l comp.Equal _ (one_more _ _ _ e)
atom_steps (left l pre e) t.Unequal = right l comp.Unequal _ (one_more _ _ _ e)
atom_steps (left l pre e) t.AtMost = right l comp.AtMost _ (one_more _ _ _ e)
atom_steps (left l pre e) tok = tt
atom_steps (right l c pre e) (t.Name text line) = right_named l c (word text line) _ (one_more _ _ _ e)
atom_steps (right l c pre e) (t.Old line) = right_part l c (Old line) (t.Old line ∷ []) _ (old line _ refl) (one_more _ _ _ e)
atom_steps (right l c pre e) (t.Access text line) = tight_of (g.compare l c (g.access (word text line))) _
    (both_sides l c (g.access (word text line)) _ (t.Access text line ∷ []) (one_more _ _ _ e) refl)
atom_steps (right l c pre e) (t.Text text line) = tight_of (g.compare l c (g.text (word text line))) _
    (both_sides l c (g.text (word text line)) _ (t.Text text line ∷ []) (one_more _ _ _ e) refl)
atom_steps (right l c pre e) tok = tt
atom_steps (right_part l c part sub pre stands e) tok = part_on_right l c (step_part tok part) sub pre tok e (part_steps stands tok)
atom_steps (right_named l c name pre e) t.Dot = right_part l c (Prop name) (name_of name ∷ t.Dot ∷ []) _ (prop name _ refl)
    (one_more_of pre (term_yield l ++ comp_token c ∷ []) (name_of name ∷ []) t.Dot e)
atom_steps (right_named l c name pre e) tok = tight_of (g.compare l c (g.var name)) _
    (both_sides l c (g.var name) _ (name_of name ∷ []) e refl)

-- a left term is completed by a sign and a right term
left_begins : (l : TermWay) (pre more : List Tok) → term_yield l ≡ pre ++ more → Begins tight_yield pre
left_begins l pre more e = record {
  more = more ++ t.Equal ∷ name_of some_word ∷ [];
  way = g.compare l comp.Equal (g.var some_word);
  yields = ap (λ (toks : List Tok). toks ++ t.Equal ∷ name_of some_word ∷ []) e ∙ append_assoc pre more (t.Equal ∷ name_of some_word ∷ []);
}

right_begins : (l : TermWay) (c : Comp) (pre sub : List Tok) (begun : Begins term_yield sub) → pre ≡ (term_yield l ++ comp_token c ∷ []) ++ sub →
    Begins tight_yield pre
right_begins l c pre sub begun e = record {
  more = begun.more;
  way = g.compare l c begun.way;
  yields = sym (ap (λ (toks : List Tok). toks ++ begun.more) e ∙ append_assoc (term_yield l ++ comp_token c ∷ []) sub begun.more
      ∙ append_assoc (term_yield l) (comp_token c ∷ []) (sub ++ begun.more)
      ∙ ap (λ (right : List Tok). term_yield l ++ comp_token c ∷ right) (sym begun.yields));
}

pub atom_begins : {atom : Atom} {pre : List Tok} → AtomStands atom pre → Begins tight_yield pre
atom_begins (named_first name pre e) = left_begins (g.var name) pre [] (sym (append-nil pre ∙ e))
atom_begins (args_of args pre stands) =
    let begun = args_begin stands in
    record { more = begun.more; way = g.predicate begun.way; yields = begun.yields }
atom_begins (left_part part pre stands) =
    let begun = part_begins stands in left_begins begun.way pre begun.more begun.yields
atom_begins (left l pre e) = left_begins l pre [] (sym (append-nil pre ∙ e))
atom_begins (right l c pre e) = right_begins l c pre [] (record { more = name_of some_word ∷ []; way = g.var some_word; yields = refl })
    (e ∙ sym (append-nil (term_yield l ++ comp_token c ∷ [])))
atom_begins (right_part l c part sub pre stands e) = right_begins l c pre sub (part_begins stands) e
atom_begins (right_named l c name pre e) = right_begins l c pre (name_of name ∷ []) (record { more = []; way = g.var name; yields = refl }) e
