-- What stands for a program, while it is read.
use Rattle.std.proofs.Common.{◌≡◌, ◌∙◌, ap, sym, refl, subst, List, [], ◌∷◌, ◌++◌, Bool, true, false, Option, Some, None, append_assoc, append-nil}
use Rattle.std.specs.Option.{option_map}
use Rattle.rf_rtree.specs.declared.items.Item.{Item}
use Rattle.rf_rtree.specs.declared.words.Word.{Word}
use Rattle.rf_rtree.specs.Grammar.{word, one, Whole, whole_yield, ItemWay, item_yield, item_tree, items_yield, items_tree, head_token, body_token, vars_yield, asks_yield, name_of}
use Rattle.rf_rtree.specs.Grammar as g
use Rattle.rf_rtree.specs.Tokens.{Tok}
use Rattle.rf_rtree.specs.Tokens as t
use Rattle.rf_rparse.specs.declared.forms.Mode.{Mode}
use Rattle.rf_rparse.specs.declared.forms.Mode.TheVariants as mode
use Rattle.rf_rparse.specs.declared.frames.Frame.{Frame}
use Rattle.rf_rparse.specs.declared.heads.Head.{Head as Heading}
use Rattle.rf_rparse.specs.declared.heads.HeadState.{HeadState}
use Rattle.rf_rparse.specs.declared.next.Next.{Next}
use Rattle.rf_rparse.specs.declared.next.Next.TheVariants.{More, Held, No}
use Rattle.rf_rparse.specs.declared.next.Next.TheVariants as next
use Rattle.rf_rparse.specs.declared.programs.Stage.{Stage}
use Rattle.rf_rparse.specs.declared.programs.Stage.TheVariants.{Top, Name, For, Head, Body}
use Rattle.rf_rparse.specs.Forms.{step_form}
use Rattle.rf_rparse.specs.Forms as forms
use Rattle.rf_rparse.specs.Heads.{step_head}
use Rattle.rf_rparse.specs.Programs.{State, step_program, in_head, in_body}
use Rattle.rf_rparse.proofs.AtomStands.{some_word}
use Rattle.rf_rparse.proofs.Contexts.{first_of_and, first_of_or, top}
use Rattle.rf_rparse.proofs.FormStands.{FormStands, wanted, OnForm, ended, form_steps, form_begins, some_whole}
use Rattle.rf_rparse.proofs.HeadStands.{HeadWay, head_yield, head_tree, IsHead, head, HeadStands, var, head_steps, head_begins}
use Rattle.rf_rparse.proofs.ProgramRuns.{titled}
use Rattle.rf_rparse.proofs.Standing.{Onward, Begins, none, one_more, one_more_of}

-- an item as far as its body
abbrev pub before_body : Bool → Word → HeadWay → List Tok
before_body derive name way = head_token derive ∷ name_of name ∷ t.For ∷ (head_yield way ++ body_token derive ∷ [])

abbrev pub whole_item : Bool → Word → HeadWay → Whole → ItemWay
whole_item derive name way body = record {
  derive = derive;
  name = name;
  vars = way.vars;
  few = way.few;
  asks = way.asks;
  body = body;
}

pub data ProgramStands : Stage → List Item → List Tok → Type 0 where
  between : (ways : List ItemWay) (toks : List Tok) → toks ≡ items_yield ways → ProgramStands Top (items_tree ways) toks
  begun : (ways : List ItemWay) (derive : Bool) (toks : List Tok) → toks ≡ items_yield ways ++ head_token derive ∷ [] →
      ProgramStands (Name derive) (items_tree ways) toks
  named : (ways : List ItemWay) (derive : Bool) (name : Word) (toks : List Tok) →
      toks ≡ items_yield ways ++ (head_token derive ∷ name_of name ∷ []) →
      ProgramStands (For (titled derive name)) (items_tree ways) toks
  in_the_head : (ways : List ItemWay) (derive : Bool) (name : Word) (state : HeadState) (sub toks : List Tok) → HeadStands state sub →
      toks ≡ items_yield ways ++ (head_token derive ∷ name_of name ∷ t.For ∷ sub) →
      ProgramStands (Head (titled derive name) state) (items_tree ways) toks
  in_the_body : (ways : List ItemWay) (derive : Bool) (name : Word) (way : HeadWay) (m : Mode) (k : List Frame) (sub toks : List Tok) →
      FormStands m k sub → toks ≡ (items_yield ways ++ before_body derive name way) ++ sub →
      ProgramStands (Body (titled derive name) (head_tree way) m k) (items_tree ways) toks

abbrev pub OnProgram : Option State → List Tok → Type 0
OnProgram None toks = Unit {0}
OnProgram (Some state) toks = ProgramStands state.0 state.1 toks

added_yield : (ways : List ItemWay) (way : ItemWay) → items_yield (ways ++ way ∷ []) ≡ items_yield ways ++ item_yield way
added_yield [] way = append-nil (item_yield way)
added_yield (first ∷ ways) way = ap (λ (toks : List Tok). item_yield first ++ toks) (added_yield ways way)
    ∙ sym (append_assoc (item_yield first) (items_yield ways) (item_yield way))

added_tree : (ways : List ItemWay) (way : ItemWay) → items_tree (ways ++ way ∷ []) ≡ items_tree ways ++ item_tree way ∷ []
added_tree [] way = refl
added_tree (first ∷ ways) way = ap (λ (items : List Item). item_tree first ∷ items) (added_tree ways way)

-- an item is complete
item_turned : (before vars asks body : List Tok) (first name last : Tok) →
    (before ++ (first ∷ name ∷ t.For ∷ ((vars ++ asks) ++ last ∷ []))) ++ (body ++ t.End ∷ [])
    ≡ before ++ (first ∷ name ∷ t.For ∷ (vars ++ (asks ++ (last ∷ (body ++ t.End ∷ [])))))
item_turned before vars asks body first name last = simp append_assoc

with_item : (ways : List ItemWay) (derive : Bool) (name : Word) (way : HeadWay) (w : Whole) (pre sub : List Tok) →
    pre ≡ (items_yield ways ++ before_body derive name way) ++ sub → sub ≡ whole_yield w ++ t.End ∷ [] →
    ProgramStands Top (items_tree ways ++ item_tree (whole_item derive name way w) ∷ []) pre
with_item ways derive name way w pre sub e is =
    subst (λ (items : List Item). ProgramStands Top items pre) (added_tree ways (whole_item derive name way w))
    (between (ways ++ whole_item derive name way w ∷ []) pre (e
    ∙ ap (λ (toks : List Tok). (items_yield ways ++ before_body derive name way) ++ toks) is
    ∙ item_turned (items_yield ways) (vars_yield way.vars) (asks_yield way.asks) (whole_yield w) (head_token derive) (name_of name) (body_token derive)
    ∙ sym (added_yield ways (whole_item derive name way w))))

body_turned : (before way : List Tok) (first name last : Tok) →
    (before ++ (first ∷ name ∷ t.For ∷ way)) ++ last ∷ [] ≡ (before ++ (first ∷ name ∷ t.For ∷ (way ++ last ∷ []))) ++ []
body_turned before way first name last = simp (append_assoc, append-nil)

body_begins : (ways : List ItemWay) (derive : Bool) (name : Word) (way : HeadWay) (pre : List Tok) →
    pre ≡ items_yield ways ++ (head_token derive ∷ name_of name ∷ t.For ∷ head_yield way) →
    ProgramStands (Body (titled derive name) (head_tree way) mode.Want []) (items_tree ways) (pre ++ body_token derive ∷ [])
body_begins ways derive name way pre e = in_the_body ways derive name way mode.Want [] [] _ (wanted (first_of_and (first_of_or top)) [] refl)
    (one_more _ _ _ e ∙ body_turned (items_yield ways) (head_yield way) (head_token derive) (name_of name) (body_token derive))

word_steps : (ways : List ItemWay) (derive : Bool) (name : Word) (way : HeadWay) (pre : List Tok) (tok : Tok) →
    pre ≡ items_yield ways ++ (head_token derive ∷ name_of name ∷ t.For ∷ head_yield way) →
    OnProgram (option_map (λ stage. (stage, items_tree ways)) (in_head tok (titled derive name) (Held (head_tree way)))) (pre ++ tok ∷ [])
word_steps ways true name way pre t.Means e = body_begins ways true name way pre e
word_steps ways false name way pre t.Then e = body_begins ways false name way pre e
word_steps ways true name way pre tok e = tt
word_steps ways false name way pre tok e = tt

in_head_steps : (n : Next HeadState Heading) (ways : List ItemWay) (derive : Bool) (name : Word) (sub pre : List Tok) (tok : Tok) →
    pre ≡ items_yield ways ++ (head_token derive ∷ name_of name ∷ t.For ∷ sub) → Onward HeadStands IsHead n sub tok →
    OnProgram (option_map (λ stage. (stage, items_tree ways)) (in_head tok (titled derive name) n)) (pre ++ tok ∷ [])
in_head_steps (More state) ways derive name sub pre tok e stands = in_the_head ways derive name state (sub ++ tok ∷ []) _ stands
    (one_more_of pre (items_yield ways) (head_token derive ∷ name_of name ∷ t.For ∷ sub) tok e)
in_head_steps (next.Whole a) ways derive name sub pre tok e is = tt
in_head_steps (Held a) ways derive name sub pre tok e (head way toks is) = word_steps ways derive name way pre tok
    (e ∙ ap (λ (toks : List Tok). items_yield ways ++ (head_token derive ∷ name_of name ∷ t.For ∷ toks)) is)
in_head_steps No ways derive name sub pre tok e is = tt

in_body_steps : (m : Mode) (k : List Frame) (ways : List ItemWay) (derive : Bool) (name : Word) (way : HeadWay) (sub pre : List Tok) →
    pre ≡ (items_yield ways ++ before_body derive name way) ++ sub → OnForm (Some (m, k)) sub →
    OnProgram (in_body (titled derive name) (head_tree way) (items_tree ways) (Some (m, k))) pre
in_body_steps (mode.End x) k ways derive name way sub pre e (ended w toks is) = with_item ways derive name way w pre sub e is
in_body_steps mode.Want k ways derive name way sub pre e stands = in_the_body ways derive name way _ k sub pre stands e
in_body_steps (mode.Got x) k ways derive name way sub pre e stands = in_the_body ways derive name way _ k sub pre stands e
in_body_steps (mode.Atom a) k ways derive name way sub pre e stands = in_the_body ways derive name way _ k sub pre stands e
in_body_steps (mode.Head every h) k ways derive name way sub pre e stands = in_the_body ways derive name way _ k sub pre stands e
in_body_steps (mode.Open every h) k ways derive name way sub pre e stands = in_the_body ways derive name way _ k sub pre stands e

form_in_body : (o : Option forms.State) (ways : List ItemWay) (derive : Bool) (name : Word) (way : HeadWay) (sub pre : List Tok) →
    pre ≡ (items_yield ways ++ before_body derive name way) ++ sub → OnForm o sub →
    OnProgram (in_body (titled derive name) (head_tree way) (items_tree ways) o) pre
form_in_body None ways derive name way sub pre e is = tt
form_in_body (Some (m, k)) ways derive name way sub pre e is = in_body_steps m k ways derive name way sub pre e is

pub program_steps : {stage : Stage} {items : List Item} {pre : List Tok} → ProgramStands stage items pre → (tok : Tok) →
    OnProgram (step_program tok stage items) (pre ++ tok ∷ [])
program_steps (between ways pre e) t.Rule = begun ways false _ (one_more _ _ _ e)
program_steps (between ways pre e) t.Derive = begun ways true _ (one_more _ _ _ e)
program_steps (between ways pre e) tok = tt
program_steps (begun ways derive pre e) (t.Name text line) = named ways derive (word text line) _
    (one_more_of pre (items_yield ways) (head_token derive ∷ []) (t.Name text line) e)
program_steps (begun ways derive pre e) tok = tt
program_steps (named ways derive name pre e) t.For = in_the_head ways derive name _ [] _ (var none refl [] refl)
    (one_more_of pre (items_yield ways) (head_token derive ∷ name_of name ∷ []) t.For e)
program_steps (named ways derive name pre e) tok = tt
program_steps (in_the_head ways derive name state sub pre stands e) tok =
    in_head_steps (step_head tok state) ways derive name sub pre tok e (head_steps stands tok)
program_steps (in_the_body ways derive name way m k sub pre stands e) tok =
    form_in_body (step_form tok m k) ways derive name way (sub ++ tok ∷ []) (pre ++ tok ∷ [])
    (one_more_of pre (items_yield ways ++ before_body derive name way) sub tok e) (form_steps stands tok)

-- an item completes what stands before its end
finish : (ways : List ItemWay) (way : ItemWay) (pre more : List Tok) → pre ++ more ≡ items_yield ways ++ item_yield way → Begins items_yield pre
finish ways way pre more e = record {
  more = more;
  way = ways ++ way ∷ [];
  yields = added_yield ways way ∙ sym e;
}

abbrev some_head : HeadWay
some_head = record {
  vars = one (record { name = some_word; kind = some_word });
  few = refl;
  asks = g.none;
}

abbrev some_rest : Bool → List Tok
some_rest derive = name_of some_word ∷ t.Colon ∷ name_of some_word ∷ body_token derive ∷ t.True ∷ t.End ∷ []

name_turned : (before rest : List Tok) (first name : Tok) → (before ++ first ∷ []) ++ (name ∷ rest) ≡ before ++ (first ∷ name ∷ rest)
name_turned before rest first name = simp append_assoc

for_turned : (before rest : List Tok) (first name : Tok) → (before ++ (first ∷ name ∷ [])) ++ (t.For ∷ rest) ≡ before ++ (first ∷ name ∷ t.For ∷ rest)
for_turned before rest first name = simp append_assoc

head_turned : (before sub more rest : List Tok) (first name : Tok) →
    (before ++ (first ∷ name ∷ t.For ∷ sub)) ++ (more ++ rest) ≡ before ++ (first ∷ name ∷ t.For ∷ ((sub ++ more) ++ rest))
head_turned before sub more rest first name = simp append_assoc

form_turned : (before sub more : List Tok) → (before ++ sub) ++ (more ++ t.End ∷ []) ≡ before ++ ((sub ++ more) ++ t.End ∷ [])
form_turned before sub more = simp append_assoc

pub program_begins : {stage : Stage} {items : List Item} {pre : List Tok} → ProgramStands stage items pre → Begins items_yield pre
program_begins (between ways pre e) = record { more = []; way = ways; yields = sym (append-nil pre ∙ e) }
program_begins (begun ways derive pre e) = finish ways (whole_item derive some_word some_head some_whole) pre
    (name_of some_word ∷ t.For ∷ some_rest derive)
    (ap (λ (toks : List Tok). toks ++ (name_of some_word ∷ t.For ∷ some_rest derive)) e
    ∙ name_turned (items_yield ways) (t.For ∷ some_rest derive) (head_token derive) (name_of some_word))
program_begins (named ways derive name pre e) = finish ways (whole_item derive name some_head some_whole) pre (t.For ∷ some_rest derive)
    (ap (λ (toks : List Tok). toks ++ (t.For ∷ some_rest derive)) e
    ∙ for_turned (items_yield ways) (some_rest derive) (head_token derive) (name_of name))
program_begins (in_the_head ways derive name state sub pre stands e) =
    let begins = head_begins stands in
    let rest : List Tok = body_token derive ∷ t.True ∷ t.End ∷ [] in
    finish ways (whole_item derive name begins.way some_whole) pre (begins.more ++ rest)
    (ap (λ (toks : List Tok). toks ++ (begins.more ++ rest)) e
    ∙ head_turned (items_yield ways) sub begins.more rest (head_token derive) (name_of name)
    ∙ ap (λ (toks : List Tok). items_yield ways ++ (head_token derive ∷ name_of name ∷ t.For ∷ (toks ++ rest))) (sym begins.yields)
    ∙ ap (λ (toks : List Tok). items_yield ways ++ (head_token derive ∷ name_of name ∷ t.For ∷ toks))
    (append_assoc (vars_yield begins.way.vars) (asks_yield begins.way.asks) rest))
program_begins (in_the_body ways derive name way m k sub pre stands e) =
    let begins = form_begins stands in
    finish ways (whole_item derive name way begins.way) pre (begins.more ++ t.End ∷ [])
    (ap (λ (toks : List Tok). toks ++ (begins.more ++ t.End ∷ [])) e
    ∙ form_turned (items_yield ways ++ before_body derive name way) sub begins.more
    ∙ ap (λ (toks : List Tok). (items_yield ways ++ before_body derive name way) ++ (toks ++ t.End ∷ [])) (sym begins.yields)
    ∙ item_turned (items_yield ways) (vars_yield way.vars) (asks_yield way.asks) (whole_yield begins.way) (head_token derive) (name_of name) (body_token derive))
