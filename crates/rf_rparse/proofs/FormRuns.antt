-- Formulas are read to their ends.
use Rattle.std.proofs.Common.{◌≡◌, ◌∙◌, ap, sym, refl, List, [], ◌∷◌, ◌++◌, Bool, true, false, Option, Some, None, append_assoc}
use Rattle.rf_rtree.specs.declared.forms.Comp.{Comp}
use Rattle.rf_rtree.specs.declared.forms.Comp.TheVariants as comp
use Rattle.rf_rtree.specs.declared.forms.RForm.{RForm}
use Rattle.rf_rtree.specs.declared.forms.RForm.TheVariants as form
use Rattle.rf_rtree.specs.declared.forms.RTerm.{RTerm}
use Rattle.rf_rtree.specs.declared.forms.RTerm.TheVariants as term
use Rattle.rf_rtree.specs.declared.words.RVar.{RVar}
use Rattle.rf_rtree.specs.declared.words.Word.{Word}
use Rattle.std.specs.Option.{option_map}
use Rattle.rf_rtree.specs.Grammar.{Listed, items_of, listed_yield, arg_yield, vars_yield, AtMostFour, AskWay, ask_yield, ask_tree, AsksWay, none, asked, asks_yield, asks_tree, PropWay, named, word_package, TermWay, term_yield, term_tree, comp_token, Whole, only, implies, Either, both, or, Both, tight, and, Tight, not, paren, quant, truth, predicate, compare, whole_yield, either_yield, both_yield, tight_yield, whole_tree, either_tree, both_tree, tight_tree}
use Rattle.rf_rtree.specs.Grammar as g
use Rattle.rf_rtree.specs.Tokens.{Tok}
use Rattle.rf_rtree.specs.Tokens as t
use Rattle.rf_rparse.specs.declared.args.Args.{Args as Arguments}
use Rattle.rf_rparse.specs.declared.args.Args.TheVariants as args
use Rattle.rf_rparse.specs.declared.atoms.Atom.TheVariants as atom
use Rattle.rf_rparse.specs.declared.forms.Mode.TheVariants.{Want, Atom, Head}
use Rattle.rf_rparse.specs.declared.frames.Frame.{Frame}
use Rattle.rf_rparse.specs.declared.frames.Frame.TheVariants as frame
use Rattle.rf_rparse.specs.declared.heads.HeadState.{HeadState}
use Rattle.rf_rparse.specs.Args.{step_args}
use Rattle.rf_rparse.specs.Atoms.{in_args}
use Rattle.rf_rparse.specs.Forms.{State, step_form, step_got, close, end, in_atom, in_head}
use Rattle.rf_rparse.specs.Frames.{Waited, done, join_or, join_implies, either_of, whole_of}
use Rattle.rf_rparse.specs.Heads.{step_head, head_of, empty_head}
use Rattle.rf_rparse.proofs.HeadRuns.{args_step, head_step, goes_on, args_run, head_run, ripe}
use Rattle.rf_rparse.proofs.Runs.{on, run, run_from, within}

abbrev pub form_step : Tok → State → Option State
form_step tok state = step_form tok state.0 state.1

abbrev pub form_run : List Tok → State → Option State
form_run = run form_step

-- behind a name on the right, a dot goes on
abbrev pub IsNext : Tok → Type 0
IsNext t.Dot = ⊥
IsNext tok = Unit {0}

-- what an operand that is complete becomes with the next token, and the run behind it
abbrev pub behind : Tok → List Tok → Waited → Option State
behind tok rest waited = on (step_got tok waited) (form_run rest)

-- the same for an operand of `or`, and for a formula
abbrev pub got_either : Tok → Waited → Option State
got_either t.Or waited = Some (Want, frame.Or waited.0 ∷ waited.1)
got_either t.Implies waited = Some (Want, frame.Implies waited.0 ∷ waited.1)
got_either t.Right waited = close (whole_of waited)
got_either t.End waited = end (whole_of waited)
got_either tok waited = None

abbrev pub got_whole : Tok → Waited → Option State
got_whole t.Right waited = close waited
got_whole t.End waited = end waited
got_whole tok waited = None

args_in_form : (k : List Frame) (tok : Tok) (s s' : Arguments) → args_step tok s ≡ Some s' →
    form_step tok (Atom (atom.Args s), k) ≡ Some (Atom (atom.Args s'), k)
args_in_form k tok s s' e = ap (λ next. in_atom tok k (in_args next)) (goes_on (step_args tok s) s' e)

head_in_form : (every : Bool) (k : List Frame) (tok : Tok) (s s' : HeadState) → head_step tok s ≡ Some s' →
    form_step tok (Head every s, k) ≡ Some (Head every s', k)
head_in_form every k tok s s' e =
    ap (λ next. option_map (λ mode. (mode, k)) (in_head tok every next)) (goes_on (step_head tok s) s' e)

compared : (l : RTerm) (c : Comp) (k : List Frame) (rest : List Tok) →
    form_run (comp_token c ∷ rest) (Atom (atom.Compared l), k) ≡ form_run rest (Atom (atom.Right l c), k)
compared l comp.Equal k rest = refl
compared l comp.Unequal k rest = refl
compared l comp.AtMost k rest = refl

named_compared : (n : Word) (c : Comp) (k : List Frame) (rest : List Tok) →
    form_run (comp_token c ∷ rest) (Atom (atom.Named n), k) ≡ form_run rest (Atom (atom.Right (term.Var n) c), k)
named_compared n comp.Equal k rest = refl
named_compared n comp.Unequal k rest = refl
named_compared n comp.AtMost k rest = refl

left_run : (l : TermWay) (c : Comp) (k : List Frame) (rest : List Tok) →
    form_run (term_yield l ++ comp_token c ∷ rest) (Want, k) ≡ form_run rest (Atom (atom.Right (term_tree l) c), k)
left_run (g.prop elem (named name)) c k rest = compared (term.Prop elem name) c k rest
left_run (g.prop elem (word_package line)) c k rest = compared (term_tree (g.prop elem (word_package line))) c k rest
left_run (g.old line elem (named name)) c k rest = compared (term.Old line elem name) c k rest
left_run (g.old line elem (word_package at)) c k rest = compared (term_tree (g.old line elem (word_package at))) c k rest
left_run (g.var name) c k rest = named_compared name c k rest
left_run (g.access name) c k rest = compared (term.Access name) c k rest
left_run (g.text name) c k rest = compared (term.Text name) c k rest

named_ends : (l : RTerm) (c : Comp) (n : Word) (k : List Frame) (tok : Tok) (rest : List Tok) → IsNext tok →
    form_run (tok ∷ rest) (Atom (atom.RightNamed l c n), k) ≡ behind tok rest (done (form.Cmp l c (term.Var n)) k)
named_ends l c n k t.Dot rest is = absurd is
named_ends l c n k tok rest is = refl

right_run : (l : RTerm) (c : Comp) (r : TermWay) (k : List Frame) (tok : Tok) (rest : List Tok) → IsNext tok →
    form_run (term_yield r ++ tok ∷ rest) (Atom (atom.Right l c), k) ≡ behind tok rest (done (form.Cmp l c (term_tree r)) k)
right_run l c (g.prop elem (named name)) k tok rest is = refl
right_run l c (g.prop elem (word_package line)) k tok rest is = refl
right_run l c (g.old line elem (named name)) k tok rest is = refl
right_run l c (g.old line elem (word_package at)) k tok rest is = refl
right_run l c (g.var name) k tok rest is = named_ends l c name k tok rest is
right_run l c (g.access name) k tok rest is = refl
right_run l c (g.text name) k tok rest is = refl

compare_run : (l : TermWay) (c : Comp) (r : TermWay) (k : List Frame) (tok : Tok) (rest : List Tok) → IsNext tok →
    form_run (tight_yield (compare l c r) ++ tok ∷ rest) (Want, k) ≡ behind tok rest (done (tight_tree (compare l c r)) k)
compare_run l c r k tok rest is =
    ap (λ (toks : List Tok). form_run toks (Want, k)) (append_assoc (term_yield l) (comp_token c ∷ term_yield r) (tok ∷ rest))
    ∙ left_run l c k (term_yield r ++ tok ∷ rest) ∙ right_run (term_tree l) c r k tok rest is

predicate_run : (way : AskWay) (k : List Frame) (tok : Tok) (rest : List Tok) →
    form_run (ask_yield way ++ tok ∷ rest) (Want, k) ≡ behind tok rest (done (form.Pred (ask_tree way)) k)
predicate_run way k tok rest =
    let start : State = (Atom (atom.Args (args.Want way.name [])), k) in
    ap (λ (toks : List Tok). form_run toks start) (append_assoc (listed_yield arg_yield way.args) (t.Right ∷ []) (tok ∷ rest))
    ∙ run_from form_step (listed_yield arg_yield way.args) (t.Right ∷ tok ∷ rest) start (Atom (atom.Args (args.Have way.name (items_of way.args))), k)
    (within args_step form_step (λ (s : Arguments). (Atom (atom.Args s), k)) (args_in_form k) (listed_yield arg_yield way.args)
    (args.Want way.name []) (args.Have way.name (items_of way.args)) (args_run way.name way.args))

-- behind the head of a quantifier its colon and its parenthesis follow
opened : (every : Bool) (vars : Listed RVar) (asks : AsksWay) (k : List Frame) (rest : List Tok) →
    form_run (t.Colon ∷ t.Left ∷ rest) (Head every (ripe (items_of vars) asks), k)
    ≡ form_run rest (Want, frame.Quant every (head_of (items_of vars) (asks_tree asks)) ∷ k)
opened every vars none k rest = refl
opened every vars (asked ways) k rest = refl

quant_opens : (every : Bool) (vars : Listed RVar) (few : AtMostFour vars) (asks : AsksWay) (k : List Frame) (rest : List Tok) →
    form_run (vars_yield vars ++ (asks_yield asks ++ (t.Colon ∷ t.Left ∷ rest))) (Head every empty_head, k)
    ≡ form_run rest (Want, frame.Quant every (head_of (items_of vars) (asks_tree asks)) ∷ k)
quant_opens every vars few asks k rest =
    let more = t.Colon ∷ t.Left ∷ rest in
    ap (λ (toks : List Tok). form_run toks (Head every empty_head, k)) (sym (append_assoc (vars_yield vars) (asks_yield asks) more))
    ∙ run_from form_step (vars_yield vars ++ asks_yield asks) more (Head every empty_head, k) (Head every (ripe (items_of vars) asks), k)
    (within head_step form_step (λ (s : HeadState). (Head every s, k)) (head_in_form every k) (vars_yield vars ++ asks_yield asks)
    empty_head (ripe (items_of vars) asks) (head_run vars few asks))
    ∙ opened every vars asks k rest

-- the tokens of a quantifier, and those behind it
quant_regroup : (vars : List Tok) (asks : List Tok) (body : List Tok) (rest : List Tok) →
    (vars ++ (asks ++ (t.Colon ∷ t.Left ∷ (body ++ t.Right ∷ [])))) ++ rest
    ≡ vars ++ (asks ++ (t.Colon ∷ t.Left ∷ (body ++ t.Right ∷ rest)))
quant_regroup vars asks body rest = simp append_assoc

quant_starts : (every : Bool) (k : List Frame) (rest : List Tok) →
    form_run (g.quant_token every ∷ rest) (Want, k) ≡ form_run rest (Head every empty_head, k)
quant_starts true k rest = refl
quant_starts false k rest = refl

truth_run : (value : Bool) (k : List Frame) (tok : Tok) (rest : List Tok) →
    form_run (g.truth_token value ∷ tok ∷ rest) (Want, k) ≡ behind tok rest (done (form.Truth value) k)
truth_run true k tok rest = refl
truth_run false k tok rest = refl

mutual
  pub tight_run : (x : Tight) (k : List Frame) (tok : Tok) (rest : List Tok) → IsNext tok →
      form_run (tight_yield x ++ tok ∷ rest) (Want, k) ≡ behind tok rest (done (tight_tree x) k)
  tight_run (not x) k tok rest is = tight_run x (frame.Not ∷ k) tok rest is
  tight_run (paren w) k tok rest is =
      ap (λ (toks : List Tok). form_run toks (Want, frame.Paren ∷ k)) (append_assoc (whole_yield w) (t.Right ∷ []) (tok ∷ rest))
      ∙ whole_run w (frame.Paren ∷ k) (λ y. refl) (λ y. refl) t.Right (tok ∷ rest) tt (λ p. refl) (λ p. refl)
  tight_run (quant every vars few asks w) k tok rest is =
      ap (λ (toks : List Tok). form_run (g.quant_token every ∷ toks) (Want, k))
      (quant_regroup (vars_yield vars) (asks_yield asks) (whole_yield w) (tok ∷ rest))
      ∙ quant_starts every k _
      ∙ quant_opens every vars few asks k (whole_yield w ++ t.Right ∷ tok ∷ rest)
      ∙ whole_run w (frame.Quant every (head_of (items_of vars) (asks_tree asks)) ∷ k) (λ y. refl) (λ y. refl)
      t.Right (tok ∷ rest) tt (λ p. refl) (λ p. refl)
  tight_run (truth value) k tok rest is = truth_run value k tok rest
  tight_run (predicate way) k tok rest is = predicate_run way k tok rest
  tight_run (compare l c r) k tok rest is = compare_run l c r k tok rest is

  pub both_run : (b : Both) (k : List Frame) → ((y : RForm) → done y k ≡ (y, k)) → (tok : Tok) (rest : List Tok) → IsNext tok →
      form_run (both_yield b ++ tok ∷ rest) (Want, k) ≡ behind tok rest (both_tree b, k)
  both_run (tight x) k free tok rest is = tight_run x k tok rest is ∙ ap (behind tok rest) (free (tight_tree x))
  both_run (and b x) k free tok rest is =
      ap (λ (toks : List Tok). form_run toks (Want, k)) (append_assoc (both_yield b) (t.And ∷ tight_yield x) (tok ∷ rest))
      ∙ both_run b k free t.And (tight_yield x ++ tok ∷ rest) tt
      ∙ tight_run x (frame.And (both_tree b) ∷ k) tok rest is

  pub either_run : (e : Either) (k : List Frame) → ((y : RForm) → done y k ≡ (y, k)) → ((y : RForm) → join_or y k ≡ (y, k)) →
      (tok : Tok) (rest : List Tok) → IsNext tok → ((p : Waited) → step_got tok p ≡ got_either tok (either_of p)) →
      form_run (either_yield e ++ tok ∷ rest) (Want, k) ≡ on (got_either tok (either_tree e, k)) (form_run rest)
  either_run (both b) k free freer tok rest is joins = both_run b k free tok rest is
      ∙ ap (λ o. on o (form_run rest)) (joins (both_tree b, k) ∙ ap (got_either tok) (freer (both_tree b)))
  either_run (or e b) k free freer tok rest is joins =
      ap (λ (toks : List Tok). form_run toks (Want, k)) (append_assoc (either_yield e) (t.Or ∷ both_yield b) (tok ∷ rest))
      ∙ either_run e k free freer t.Or (both_yield b ++ tok ∷ rest) tt (λ p. refl)
      ∙ both_run b (frame.Or (either_tree e) ∷ k) (λ y. refl) tok rest is
      ∙ ap (λ o. on o (form_run rest)) (joins (both_tree b, frame.Or (either_tree e) ∷ k))

  pub whole_run : (w : Whole) (k : List Frame) → ((y : RForm) → done y k ≡ (y, k)) → ((y : RForm) → join_or y k ≡ (y, k)) →
      (tok : Tok) (rest : List Tok) → IsNext tok → ((p : Waited) → step_got tok p ≡ got_either tok (either_of p)) →
      ((p : Waited) → got_either tok p ≡ got_whole tok (whole_of p)) →
      form_run (whole_yield w ++ tok ∷ rest) (Want, k) ≡ on (got_whole tok (join_implies (whole_tree w) k)) (form_run rest)
  whole_run (only e) k free freer tok rest is joins closes = either_run e k free freer tok rest is joins
      ∙ ap (λ o. on o (form_run rest)) (closes (either_tree e, k))
  whole_run (implies e w) k free freer tok rest is joins closes =
      ap (λ (toks : List Tok). form_run toks (Want, k)) (append_assoc (either_yield e) (t.Implies ∷ whole_yield w) (tok ∷ rest))
      ∙ either_run e k free freer t.Implies (whole_yield w ++ tok ∷ rest) tt (λ p. refl)
      ∙ whole_run w (frame.Implies (either_tree e) ∷ k) (λ y. refl) (λ y. refl) tok rest is joins closes
