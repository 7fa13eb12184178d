-- Programs are read to their ends; so tokens have one reading at most.
use Rattle.std.proofs.Common.{◌≡◌, ◌∙◌, ap, sym, refl, List, [], ◌∷◌, ◌++◌, Bool, true, false, Option, Some, None, append_assoc, append-nil}
use Rattle.std.specs.Option.{option_map}
use Rattle.rf_rtree.specs.declared.items.Item.{Item}
use Rattle.rf_rtree.specs.declared.items.RuleProg.{RuleProg}
use Rattle.rf_rtree.specs.declared.words.RVar.{RVar}
use Rattle.rf_rtree.specs.declared.words.Word.{Word}
use Rattle.rf_rtree.specs.Grammar.{items_of, vars_yield, AsksWay, none, asked, asks_yield, asks_tree, whole_yield, whole_tree, ItemWay, item_yield, item_tree, items_yield, items_tree, head_token, body_token, name_of}
use Rattle.rf_rtree.specs.Readings.{Reading}
use Rattle.rf_rtree.specs.Tokens.{Tok}
use Rattle.rf_rtree.specs.Tokens as t
use Rattle.rf_rparse.specs.declared.forms.Mode.TheVariants as mode
use Rattle.rf_rparse.specs.declared.heads.Head.{Head as Heading}
use Rattle.rf_rparse.specs.declared.heads.HeadState.{HeadState}
use Rattle.rf_rparse.specs.declared.programs.Stage.TheVariants.{Top, Head, Body}
use Rattle.rf_rparse.specs.declared.programs.Title.{Title}
use Rattle.rf_rparse.specs.Forms as forms
use Rattle.rf_rparse.specs.Heads.{step_head, head_of, empty_head}
use Rattle.rf_rparse.specs.Programs.{State, step_program, in_head, in_body, body_of}
use Rattle.rf_rparse.proofs.FormRuns.{form_step, whole_run}
use Rattle.rf_rparse.proofs.HeadRuns.{head_step, goes_on, head_run, ripe}
use Rattle.rf_rparse.proofs.Runs.{run, run_from, within}

abbrev pub program_step : Tok → State → Option State
program_step tok state = step_program tok state.0 state.1

abbrev pub program_run : List Tok → State → Option State
program_run = run program_step

abbrev pub start : State
start = (Top, [])

abbrev pub titled : Bool → Word → Title
titled derive name = record { derive = derive; name = name }

head_in_program : (title : Title) (items : List Item) (tok : Tok) (s s' : HeadState) → head_step tok s ≡ Some s' →
    program_step tok (Head title s, items) ≡ Some (Head title s', items)
head_in_program title items tok s s' e =
    ap (λ next. option_map (λ stage. (stage, items)) (in_head tok title next)) (goes_on (step_head tok s) s' e)

abbrev bodied : Title → Heading → List Item → forms.State → State
bodied title head items state = body_of title head items state.0 state.1

form_in_program : (title : Title) (head : Heading) (items : List Item) (tok : Tok) (s s' : forms.State) →
    form_step tok s ≡ Some s' → program_step tok (bodied title head items s) ≡ Some (bodied title head items s')
form_in_program title head items tok (mode.End x, k) s' e = let h : None ≡ Some s' = e in cc
form_in_program title head items tok (mode.Want, k) s' e = ap (in_body title head items) e
form_in_program title head items tok (mode.Got x, k) s' e = ap (in_body title head items) e
form_in_program title head items tok (mode.Atom a, k) s' e = ap (in_body title head items) e
form_in_program title head items tok (mode.Head every h, k) s' e = ap (in_body title head items) e
form_in_program title head items tok (mode.Open every h, k) s' e = ap (in_body title head items) e

starts : (derive : Bool) (name : Word) (items : List Item) (rest : List Tok) →
    program_run (head_token derive ∷ name_of name ∷ t.For ∷ rest) (Top, items)
    ≡ program_run rest (Head (titled derive name) empty_head, items)
starts true name items rest = refl
starts false name items rest = refl

begins : (derive : Bool) (name : Word) (vars : List RVar) (asks : AsksWay) (items : List Item) (rest : List Tok) →
    program_run (body_token derive ∷ rest) (Head (titled derive name) (ripe vars asks), items)
    ≡ program_run rest (Body (titled derive name) (head_of vars (asks_tree asks)) mode.Want [], items)
begins true name vars none items rest = refl
begins true name vars (asked ways) items rest = refl
begins false name vars none items rest = refl
begins false name vars (asked ways) items rest = refl

item_run : (way : ItemWay) (items : List Item) →
    program_run (item_yield way) (Top, items) ≡ Some (Top, items ++ item_tree way ∷ [])
item_run way items =
    let title = titled way.derive way.name in
    let head = head_of (items_of way.vars) (asks_tree way.asks) in
    let ended = whole_yield way.body ++ t.End ∷ [] in
    let more = body_token way.derive ∷ ended in
    let at_head : State = (Head title empty_head, items) in
    starts way.derive way.name items (vars_yield way.vars ++ (asks_yield way.asks ++ more))
    ∙ ap (λ (toks : List Tok). program_run toks at_head) (sym (append_assoc (vars_yield way.vars) (asks_yield way.asks) more))
    ∙ run_from program_step (vars_yield way.vars ++ asks_yield way.asks) more at_head (Head title (ripe (items_of way.vars) way.asks), items)
    (within head_step program_step (λ (s : HeadState). (Head title s, items)) (head_in_program title items)
    (vars_yield way.vars ++ asks_yield way.asks) empty_head (ripe (items_of way.vars) way.asks) (head_run way.vars way.few way.asks))
    ∙ begins way.derive way.name (items_of way.vars) way.asks items ended
    ∙ within form_step program_step (bodied title head items) (form_in_program title head items) ended
    (mode.Want, []) (mode.End (whole_tree way.body), [])
    (whole_run way.body [] (λ y. refl) (λ y. refl) t.End [] tt (λ p. refl) (λ p. refl))

items_run : (ways : List ItemWay) (items : List Item) →
    program_run (items_yield ways) (Top, items) ≡ Some (Top, items ++ items_tree ways)
items_run [] items = ap (λ (all : List Item). Some (Top, all)) (sym (append-nil items))
items_run (way ∷ ways) items = run_from program_step (item_yield way) (items_yield ways) (Top, items) (Top, items ++ item_tree way ∷ [])
    (item_run way items) ∙ items_run ways (items ++ item_tree way ∷ [])
    ∙ ap (λ (all : List Item). Some (Top, all)) (append_assoc items (item_tree way ∷ []) (items_tree ways))

-- each reading is found
pub reading_runs : (toks : List Tok) (prog : RuleProg) → Reading toks prog → program_run toks start ≡ Some (Top, prog.items)
reading_runs toks prog reading =
    ap (λ (toks : List Tok). program_run toks start) (sym reading.yields) ∙ items_run reading.way []
    ∙ ap (λ (items : List Item). Some (Top, items)) reading.tree

same_items : (a b : List Item) → ◌≡◌ {A = Option State} (Some (Top, a)) (Some (Top, b)) → a ≡ b
same_items a b e =
    let h : ◌≡◌ {A = State} (Top, a) (Top, b) = cc in
    ap (λ (s : State). s.1) h

pub one_reading : (toks : List Tok) (a b : RuleProg) → Reading toks a → Reading toks b → a ≡ b
one_reading toks a b first second =
    ap (λ (items : List Item). record { items = items })
    (same_items a.items b.items (sym (reading_runs toks a first) ∙ reading_runs toks b second))
