-- Arguments, variables and queries are read to their ends.
use Rattle.std.proofs.Common.{◌≡◌, ◌∙◌, ap, refl, ◌≤◌, List, [], ◌∷◌, ◌++◌, Bool, true, Option, Some, None, length, nat_lt, arith, length-append, if◌then◌else◌}
use Rattle.std.proofs.lemmas.Bool.{lt-ltb, le-leb, leb-true}
use Rattle.rf_rtree.specs.declared.words.Ask.{Ask as Asked}
use Rattle.rf_rtree.specs.declared.words.RVar.{RVar}
use Rattle.rf_rtree.specs.declared.words.Word.{Word}
use Rattle.rf_rtree.specs.Grammar.{Listed, one, next, items_of, listed_yield, arg_yield, vars_yield, var_yield, AtMostFour, AskWay, ask_yield, ask_tree, AsksWay, none, asked, asks_yield, trees_of}
use Rattle.rf_rtree.specs.Tokens.{Tok}
use Rattle.rf_rtree.specs.Tokens as t
use Rattle.rf_rparse.specs.declared.args.Args.{Args as Arguments}
use Rattle.rf_rparse.specs.declared.args.Args.TheVariants.{Want, Have}
use Rattle.rf_rparse.specs.declared.heads.Head.{Head}
use Rattle.rf_rparse.specs.declared.heads.HeadState.{HeadState}
use Rattle.rf_rparse.specs.declared.heads.HeadState.TheVariants.{Var, Vars, Ask, Args, Asks}
use Rattle.rf_rparse.specs.declared.next.Next.{Next}
use Rattle.rf_rparse.specs.declared.next.Next.TheVariants.{More, Whole, Held, No}
use Rattle.rf_rparse.specs.Args.{step_args}
use Rattle.rf_rparse.specs.Heads.{step_head, head_of, empty_head, in_args}
use Rattle.rf_rparse.proofs.Runs.{on, run, taken, run_from, within}

abbrev pub args_step : Tok → Arguments → Option Arguments
args_step tok args = taken (step_args tok args)

abbrev pub head_step : Tok → HeadState → Option HeadState
head_step tok head = taken (step_head tok head)

-- a step that goes on
pub goes_on : {S X : Type 0} (next : Next S X) (s : S) → taken next ≡ Some s → next ≡ More s
goes_on (More t) s e = let h : Some t ≡ Some s = e in cc
goes_on (Whole x) s e = let h : None ≡ Some s = e in cc
goes_on (Held x) s e = let h : None ≡ Some s = e in cc
goes_on No s e = let h : None ≡ Some s = e in cc

pub args_run : (name : Word) (args : Listed Word) → run args_step (listed_yield arg_yield args) (Want name []) ≡ Some (Have name (items_of args))
args_run name (one arg) = refl
args_run name (next args arg) = run_from args_step (listed_yield arg_yield args) (t.Comma ∷ arg_yield arg) (Want name []) (Have name (items_of args)) (args_run name args)

args_in_head : (head : Head) (tok : Tok) (s s' : Arguments) → args_step tok s ≡ Some s' → head_step tok (Args head s) ≡ Some (Args head s')
args_in_head head tok s s' e = ap (λ next. taken (in_args head next)) (goes_on (step_args tok s) s' e)

ask_run : (vars : List RVar) (asks : List Asked) (way : AskWay) →
    run head_step (ask_yield way) (Ask (head_of vars asks)) ≡ Some (Asks (head_of vars (asks ++ ask_tree way ∷ [])))
ask_run vars asks way = run_from head_step (listed_yield arg_yield way.args) (t.Right ∷ []) (Args (head_of vars asks) (Want way.name []))
    (Args (head_of vars asks) (Have way.name (items_of way.args)))
    (within args_step head_step (Args (head_of vars asks)) (args_in_head (head_of vars asks)) (listed_yield arg_yield way.args)
    (Want way.name []) (Have way.name (items_of way.args)) (args_run way.name way.args))

pub trees_append : (xs ys : List AskWay) → trees_of (xs ++ ys) ≡ trees_of xs ++ trees_of ys
trees_append [] ys = refl
trees_append (x ∷ xs) ys = ap (λ (trees : List Asked). ask_tree x ∷ trees) (trees_append xs ys)

asks_run : (vars : List RVar) (ways : Listed AskWay) →
    run head_step (listed_yield ask_yield ways) (Ask (head_of vars [])) ≡ Some (Asks (head_of vars (trees_of (items_of ways))))
asks_run vars (one way) = ask_run vars [] way
asks_run vars (next ways way) = run_from head_step (listed_yield ask_yield ways) (t.Comma ∷ ask_yield way) (Ask (head_of vars []))
    (Asks (head_of vars (trees_of (items_of ways)))) (asks_run vars ways)
    ∙ ask_run vars (trees_of (items_of ways)) way
    ∙ ap (λ (asks : List Asked). Some (Asks (head_of vars asks)))
    (let e : trees_of (items_of ways ++ way ∷ []) ≡ trees_of (items_of ways) ++ (ask_tree way ∷ []) = trees_append (items_of ways) (way ∷ []) in cc)

-- a list that another item is added to had fewer
pub fewer : (vars : Listed RVar) (var : RVar) → AtMostFour (next vars var) → nat_lt (length (items_of vars)) 4 ≡ true
fewer vars var few =
    let most : length (items_of vars ++ var ∷ []) ≤ 4 = leb-true _ _ few in
    lt-ltb _ _ (omega (arith, most, length-append (items_of vars) (var ∷ [])))

still_few : (vars : Listed RVar) (var : RVar) → AtMostFour (next vars var) → AtMostFour vars
still_few vars var few =
    let most : length (items_of vars ++ var ∷ []) ≤ 4 = leb-true _ _ few in
    le-leb _ _ (omega (arith, most, length-append (items_of vars) (var ∷ [])))

vars_run : (vars : Listed RVar) → AtMostFour vars → run head_step (vars_yield vars) empty_head ≡ Some (Vars (head_of (items_of vars) []))
vars_run (one var) few = refl
vars_run (next vars var) few = run_from head_step (vars_yield vars) (t.Comma ∷ var_yield var) empty_head
    (Vars (head_of (items_of vars) [])) (vars_run vars (still_few vars var few))
    ∙ ap (λ (fits : Bool). on (taken (if fits then More (Var (head_of (items_of vars) [])) else Held (head_of (items_of vars) []))) (run head_step (var_yield var)))
    (fewer vars var few)

-- the state behind a head that is complete
abbrev pub ripe : List RVar → AsksWay → HeadState
ripe vars none = Vars (head_of vars [])
ripe vars (asked ways) = Asks (head_of vars (trees_of (items_of ways)))

pub head_run : (vars : Listed RVar) (few : AtMostFour vars) (asks : AsksWay) →
    run head_step (vars_yield vars ++ asks_yield asks) empty_head ≡ Some (ripe (items_of vars) asks)
head_run vars few none = run_from head_step (vars_yield vars) [] empty_head (Vars (head_of (items_of vars) [])) (vars_run vars few)
head_run vars few (asked ways) = run_from head_step (vars_yield vars) (t.If ∷ listed_yield ask_yield ways) empty_head
    (Vars (head_of (items_of vars) [])) (vars_run vars few) ∙ asks_run (items_of vars) ways
