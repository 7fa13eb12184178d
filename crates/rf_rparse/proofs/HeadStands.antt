-- What stands for variables and queries, while they are read.
use Rattle.std.proofs.Common.{◌≡◌, ◌∙◌, ap, sym, refl, subst, ◌<◌, List, [], ◌∷◌, ◌++◌, Bool, true, false, length, nat_lt, arith, length-append, append_assoc, append-nil, if◌then◌else◌}
use Rattle.std.proofs.lemmas.Bool.{ltb-true, le-leb}
use Rattle.rf_rtree.specs.declared.words.Ask.{Ask as Asked}
use Rattle.rf_rtree.specs.declared.words.RVar.{RVar}
use Rattle.rf_rtree.specs.declared.words.Word.{Word}
use Rattle.rf_rtree.specs.Grammar.{word, Listed, one, next, items_of, listed_yield, var_yield, vars_yield, AtMostFour, AskWay, ask_yield, ask_tree, AsksWay, asked, asks_yield, asks_tree, trees_of, name_of}
use Rattle.rf_rtree.specs.Grammar as g
use Rattle.rf_rtree.specs.Tokens.{Tok}
use Rattle.rf_rtree.specs.Tokens as t
use Rattle.rf_rparse.specs.declared.args.Args.{Args as Arguments}
use Rattle.rf_rparse.specs.declared.heads.Head.{Head}
use Rattle.rf_rparse.specs.declared.heads.HeadState.{HeadState}
use Rattle.rf_rparse.specs.declared.heads.HeadState.TheVariants.{Var, Colon, Kind, Vars, Ask, Left, Args, Asks}
use Rattle.rf_rparse.specs.declared.next.Next.{Next}
use Rattle.rf_rparse.specs.declared.next.Next.TheVariants.{More, Whole, Held, No}
use Rattle.rf_rparse.specs.Args.{step_args}
use Rattle.rf_rparse.specs.Heads.{step_head, head_of, in_args}
use Rattle.rf_rparse.proofs.AtomStands.{IsAsk, ask, ArgsStand, want, args_steps, args_begin, some_word}
use Rattle.rf_rparse.proofs.HeadRuns.{trees_append}
use Rattle.rf_rparse.proofs.Standing.{Onward, Begins, Lead, none, behind, lead_items, lead_yield, lead_add, one_more, one_more_of, added_yield}

-- variables and the queries on them
pub record HeadWay : Type 0 where
  pub vars : Listed RVar
  pub few : AtMostFour vars
  pub asks : AsksWay

abbrev pub head_yield : HeadWay → List Tok
head_yield way = vars_yield way.vars ++ asks_yield way.asks

abbrev pub head_tree : HeadWay → Head
head_tree way = head_of (items_of way.vars) (asks_tree way.asks)

pub data IsHead : Head → List Tok → Type 0 where
  head : (way : HeadWay) (toks : List Tok) → toks ≡ head_yield way → IsHead (head_tree way) toks

-- there are fewer than four variables
abbrev pub IsFree : Lead RVar → Type 0
IsFree vars = nat_lt (length (lead_items vars)) 4 ≡ true

abbrev pub asking_yield : Listed RVar → Lead AskWay → List Tok
asking_yield vars asks = vars_yield vars ++ (t.If ∷ lead_yield ask_yield asks)

pub data HeadStands : HeadState → List Tok → Type 0 where
  var : (vars : Lead RVar) (free : IsFree vars) (toks : List Tok) → toks ≡ lead_yield var_yield vars →
      HeadStands (Var (head_of (lead_items vars) [])) toks
  colon : (vars : Lead RVar) (free : IsFree vars) (name : Word) (toks : List Tok) → toks ≡ lead_yield var_yield vars ++ name_of name ∷ [] →
      HeadStands (Colon (head_of (lead_items vars) []) name) toks
  kinded : (vars : Lead RVar) (free : IsFree vars) (name : Word) (toks : List Tok) →
      toks ≡ lead_yield var_yield vars ++ name_of name ∷ t.Colon ∷ [] →
      HeadStands (Kind (head_of (lead_items vars) []) name) toks
  some_vars : (vars : Listed RVar) (few : AtMostFour vars) (toks : List Tok) → toks ≡ vars_yield vars →
      HeadStands (Vars (head_of (items_of vars) [])) toks
  query : (vars : Listed RVar) (few : AtMostFour vars) (asks : Lead AskWay) (toks : List Tok) → toks ≡ asking_yield vars asks →
      HeadStands (Ask (head_of (items_of vars) (trees_of (lead_items asks)))) toks
  left : (vars : Listed RVar) (few : AtMostFour vars) (asks : Lead AskWay) (name : Word) (toks : List Tok) →
      toks ≡ asking_yield vars asks ++ name_of name ∷ [] →
      HeadStands (Left (head_of (items_of vars) (trees_of (lead_items asks))) name) toks
  args_of : (vars : Listed RVar) (few : AtMostFour vars) (asks : Lead AskWay) (args : Arguments) (sub toks : List Tok) →
      ArgsStand args sub → toks ≡ asking_yield vars asks ++ sub →
      HeadStands (Args (head_of (items_of vars) (trees_of (lead_items asks))) args) toks
  some_asks : (vars : Listed RVar) (few : AtMostFour vars) (asks : Listed AskWay) (toks : List Tok) →
      toks ≡ vars_yield vars ++ (t.If ∷ listed_yield ask_yield asks) →
      HeadStands (Asks (head_of (items_of vars) (trees_of (items_of asks)))) toks

added_few : (vars : Lead RVar) (x : RVar) → IsFree vars → AtMostFour (lead_add vars x)
added_few none x free = le-leb 1 4 (omega arith)
added_few (behind vars) x free =
    let less : length (items_of vars) < 4 = ltb-true (length (items_of vars)) 4 free in
    le-leb (length (items_of vars ++ x ∷ [])) 4 (omega (arith, less, length-append (items_of vars) (x ∷ [])))

abbrev variable : Word → Word → RVar
variable name kind = record { name = name; kind = kind }

-- another variable is complete
with_variable : (vars : Lead RVar) (free : IsFree vars) (name kind : Word) (pre : List Tok) →
    pre ≡ lead_yield var_yield vars ++ name_of name ∷ t.Colon ∷ name_of kind ∷ [] →
    HeadStands (Vars (head_of (lead_items vars ++ variable name kind ∷ []) [])) pre
with_variable none free name kind pre e = some_vars (one (variable name kind)) (added_few none (variable name kind) free) pre e
with_variable (behind vars) free name kind pre e =
    some_vars (next vars (variable name kind)) (added_few (behind vars) (variable name kind) free) pre
    (e ∙ sym (added_yield var_yield (behind vars) (variable name kind)))

at_comma : (vars : Listed RVar) (few : AtMostFour vars) (pre : List Tok) → pre ≡ vars_yield vars →
    (free : Bool) → nat_lt (length (items_of vars)) 4 ≡ free →
    Onward HeadStands IsHead (if free then More (Var (head_of (items_of vars) [])) else Held (head_of (items_of vars) [])) pre t.Comma
at_comma vars few pre e true free = var (behind vars) free _ (one_more _ _ _ e)
at_comma vars few pre e false free = head (record { vars = vars; few = few; asks = g.none }) pre (e ∙ sym (append-nil (vars_yield vars)))

-- another query is complete
with_query : (vars : Listed RVar) (few : AtMostFour vars) (asks : Lead AskWay) (way : AskWay) (pre : List Tok) →
    pre ≡ asking_yield vars asks ++ ask_yield way →
    HeadStands (Asks (head_of (items_of vars) (trees_of (lead_items asks) ++ ask_tree way ∷ []))) pre
with_query vars few none way pre e = some_asks vars few (one way) pre
    (e ∙ append_assoc (vars_yield vars) (t.If ∷ []) (ask_yield way))
with_query vars few (behind asks) way pre e =
    subst (λ (trees : List Asked). HeadStands (Asks (head_of (items_of vars) trees)) pre) (trees_append (items_of asks) (way ∷ []))
    (some_asks vars few (next asks way) pre (e ∙ append_assoc (vars_yield vars) (t.If ∷ lead_yield ask_yield (behind asks)) (ask_yield way)
    ∙ ap (λ (toks : List Tok). vars_yield vars ++ (t.If ∷ toks)) (sym (added_yield ask_yield (behind asks) way))))

args_in_head : (vars : Listed RVar) (few : AtMostFour vars) (asks : Lead AskWay) (n : Next Arguments Asked) (sub pre : List Tok) (tok : Tok) →
    pre ≡ asking_yield vars asks ++ sub → Onward ArgsStand IsAsk n sub tok →
    Onward HeadStands IsHead (in_args (head_of (items_of vars) (trees_of (lead_items asks))) n) pre tok
args_in_head vars few asks (More args) sub pre tok e stands = args_of vars few asks args (sub ++ tok ∷ []) _ stands
    (one_more_of pre (asking_yield vars asks) sub tok e)
args_in_head vars few asks (Whole a) sub pre tok e (ask way toks is) = with_query vars few asks way _
    (one_more_of pre (asking_yield vars asks) sub tok e ∙ ap (λ (toks : List Tok). asking_yield vars asks ++ toks) is)
args_in_head vars few asks (Held a) sub pre tok e is = tt
args_in_head vars few asks No sub pre tok e is = tt

pub head_steps : {state : HeadState} {pre : List Tok} → HeadStands state pre → (tok : Tok) →
    Onward HeadStands IsHead (step_head tok state) pre tok
head_steps (var vars free pre e) (t.Name text line) = colon vars free (word text line) _ (one_more _ _ _ e)
head_steps (var vars free pre e) tok = tt
head_steps (colon vars free name pre e) t.Colon = kinded vars free name _ (one_more_of pre (lead_yield var_yield vars) (name_of name ∷ []) t.Colon e)
head_steps (colon vars free name pre e) tok = tt
head_steps (kinded vars free name pre e) (t.Name text line) = with_variable vars free name (word text line) _
    (one_more_of pre (lead_yield var_yield vars) (name_of name ∷ t.Colon ∷ []) (t.Name text line) e)
head_steps (kinded vars free name pre e) tok = tt
head_steps (some_vars vars few pre e) t.Comma = at_comma vars few pre e (nat_lt (length (items_of vars)) 4) refl
head_steps (some_vars vars few pre e) t.If = query vars few none _ (one_more _ _ _ e)
head_steps (some_vars vars few pre e) tok = head (record { vars = vars; few = few; asks = g.none }) pre (e ∙ sym (append-nil (vars_yield vars)))
head_steps (query vars few asks pre e) (t.Name text line) = left vars few asks (word text line) _ (one_more _ _ _ e)
head_steps (query vars few asks pre e) tok = tt
head_steps (left vars few asks name pre e) t.Left = args_of vars few asks _ (name_of name ∷ t.Left ∷ []) _ (want name none _ refl)
    (one_more_of pre (asking_yield vars asks) (name_of name ∷ []) t.Left e)
head_steps (left vars few asks name pre e) tok = tt
head_steps (args_of vars few asks args sub pre stands e) tok = args_in_head vars few asks (step_args tok args) sub pre tok e (args_steps stands tok)
head_steps (some_asks vars few asks pre e) t.Comma = query vars few (behind asks) _
    (one_more_of pre (vars_yield vars) (t.If ∷ listed_yield ask_yield asks) t.Comma e)
head_steps (some_asks vars few asks pre e) tok = head (record { vars = vars; few = few; asks = asked asks }) pre e

-- how a list of variables that is under way is completed
variable_begins : (vars : Lead RVar) (free : IsFree vars) (name kind : Word) (pre more : List Tok) →
    lead_yield var_yield vars ++ var_yield (variable name kind) ≡ pre ++ more → Begins head_yield pre
variable_begins vars free name kind pre more e = record {
  more = more;
  way = record { vars = lead_add vars (variable name kind); few = added_few vars (variable name kind) free; asks = g.none };
  yields = append-nil (vars_yield (lead_add vars (variable name kind))) ∙ added_yield var_yield vars (variable name kind) ∙ e;
}

-- how a list of queries that is under way is completed
query_begins : (vars : Listed RVar) (few : AtMostFour vars) (asks : Lead AskWay) (pre sub : List Tok) (begun : Begins ask_yield sub) →
    pre ≡ asking_yield vars asks ++ sub → Begins head_yield pre
query_begins vars few asks pre sub begun e = record {
  more = begun.more;
  way = record { vars = vars; few = few; asks = asked (lead_add asks begun.way) };
  yields = ap (λ (toks : List Tok). vars_yield vars ++ (t.If ∷ toks)) (added_yield ask_yield asks begun.way
      ∙ ap (λ (toks : List Tok). lead_yield ask_yield asks ++ toks) begun.yields)
      ∙ sym (ap (λ (toks : List Tok). toks ++ begun.more) e ∙ append_assoc (asking_yield vars asks) sub begun.more
      ∙ append_assoc (vars_yield vars) (t.If ∷ lead_yield ask_yield asks) (sub ++ begun.more));
}

named_begins : (name : Word) → Begins ask_yield (name_of name ∷ [])
named_begins name = record {
  more = t.Left ∷ name_of some_word ∷ t.Right ∷ [];
  way = record { name = name; args = one some_word };
  yields = refl;
}

no_ask_begins : Begins ask_yield []
no_ask_begins = record {
  more = name_of some_word ∷ t.Left ∷ name_of some_word ∷ t.Right ∷ [];
  way = record { name = some_word; args = one some_word };
  yields = refl;
}

pub head_begins : {state : HeadState} {pre : List Tok} → HeadStands state pre → Begins head_yield pre
head_begins (var vars free pre e) = variable_begins vars free some_word some_word pre (name_of some_word ∷ t.Colon ∷ name_of some_word ∷ [])
    (ap (λ (toks : List Tok). toks ++ var_yield (variable some_word some_word)) (sym e))
head_begins (colon vars free name pre e) = variable_begins vars free name some_word pre (t.Colon ∷ name_of some_word ∷ [])
    (sym (ap (λ (toks : List Tok). toks ++ t.Colon ∷ name_of some_word ∷ []) e
    ∙ append_assoc (lead_yield var_yield vars) (name_of name ∷ []) (t.Colon ∷ name_of some_word ∷ [])))
head_begins (kinded vars free name pre e) = variable_begins vars free name some_word pre (name_of some_word ∷ [])
    (sym (ap (λ (toks : List Tok). toks ++ name_of some_word ∷ []) e
    ∙ append_assoc (lead_yield var_yield vars) (name_of name ∷ t.Colon ∷ []) (name_of some_word ∷ [])))
head_begins (some_vars vars few pre e) = record {
  more = [];
  way = record { vars = vars; few = few; asks = g.none };
  yields = ap (λ (toks : List Tok). toks ++ []) (sym e);
}
head_begins (query vars few asks pre e) = query_begins vars few asks pre [] no_ask_begins (e ∙ sym (append-nil (asking_yield vars asks)))
head_begins (left vars few asks name pre e) = query_begins vars few asks pre (name_of name ∷ []) (named_begins name) e
head_begins (args_of vars few asks args sub pre stands e) = query_begins vars few asks pre sub (args_begin stands) e
head_begins (some_asks vars few asks pre e) = record {
  more = [];
  way = record { vars = vars; few = few; asks = asked asks };
  yields = sym (append-nil pre ∙ e);
}
