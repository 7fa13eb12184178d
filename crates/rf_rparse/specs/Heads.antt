-- Variables and the queries on them, token by token.
use Rattle.std.specs.Prelude.{List, [], ◌∷◌, ◌++◌, Option, Some, None, length, nat_lt, if◌then◌else◌}
use Rattle.rf_rtree.specs.declared.words.Ask.{Ask as Asked}
use Rattle.rf_rtree.specs.declared.words.RVar.{RVar}
use Rattle.rf_rtree.specs.declared.words.Word.{Word}
use Rattle.rf_rtree.specs.Tokens.{Tok}
use Rattle.rf_rtree.specs.Tokens as t
use Rattle.rf_rparse.specs.declared.args.Args.{Args as Arguments}
use Rattle.rf_rparse.specs.declared.args.Args.TheVariants.{Want}
use Rattle.rf_rparse.specs.declared.heads.Head.{Head}
use Rattle.rf_rparse.specs.declared.heads.HeadState.{HeadState}
use Rattle.rf_rparse.specs.declared.heads.HeadState.TheVariants.{Var, Colon, Kind, Vars, Ask, Left, Args, Asks}
use Rattle.rf_rparse.specs.declared.next.Next.{Next}
use Rattle.rf_rparse.specs.declared.next.Next.TheVariants.{More, Whole, Held, No}
use Rattle.rf_rparse.specs.Args.{step_args}
use Rattle.rf_rparse.specs.Words.{name_in}

abbrev pub head_of : List RVar → List Asked → Head
head_of vars asks = record { vars = vars; asks = asks }

abbrev pub empty_head : HeadState
empty_head = Var (head_of [] [])

abbrev pub with_name : Head → Option Word → Next HeadState Head
with_name head (Some name) = More (Colon head name)
with_name head None = No

abbrev pub with_kind : Head → Word → Option Word → Next HeadState Head
with_kind head name (Some kind) =
    More (Vars (head_of (head.vars ++ record { name = name; kind = kind } ∷ []) head.asks))
with_kind head name None = No

abbrev pub with_query : Head → Option Word → Next HeadState Head
with_query head (Some name) = More (Left head name)
with_query head None = No

abbrev pub with_ask : Head → Asked → Head
with_ask head ask = head_of head.vars (head.asks ++ ask ∷ [])

abbrev pub in_args : Head → Next Arguments Asked → Next HeadState Head
in_args head (More args) = More (Args head args)
in_args head (Whole ask) = More (Asks (with_ask head ask))
in_args head (Held ask) = No
in_args head No = No

-- at most four variables
abbrev pub comma : Head → Next HeadState Head
comma head = if nat_lt (length head.vars) 4 then More (Var head) else Held head

abbrev pub step_vars : Tok → Head → Next HeadState Head
step_vars t.Comma head = comma head
step_vars t.If head = More (Ask head)
step_vars tok head = Held head

abbrev pub step_asks : Tok → Head → Next HeadState Head
step_asks t.Comma head = More (Ask head)
step_asks tok head = Held head

abbrev pub step_head : Tok → HeadState → Next HeadState Head
step_head tok (Var head) = with_name head (name_in tok)
step_head t.Colon (Colon head name) = More (Kind head name)
step_head tok (Colon head name) = No
step_head tok (Kind head name) = with_kind head name (name_in tok)
step_head tok (Vars head) = step_vars tok head
step_head tok (Ask head) = with_query head (name_in tok)
step_head t.Left (Left head name) = More (Args head (Want name []))
step_head tok (Left head name) = No
step_head tok (Args head args) = in_args head (step_args tok args)
step_head tok (Asks head) = step_asks tok head
