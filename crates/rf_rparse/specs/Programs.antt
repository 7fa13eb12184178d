-- Items and programs, token by token.
use Rattle.std.specs.Prelude.{List, [], ◌∷◌, ◌++◌, Bool, true, false, not, Option, Some, None, if◌then◌else◌}
use Rattle.std.specs.Option.{option_map}
use Rattle.rf_rtree.specs.declared.forms.RForm.{RForm}
use Rattle.rf_rtree.specs.declared.items.Item.{Item}
use Rattle.rf_rtree.specs.declared.words.Word.{Word}
use Rattle.rf_rtree.specs.Tokens.{Tok}
use Rattle.rf_rtree.specs.Tokens as t
use Rattle.rf_rparse.specs.declared.forms.Mode.{Mode}
use Rattle.rf_rparse.specs.declared.forms.Mode.TheVariants as mode
use Rattle.rf_rparse.specs.declared.frames.Frame.{Frame}
use Rattle.rf_rparse.specs.declared.heads.Head.{Head as Heading}
use Rattle.rf_rparse.specs.declared.heads.HeadState.{HeadState}
use Rattle.rf_rparse.specs.declared.next.Next.{Next}
use Rattle.rf_rparse.specs.declared.next.Next.TheVariants.{More, Whole, Held, No}
use Rattle.rf_rparse.specs.declared.programs.Stage.{Stage}
use Rattle.rf_rparse.specs.declared.programs.Stage.TheVariants.{Top, Name, For, Head, Body}
use Rattle.rf_rparse.specs.declared.programs.Title.{Title}
use Rattle.rf_rparse.specs.Forms.{State as FormState, step_form}
use Rattle.rf_rparse.specs.Heads.{empty_head, step_head}
use Rattle.rf_rparse.specs.Words.{name_in}

-- how far an item has come, and the items before it
abbrev pub State : Type 0
State = Stage × List Item

abbrev pub step_top : Tok → Option Stage
step_top t.Rule = Some (Name false)
step_top t.Derive = Some (Name true)
step_top tok = None

abbrev pub titled : Bool → Option Word → Option Stage
titled derive (Some name) = Some (For (record { derive = derive; name = name }))
titled derive None = None

abbrev pub step_name : Tok → Bool → Option Stage
step_name tok derive = titled derive (name_in tok)

abbrev pub step_for : Tok → Title → Option Stage
step_for t.For title = Some (Head title empty_head)
step_for tok title = None

-- `means` stands before the body of a derived predicate, `then` before that of a rule
abbrev pub is_body_word : Tok → Bool → Bool
is_body_word t.Means derive = derive
is_body_word t.Then derive = not derive
is_body_word tok derive = false

abbrev pub in_head : Tok → Title → Next HeadState Heading → Option Stage
in_head tok title (More head) = Some (Head title head)
in_head tok title (Whole head) = None
in_head tok title (Held head) =
    if is_body_word tok title.derive then Some (Body title head mode.Want []) else None
in_head tok title No = None

abbrev pub item_of : Title → Heading → RForm → Item
item_of title head body = record {
  derive = title.derive;
  name = title.name;
  vars = head.vars;
  asks = head.asks;
  body = body;
}

-- an item is complete where its formula has come to its end
abbrev pub body_of : Title → Heading → List Item → Mode → List Frame → State
body_of title head items (mode.End x) stack = (Top, items ++ item_of title head x ∷ [])
body_of title head items mode stack = (Body title head mode stack, items)

abbrev pub in_body : Title → Heading → List Item → Option FormState → Option State
in_body title head items None = None
in_body title head items (Some state) = Some (body_of title head items state.0 state.1)

abbrev pub step_program : Tok → Stage → List Item → Option State
step_program tok Top items = option_map (λ stage. (stage, items)) (step_top tok)
step_program tok (Name derive) items = option_map (λ stage. (stage, items)) (step_name tok derive)
step_program tok (For title) items = option_map (λ stage. (stage, items)) (step_for tok title)
step_program tok (Head title head) items =
    option_map (λ stage. (stage, items)) (in_head tok title (step_head tok head))
step_program tok (Body title head mode stack) items =
    in_body title head items (step_form tok mode stack)
