-- What stands behind an expression, and the greater expression that both are.
use Rattle.std.specs.declared.alloc.Global.{Global}
use Rattle.std.specs.declared.boxed.Box.{Box}
use Rattle.rf_jtree.specs.declared.exprs.Args.{Args}
use Rattle.rf_jtree.specs.ExprTrees.{ExprTree}
use Rattle.rf_jtree.specs.ExprTrees as t
use Rattle.rf_jtree.specs.NameShown.{type_shown}
use Rattle.rf_jtree.specs.NameTrees.{NameTree}
use Rattle.rf_jmake.specs.declared.continuations.Choice.{Choice}
use Rattle.rf_jmake.specs.declared.continuations.Operation.{Operation}
use Rattle.rf_jmake.specs.declared.continuations.Suffix.{Suffix}
use Rattle.rf_jmake.specs.declared.continuations.Suffix.TheVariants as suffix
use Rattle.rf_jmake.specs.declared.continuations.Continuation.{Continuation}
use Rattle.rf_jmake.specs.declared.continuations.Continuation.TheVariants as continuation
use Rattle.rf_jmake.specs.ExprMade.{boxed_shown, boxed_args_shown}
use Rattle.rf_jmake.specs.Called.{called_on, called_id}

abbrev pub assigned : ExprTree → Operation → ExprTree
assigned left x = t.Assign left x.op (boxed_shown x.operand)

abbrev pub chosen : ExprTree → Choice → ExprTree
chosen test x = t.Cond test x.mark (boxed_shown x.first) x.colon (boxed_shown x.other)

abbrev pub operated : ExprTree → Continuation → ExprTree
operated left (continuation.Binary x) = t.Binary left x.op (boxed_shown x.operand)
operated left (continuation.Instance word used_type) = t.Instance left word (type_shown used_type.value)

abbrev pub suffixed : ExprTree → Suffix → ExprTree
suffixed on (suffix.Call dot id list) = t.Call (t.On on dot) id (boxed_args_shown list)
suffixed on (suffix.Field dot id) = t.Field on dot id
suffixed on (suffix.Item left index right) = t.Index on left (boxed_shown index) right

-- a call whose method is the last identifier of a name
abbrev pub named_called : NameTree → Box Args Global → ExprTree
named_called found list = t.Call (called_on found.ids.first found.ids.rest) (called_id found.ids.first found.ids.rest) (boxed_args_shown list)
