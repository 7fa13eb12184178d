-- The arguments of a query or a predicate, token by token.
use Rattle.std.specs.Prelude.{List, [], ◌∷◌, ◌++◌, Option, Some, None}
use Rattle.rf_rtree.specs.declared.words.Ask.{Ask}
use Rattle.rf_rtree.specs.declared.words.Word.{Word}
use Rattle.rf_rtree.specs.Tokens.{Tok}
use Rattle.rf_rtree.specs.Tokens as t
use Rattle.rf_rparse.specs.declared.args.Args.{Args}
use Rattle.rf_rparse.specs.declared.args.Args.TheVariants.{Want, Have}
use Rattle.rf_rparse.specs.declared.next.Next.{Next}
use Rattle.rf_rparse.specs.declared.next.Next.TheVariants.{More, Whole, No}
use Rattle.rf_rparse.specs.Words.{name_in}

abbrev pub with_arg : Word → List Word → Option Word → Next Args Ask
with_arg name args (Some arg) = More (Have name (args ++ arg ∷ []))
with_arg name args None = No

abbrev pub step_args : Tok → Args → Next Args Ask
step_args tok (Want name args) = with_arg name args (name_in tok)
step_args t.Comma (Have name args) = More (Want name args)
step_args t.Right (Have name args) = Whole (record { name = name; args = args })
step_args tok (Have name args) = No
