-- What the code makes of parts that were read.
use Rattle.std.specs.Prelude.{◌≡◌, ℕ, Option, Some, None, Result, Ok, Err}
use Rattle.rf_jtree.specs.declared.decls.Param.{Param}
use Rattle.rf_jtree.specs.declared.decls.Unit.{Unit as File}
use Rattle.rf_jtree.specs.declared.names.Name.{Name}
use Rattle.rf_jtree.specs.declared.stmts.Var.{Var}
use Rattle.rf_jtree.specs.declared.tokens.Tok.{Tok}
use Rattle.rf_jtree.specs.DeclShown.{param_shown, unit_shown}
use Rattle.rf_jtree.specs.DeclTrees.{ParamTree, CtorCallTree, TypeDeclTree, UnitTree, member_depth}
use Rattle.rf_jtree.specs.ExprTrees.{args_depth}
use Rattle.rf_jtree.specs.NameShown.{name_shown}
use Rattle.rf_jtree.specs.NameTrees.{NameTree, option_depth, list_depth}
use Rattle.rf_jtree.specs.StmtShown.{var_shown}
use Rattle.rf_jtree.specs.StmtTrees.{VarTree}
use Rattle.rf_jexpr.specs.declared.parse_err.ParseErr.{ParseErr}
use Rattle.rf_jexpr.specs.declared.parse_err.ParseErr.TheVariants.{NoTree, Memory}

-- what parts show as, and how deep they are
abbrev pub name_item_shown : Tok × Name → Tok × NameTree
name_item_shown item = (item.0, name_shown item.1)

abbrev pub param_item_shown : Tok × Param → Tok × ParamTree
param_item_shown item = (item.0, param_shown item.1)

abbrev pub var_item_shown : Tok × Var → Tok × VarTree
var_item_shown item = (item.0, var_shown item.1)

abbrev pub call_depth : CtorCallTree → ℕ
call_depth call = args_depth call.args

abbrev pub some_call_depth : Option CtorCallTree → ℕ
some_call_depth call = option_depth call_depth call

abbrev pub decl_depth : TypeDeclTree → ℕ
decl_depth decl = list_depth member_depth decl.members

-- the file that a reader of all tokens reads
abbrev pub GivesUnit : Result File ParseErr → Option UnitTree → Type 0
GivesUnit (Ok found) read = read ≡ Some (unit_shown found)
GivesUnit (Err NoTree) read = read ≡ None
GivesUnit (Err Memory) read = Unit {0}
