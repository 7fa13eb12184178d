-- What types, their members and files show as trees: themselves without pointers.
use Rattle.std.specs.Prelude.{List, map, option_map}
use Rattle.rf_jtree.specs.declared.decls.Body.{Body}
use Rattle.rf_jtree.specs.declared.decls.Body.TheVariants as b
use Rattle.rf_jtree.specs.declared.decls.CtorCall.{CtorCall}
use Rattle.rf_jtree.specs.declared.decls.Import.{Import}
use Rattle.rf_jtree.specs.declared.decls.Member.{Member}
use Rattle.rf_jtree.specs.declared.decls.Member.TheVariants as m
use Rattle.rf_jtree.specs.declared.decls.Param.{Param}
use Rattle.rf_jtree.specs.declared.decls.Params.{Params}
use Rattle.rf_jtree.specs.declared.decls.Ret.{Ret}
use Rattle.rf_jtree.specs.declared.decls.Ret.TheVariants as r
use Rattle.rf_jtree.specs.declared.decls.TypeDecl.{TypeDecl}
use Rattle.rf_jtree.specs.declared.decls.Unit.{Unit as File}
use Rattle.rf_jtree.specs.declared.names.Many.{Many}
use Rattle.rf_jtree.specs.declared.names.Name.{Name}
use Rattle.rf_jtree.specs.declared.tokens.Tok.{Tok}
use Rattle.rf_jtree.specs.DeclTrees.{ParamTree, ParamsTree, CtorCallTree, RetTree, BodyTree, MemberTree, TypeDeclTree, ImportTree, UnitTree}
use Rattle.rf_jtree.specs.DeclTrees as t
use Rattle.rf_jtree.specs.ExprShown.{args_shown}
use Rattle.rf_jtree.specs.NameShown.{many_shown, name_shown, type_shown, mods_shown}
use Rattle.rf_jtree.specs.NameTrees.{ManyTree, NameTree}
use Rattle.rf_jtree.specs.StmtShown.{var_shown, block_shown, stmts_shown}

-- names behind a keyword, as behind `throws`
abbrev pub more_names_shown : List (Tok × Name) → List (Tok × NameTree)
more_names_shown rest = map (λ item. (item.0, name_shown item.1)) rest

abbrev pub names_shown : Tok × Many Name → Tok × ManyTree NameTree
names_shown names = (names.0, many_shown name_shown names.1)

abbrev pub param_shown : Param → ParamTree
param_shown param = record { mods = mods_shown param.mods; used_type = type_shown param.used_type; id = param.id; dims = param.dims }

abbrev pub more_params_shown : List (Tok × Param) → List (Tok × ParamTree)
more_params_shown rest = map (λ item. (item.0, param_shown item.1)) rest

abbrev pub params_shown : Params → ParamsTree
params_shown params = record { left = params.left; list = option_map (many_shown param_shown) params.list; right = params.right }

abbrev pub ctor_call_shown : CtorCall → CtorCallTree
ctor_call_shown call = record { word = call.word; args = args_shown call.args; semi = call.semi }

abbrev pub ret_shown : Ret → RetTree
ret_shown (r.Void word) = t.Void word
ret_shown (r.Typed used_type) = t.Typed (type_shown used_type)

abbrev pub body_shown : Body → BodyTree
body_shown (b.Block block) = t.Block (block_shown block)
body_shown (b.Semi semi) = t.BodyTree.Semi semi

abbrev pub member_shown : Member → MemberTree
member_shown (m.Semi semi) = t.MemberTree.Semi semi
member_shown (m.Init word body) = t.Init word (block_shown body)
member_shown (m.Ctor mods id params throws left call body right) =
    t.Ctor (mods_shown mods) id (params_shown params) (option_map names_shown throws) left (option_map ctor_call_shown call) (stmts_shown body) right
member_shown (m.Method mods ret id params throws body) =
    t.Method (mods_shown mods) (ret_shown ret) id (params_shown params) (option_map names_shown throws) (body_shown body)
member_shown (m.Field mods used_type vars semi) = t.Field (mods_shown mods) (type_shown used_type) (many_shown var_shown vars) semi

abbrev pub members_shown : List Member → List MemberTree
members_shown members = map member_shown members

abbrev pub decl_shown : TypeDecl → TypeDeclTree
decl_shown decl = record {
  mods = mods_shown decl.mods;
  word = decl.word;
  id = decl.id;
  extends = option_map names_shown decl.extends;
  implements = option_map names_shown decl.implements;
  left = decl.left;
  members = members_shown decl.members;
  right = decl.right;
}

abbrev pub import_shown : Import → ImportTree
import_shown import = record { word = import.word; name = name_shown import.name; star = import.star; semi = import.semi }

abbrev pub imports_shown : List Import → List ImportTree
imports_shown imports = map import_shown imports

abbrev pub package_shown : Tok × Name × Tok → Tok × NameTree × Tok
package_shown clause = (clause.0, name_shown clause.1, clause.2)

abbrev pub unit_shown : File → UnitTree
unit_shown unit = record {
  «package» = option_map package_shown unit.package;
  imports = imports_shown unit.imports;
  decl = decl_shown unit.decl;
  semis = unit.semis;
}
