-- Types, their members and files rewritten, each token by its number. Modifiers, package clauses and imports on demand stay.
use Rattle.std.specs.Prelude.{ℕ, suc, List, Option, Some, None}
use Rattle.std.specs.List.{flat_map}
use Rattle.rf_jtree.specs.declared.tokens.Tok.{Tok}
use Rattle.rf_jtree.specs.DeclTrees.{ParamTree, ParamsTree, CtorCallTree, RetTree, Void, Typed, BodyTree, Block, MemberTree, Init, Ctor, Method, Field, TypeDeclTree, ImportTree, UnitTree}
use Rattle.rf_jtree.specs.DeclTrees.{names_yield, param_yield, params_yield, ctor_call_yield, ret_yield, member_yield, import_yield, package_yield}
use Rattle.rf_jtree.specs.NameTrees.{ManyTree, NameTree, name_yield, type_yield, mods_yield, tok_yield, option_yield}
use Rattle.rf_jview.specs.ExprWith.{args_with}
use Rattle.rf_jview.specs.Rewritings.{Rewriting, behind, retext, option_with, behind_with, list_with, many_with, type_with}
use Rattle.rf_jview.specs.StmtWith.{vars_with, block_with, stmts_with}

abbrev pub names_with : Rewriting → ℕ → Option (Tok × ManyTree NameTree) → Option (Tok × ManyTree NameTree)
names_with g n names = option_with (behind_with (many_with name_yield g.written)) n names

abbrev pub param_with : Rewriting → ℕ → ParamTree → ParamTree
param_with g n param = record {
  mods = param.mods;
  used_type = type_with g (behind n (mods_yield param.mods)) param.used_type;
  id = retext g (behind (behind n (mods_yield param.mods)) (type_yield param.used_type)) param.id;
  dims = param.dims;
}

abbrev pub params_with : Rewriting → ℕ → ParamsTree → ParamsTree
params_with g n params = record { left = params.left; list = option_with (many_with param_yield (param_with g)) (suc n) params.list; right = params.right }

abbrev pub ctor_call_with : Rewriting → ℕ → CtorCallTree → CtorCallTree
ctor_call_with g n call = record { word = call.word; args = args_with g (suc n) call.args; semi = call.semi }

abbrev pub ret_with : Rewriting → ℕ → RetTree → RetTree
ret_with g n (Void word) = Void word
ret_with g n (Typed used_type) = Typed (type_with g n used_type)

abbrev pub body_with : Rewriting → ℕ → BodyTree → BodyTree
body_with g n (Block block) = Block (block_with g n block)
body_with g n (BodyTree.Semi semi) = BodyTree.Semi semi

abbrev pub member_with : Rewriting → ℕ → MemberTree → MemberTree
member_with g n (MemberTree.Semi semi) = MemberTree.Semi semi
member_with g n (Init word body) = Init word (block_with g (behind n (option_yield tok_yield word)) body)
member_with g n (Ctor mods id params throws left call body right) = Ctor mods (retext g (behind n (mods_yield mods)) id) (params_with g (suc (behind n (mods_yield mods))) params) (names_with g (behind (suc (behind n (mods_yield mods))) (params_yield params)) throws) left (option_with (ctor_call_with g) (suc (behind (behind (suc (behind n (mods_yield mods))) (params_yield params)) (names_yield throws))) call) (stmts_with g (behind (suc (behind (behind (suc (behind n (mods_yield mods))) (params_yield params)) (names_yield throws))) (option_yield ctor_call_yield call)) body) right
member_with g n (Method mods ret id params throws body) = Method mods (ret_with g (behind n (mods_yield mods)) ret) (retext g (behind (behind n (mods_yield mods)) (ret_yield ret)) id) (params_with g (suc (behind (behind n (mods_yield mods)) (ret_yield ret))) params) (names_with g (behind (suc (behind (behind n (mods_yield mods)) (ret_yield ret))) (params_yield params)) throws) (body_with g (behind (behind (suc (behind (behind n (mods_yield mods)) (ret_yield ret))) (params_yield params)) (names_yield throws)) body)
member_with g n (Field mods used_type vars semi) = Field mods (type_with g (behind n (mods_yield mods)) used_type) (vars_with g (behind (behind n (mods_yield mods)) (type_yield used_type)) vars) semi

abbrev pub members_with : Rewriting → ℕ → List MemberTree → List MemberTree
members_with g n members = list_with member_yield (member_with g) n members

abbrev pub decl_with : Rewriting → ℕ → TypeDeclTree → TypeDeclTree
decl_with g n decl =
    let id = suc (behind n (mods_yield decl.mods)) in
    let implements = behind (suc id) (names_yield decl.extends) in
    let left = behind implements (names_yield decl.implements) in
    record {
      mods = decl.mods;
      word = decl.word;
      id = retext g id decl.id;
      extends = names_with g (suc id) decl.extends;
      implements = names_with g implements decl.implements;
      left = decl.left;
      members = members_with g (suc left) decl.members;
      right = decl.right;
    }

abbrev pub import_name_with : Rewriting → ℕ → NameTree → Option (Tok × Tok) → NameTree
import_name_with g n name None = g.written n name
import_name_with g n name (Some star) = name

abbrev pub import_with : Rewriting → ℕ → ImportTree → ImportTree
import_with g n import = record { word = import.word; name = import_name_with g (suc n) import.name import.star; star = import.star; semi = import.semi }

abbrev pub imports_with : Rewriting → ℕ → List ImportTree → List ImportTree
imports_with g n imports = list_with import_yield (import_with g) n imports

abbrev pub unit_with : Rewriting → ℕ → UnitTree → UnitTree
unit_with g n unit =
    let imports = behind n (option_yield package_yield unit.package) in
    record {
      «package» = unit.package;
      imports = imports_with g imports unit.imports;
      decl = decl_with g (behind imports (flat_map import_yield unit.imports)) unit.decl;
      semis = unit.semis;
    }
