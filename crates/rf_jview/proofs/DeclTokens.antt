-- What becomes of the tokens of a file that is rewritten.
use Rattle.std.proofs.Common.{ℕ, suc, Option, Some, None}
use Rattle.std.specs.List.{flat_map}
use Rattle.rf_jtree.specs.declared.tokens.Tok.{Tok}
use Rattle.rf_jtree.specs.DeclTrees.{ParamTree, ParamsTree, CtorCallTree, RetTree, Void, Typed, BodyTree, Block, MemberTree, Init, Ctor, Method, Field, TypeDeclTree, ImportTree, UnitTree}
use Rattle.rf_jtree.specs.DeclTrees.{names_yield, param_yield, params_yield, ctor_call_yield, ret_yield, body_yield, member_yield, decl_yield, import_yield, package_yield, unit_yield}
use Rattle.rf_jtree.specs.NameTrees.{ManyTree, NameTree, name_yield, type_yield, mods_yield, dims_yield, option_yield, behind_yield, tok_yield, pair_yield, many_yield}
use Rattle.rf_jview.specs.DeclWith.{names_with, param_with, params_with, ctor_call_with, ret_with, body_with, member_with, decl_with, import_name_with, import_with, unit_with}
use Rattle.rf_jview.specs.Rewritings.{Rewriting, behind, behind_with, many_with}
use Rattle.rf_jview.specs.Rewritten.{Rewritten, none, kept, type_name}
use Rattle.rf_jview.proofs.ExprTokens.{args_tokens}
use Rattle.rf_jview.proofs.StmtTokens.{vars_tokens, block_tokens, stmts_tokens}
use Rattle.rf_jview.proofs.Tokens.{joined, kept_then, text_then, same, optional_tokens, behind_tokens, list_tokens, many_tokens, type_tokens}

names_tokens : (g : Rewriting) (n : ℕ) (names : Option (Tok × ManyTree NameTree)) → Rewritten g n (names_yield names) (names_yield (names_with g n names))
names_tokens g n names =
    optional_tokens (behind_yield (many_yield name_yield)) (behind_with (many_with name_yield g.written))
    (behind_tokens (many_yield name_yield) (many_with name_yield g.written) (many_tokens name_yield g.written (λ n name. type_name n name))) n names

param_tokens : (g : Rewriting) (n : ℕ) (param : ParamTree) → Rewritten g n (param_yield param) (param_yield (param_with g n param))
param_tokens g n param =
    joined (same (mods_yield param.mods))
    (joined (type_tokens g (behind n (mods_yield param.mods)) param.used_type) (text_then param.id (same (dims_yield param.dims))))

params_tokens : (g : Rewriting) (n : ℕ) (params : ParamsTree) → Rewritten g n (params_yield params) (params_yield (params_with g n params))
params_tokens g n params =
    kept_then params.left (joined
    (optional_tokens (many_yield param_yield) (many_with param_yield (param_with g)) (many_tokens param_yield (param_with g) (param_tokens g)) (suc n) params.list)
    (kept_then params.right (none _)))

ctor_call_tokens : (g : Rewriting) (n : ℕ) (call : CtorCallTree) → Rewritten g n (ctor_call_yield call) (ctor_call_yield (ctor_call_with g n call))
ctor_call_tokens g n call = kept_then call.word (joined (args_tokens g (suc n) call.args) (kept_then call.semi (none _)))

ret_tokens : (g : Rewriting) (n : ℕ) (ret : RetTree) → Rewritten g n (ret_yield ret) (ret_yield (ret_with g n ret))
ret_tokens g n (Void word) = kept n word
ret_tokens g n (Typed used_type) = type_tokens g n used_type

body_tokens : (g : Rewriting) (n : ℕ) (body : BodyTree) → Rewritten g n (body_yield body) (body_yield (body_with g n body))
body_tokens g n (Block block) = block_tokens g n block
body_tokens g n (BodyTree.Semi semi) = kept n semi

pub member_tokens : (g : Rewriting) (n : ℕ) (tree : MemberTree) → Rewritten g n (member_yield tree) (member_yield (member_with g n tree))
member_tokens g n (MemberTree.Semi semi) = kept_then semi (none _)
member_tokens g n (Init word body) = joined (same (option_yield tok_yield word)) ((block_tokens g (behind n (option_yield tok_yield word)) body))
member_tokens g n (Ctor mods id params throws left call body right) = joined (same (mods_yield mods)) (text_then id (joined (params_tokens g (suc (behind n (mods_yield mods))) params) (joined (names_tokens g (behind (suc (behind n (mods_yield mods))) (params_yield params)) throws) (kept_then left (joined (optional_tokens ctor_call_yield (ctor_call_with g) (ctor_call_tokens g) (suc (behind (behind (suc (behind n (mods_yield mods))) (params_yield params)) (names_yield throws))) call) (joined (stmts_tokens g (behind (suc (behind (behind (suc (behind n (mods_yield mods))) (params_yield params)) (names_yield throws))) (option_yield ctor_call_yield call)) body) (kept_then right (none _))))))))
member_tokens g n (Method mods ret id params throws body) = joined (same (mods_yield mods)) (joined (ret_tokens g (behind n (mods_yield mods)) ret) (text_then id (joined (params_tokens g (suc (behind (behind n (mods_yield mods)) (ret_yield ret))) params) (joined (names_tokens g (behind (suc (behind (behind n (mods_yield mods)) (ret_yield ret))) (params_yield params)) throws) ((body_tokens g (behind (behind (suc (behind (behind n (mods_yield mods)) (ret_yield ret))) (params_yield params)) (names_yield throws)) body))))))
member_tokens g n (Field mods used_type vars semi) = joined (same (mods_yield mods)) (joined (type_tokens g (behind n (mods_yield mods)) used_type) (joined (vars_tokens g (behind (behind n (mods_yield mods)) (type_yield used_type)) vars) (kept_then semi (none _))))

decl_tokens : (g : Rewriting) (n : ℕ) (decl : TypeDeclTree) → Rewritten g n (decl_yield decl) (decl_yield (decl_with g n decl))
decl_tokens g n decl =
    let id = suc (behind n (mods_yield decl.mods)) in
    let implements = behind (suc id) (names_yield decl.extends) in
    let left = behind implements (names_yield decl.implements) in
    joined (same (mods_yield decl.mods)) (kept_then decl.word (text_then decl.id
    (joined (names_tokens g (suc id) decl.extends) (joined (names_tokens g implements decl.implements)
    (kept_then decl.left (joined (list_tokens member_yield (member_with g) (member_tokens g) (suc left) decl.members) (kept_then decl.right (none _))))))))

import_name_tokens : (g : Rewriting) (n : ℕ) (name : NameTree) (star : Option (Tok × Tok)) → Rewritten g n (name_yield name) (name_yield (import_name_with g n name star))
import_name_tokens g n name None = type_name n name
import_name_tokens g n name (Some star) = same (name_yield name)

import_tokens : (g : Rewriting) (n : ℕ) (import : ImportTree) → Rewritten g n (import_yield import) (import_yield (import_with g n import))
import_tokens g n import =
    kept_then import.word (joined (import_name_tokens g (suc n) import.name import.star) (joined (same (option_yield pair_yield import.star)) (kept_then import.semi (none _))))

pub unit_tokens : (g : Rewriting) (n : ℕ) (unit : UnitTree) → Rewritten g n (unit_yield unit) (unit_yield (unit_with g n unit))
unit_tokens g n unit =
    let imports = behind n (option_yield package_yield unit.package) in
    joined (same (option_yield package_yield unit.package))
    (joined (list_tokens import_yield (import_with g) (import_tokens g) imports unit.imports)
    (joined (decl_tokens g (behind imports (flat_map import_yield unit.imports)) unit.decl) (same unit.semis)))
