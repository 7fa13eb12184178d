-- A file declares one type.
use Rattle.std.proofs.Common.{refl, Bool, true, false, ◌&&◌, not, ℕ, ◌+◌, List, [], ◌∷◌, Option, Some, None}
use Rattle.std.specs.List.{flat_map, list_any}
use Rattle.rf_jtree.specs.declared.tokens.Tok.{Tok}
use Rattle.rf_jtree.specs.DeclTrees.{ParamTree, ParamsTree, CtorCallTree, RetTree, Void, Typed, BodyTree, Block, MemberTree, Init, Ctor, Method, Field, TypeDeclTree, ImportTree, UnitTree}
use Rattle.rf_jtree.specs.DeclTrees.{package_yield}
use Rattle.rf_jtree.specs.NameTrees.{ManyTree, NameTree, name_yield, mods_yield, dims_yield, option_yield, tok_yield, pair_yield}
use Rattle.rf_jtree.specs.StmtTrees.{VarTree, StmtsTree}
use Rattle.rf_jview.specs.declared.marks.Invocation.TheVariants as i
use Rattle.rf_jview.specs.declared.marks.Mark.{Mark}
use Rattle.rf_jview.specs.declared.marks.Opening.TheVariants as o
use Rattle.rf_jview.specs.DeclMarks.{names_marks, param_marks, more_params_marks, many_params_marks, ctor_call_marks, ctor_body_marks, ret_marks, body_marks, callable_marks}
use Rattle.rf_jview.specs.DeclMarks.{more_fields_marks, fields_marks, member_marks, members_marks, default_ctor_mark, is_ctor, decl_marks, import_name_marks, import_marks, unit_marks}
use Rattle.rf_jview.specs.MarkWords.{after}
use Rattle.rf_jview.specs.NameMarks.{type_name_marks, option_marks, behind_marks, many_marks}
use Rattle.rf_jtree.specs.declared.keyword_names.TheConstants.{CLASS}
use Rattle.rf_jtree.specs.Kinds.{is_key_of}
use Rattle.rf_jmodel.specs.OneType.{DeclaresOneType}
use Rattle.rf_jmodel.proofs.NoTypes.{HasNoType, none, one, both, each, optional, manies, tname_untyped, type_untyped, here, behind-one, behind, before}
use Rattle.rf_jmodel.proofs.ExprTypes.{args_untyped}
use Rattle.rf_jmodel.proofs.StmtTypes.{beginning_untyped, block_untyped, stmts_untyped}

names_untyped : (names : Option (Tok × ManyTree NameTree)) → HasNoType (names_marks names)
names_untyped names =
    optional (behind_marks (many_marks type_name_marks))
    (λ part. one refl (manies type_name_marks tname_untyped part.1)) names

-- methods and constructors
param_untyped : (back : ℕ) (param : ParamTree) → HasNoType (param_marks back param)
param_untyped back param = both (each (mods_yield param.mods)) (both (type_untyped param.used_type) (one refl (each (dims_yield param.dims))))

more_params_untyped : (back : ℕ) (rest : List (Tok × ParamTree)) → HasNoType (more_params_marks back rest)
more_params_untyped back [] = none
more_params_untyped back (item ∷ rest) =
    one refl (both (param_untyped (back + 1) item.1) (more_params_untyped (after (back + 1) (param_marks (back + 1) item.1)) rest))

many_params_untyped : (back : ℕ) (many : ManyTree ParamTree) → HasNoType (many_params_marks back many)
many_params_untyped back many = both (param_untyped back many.first) (more_params_untyped (after back (param_marks back many.first)) many.rest)

callable_untyped : (params : ParamsTree) (throws : Option (Tok × ManyTree NameTree)) {marks : List Mark} → HasNoType marks
    → HasNoType (callable_marks params.list throws marks)
callable_untyped params throws {marks} same =
    one refl (both (optional (many_params_marks 1) (many_params_untyped 1) params.list) (one refl (both (names_untyped throws) same)))

ctor_call_untyped : (call : CtorCallTree) → HasNoType (ctor_call_marks call)
ctor_call_untyped call = one refl (both (args_untyped i.Ctor 1 call.args) (one refl none))

ctor_body_untyped : (call : Option CtorCallTree) (body : StmtsTree)
    → HasNoType (ctor_body_marks call body)
ctor_body_untyped call body =
    one refl (both (optional ctor_call_marks ctor_call_untyped call)
    (both (stmts_untyped (after 1 (option_marks ctor_call_marks call)) body) (one refl none)))

ret_untyped : (ret : RetTree) → HasNoType (ret_marks ret)
ret_untyped (Void word) = one refl none
ret_untyped (Typed used_type) = type_untyped used_type

body_untyped : (body : BodyTree) → HasNoType (body_marks body)
body_untyped (Block block) = block_untyped o.Block block
body_untyped (BodyTree.Semi semi) = one refl none

-- fields
more_fields_untyped : (rest : List (Tok × VarTree)) → HasNoType (more_fields_marks rest)
more_fields_untyped [] = none
more_fields_untyped (item ∷ rest) = one refl (one refl (both (beginning_untyped item.1) (more_fields_untyped rest)))

fields_untyped : (vars : ManyTree VarTree) → HasNoType (fields_marks vars)
fields_untyped vars = one refl (both (beginning_untyped vars.first) (more_fields_untyped vars.rest))

-- members
pub member_untyped : (member : MemberTree) → HasNoType (member_marks member)
member_untyped (MemberTree.Semi semi) = one refl none
member_untyped (Init word body) = both (each (option_yield tok_yield word)) (block_untyped o.Initializer body)
member_untyped (Ctor mods id params throws left call body right) =
    both (each (mods_yield mods)) (one refl (callable_untyped params throws (ctor_body_untyped call body)))
member_untyped (Method mods ret id params throws body) =
    both (each (mods_yield mods)) (both (ret_untyped ret) (one refl (callable_untyped params throws (body_untyped body))))
member_untyped (Field mods used_type vars semi) = both (each (mods_yield mods)) (both (type_untyped used_type) (both (fields_untyped vars) (one refl none)))

members_untyped : (members : List MemberTree) → HasNoType (members_marks members)
members_untyped [] = none
members_untyped (member ∷ members) = both (member_untyped member) (members_untyped members)

-- types and files
brace_untyped : (declares : Bool) → HasNoType (default_ctor_mark declares ∷ [])
brace_untyped true = one refl none
brace_untyped false = one refl none

decl_typed : (decl : TypeDeclTree) → DeclaresOneType (decl_marks decl)
decl_typed decl =
    before (behind (each (mods_yield decl.mods)) (behind-one refl (here (both (names_untyped decl.extends) (both (names_untyped decl.implements)
    (brace_untyped (is_key_of (CLASS ∷ []) decl.word && not (list_any is_ctor decl.members))))))))
    (both (members_untyped decl.members) (one refl none))

import_name_untyped : (name : NameTree) (star : Option (Tok × Tok)) → HasNoType (import_name_marks name star)
import_name_untyped name None = tname_untyped name
import_name_untyped name (Some star) = each (name_yield name)

import_untyped : (import : ImportTree) → HasNoType (import_marks import)
import_untyped import = one refl (both (import_name_untyped import.name import.star) (both (each (option_yield pair_yield import.star)) (one refl none)))

imports_untyped : (imports : List ImportTree) → HasNoType (flat_map import_marks imports)
imports_untyped [] = none
imports_untyped (import ∷ imports) = both (import_untyped import) (imports_untyped imports)

pub unit_typed : (unit : UnitTree) → DeclaresOneType (unit_marks unit)
unit_typed unit = behind (each (option_yield package_yield unit.package)) (behind (imports_untyped unit.imports) (before (decl_typed unit.decl) (each unit.semis)))
