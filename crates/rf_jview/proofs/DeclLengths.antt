-- A file has as many marks as tokens.
use Rattle.std.proofs.Common.{◌≡◌, ℕ, ◌+◌, List, [], ◌∷◌, ◌++◌, length, Option, Some, None}
use Rattle.std.specs.List.{flat_map}
use Rattle.rf_jtree.specs.declared.tokens.Tok.{Tok}
use Rattle.rf_jtree.specs.DeclTrees.{ParamTree, ParamsTree, CtorCallTree, RetTree, Void, Typed, BodyTree, Block, MemberTree, Init, Ctor, Method, Field, TypeDeclTree, ImportTree, UnitTree}
use Rattle.rf_jtree.specs.DeclTrees.{names_yield, param_yield, params_yield, ctor_call_yield, ret_yield, body_yield, member_yield, decl_yield, import_yield, package_yield, unit_yield}
use Rattle.rf_jtree.specs.NameTrees.{ManyTree, NameTree, name_yield, mods_yield, dims_yield, option_yield, behind_yield, tok_yield, pair_yield, many_yield}
use Rattle.rf_jtree.specs.StmtTrees.{VarTree, StmtsTree, stmts_yield, var_yield}
use Rattle.rf_jview.specs.declared.marks.Invocation.TheVariants as i
use Rattle.rf_jview.specs.declared.marks.Mark.{Mark}
use Rattle.rf_jview.specs.declared.marks.Mark.TheVariants as m
use Rattle.rf_jview.specs.declared.marks.Opening.TheVariants as o
use Rattle.rf_jview.specs.DeclMarks.{names_marks, param_marks, more_params_marks, many_params_marks, ctor_call_marks, ctor_body_marks, ret_marks, body_marks, callable_marks}
use Rattle.rf_jview.specs.DeclMarks.{more_fields_marks, fields_marks, member_marks, members_marks, brace_mark, decl_marks, import_name_marks, import_marks, unit_marks}
use Rattle.rf_jview.specs.MarkWords.{after}
use Rattle.rf_jview.specs.NameMarks.{type_name_marks, mods_marks, option_marks, behind_marks, many_marks}
use Rattle.rf_jview.proofs.Lengths.{AsMany, none, one, both, regroup, regroup_toks, each, optional, manies, tname_as_many, type_as_many}
use Rattle.rf_jview.proofs.ExprLengths.{args_as_many}
use Rattle.rf_jview.proofs.StmtLengths.{beginning_as_many, block_as_many, stmts_as_many}

names_as_many : (names : Option (Tok × ManyTree NameTree)) → AsMany (names_marks names) (names_yield names)
names_as_many names =
    optional (behind_marks (many_marks type_name_marks)) (behind_yield (many_yield name_yield))
    (λ part. one (manies type_name_marks name_yield tname_as_many part.1)) names

-- methods and constructors
param_as_many : (back : ℕ) (param : ParamTree) → AsMany (param_marks back param) (param_yield param)
param_as_many back param = both (each (mods_yield param.mods)) (both (type_as_many param.used_type) (one (each (dims_yield param.dims))))

more_params_as_many : (back : ℕ) (rest : List (Tok × ParamTree)) → AsMany (more_params_marks back rest) (flat_map (λ item. item.0 ∷ param_yield item.1) rest)
more_params_as_many back [] = none
more_params_as_many back (item ∷ rest) =
    one (both (param_as_many (back + 1) item.1) (more_params_as_many (after (back + 1) (param_marks (back + 1) item.1)) rest))

many_params_as_many : (back : ℕ) (many : ManyTree ParamTree) → AsMany (many_params_marks back many) (many_yield param_yield many)
many_params_as_many back many = both (param_as_many back many.first) (more_params_as_many (after back (param_marks back many.first)) many.rest)

callable_as_many : (params : ParamsTree) (throws : Option (Tok × ManyTree NameTree)) {marks : List Mark} {toks : List Tok} → AsMany marks toks
    → AsMany (callable_marks params.list throws marks) (params_yield params ++ (names_yield throws ++ toks))
callable_as_many params throws {marks} {toks} same =
    one (regroup_toks (option_yield (many_yield param_yield) params.list) (params.right ∷ []) (names_yield throws ++ toks)
    (both (optional (many_params_marks 1) (many_yield param_yield) (many_params_as_many 1) params.list) (one (both (names_as_many throws) same))))

ctor_call_as_many : (call : CtorCallTree) → AsMany (ctor_call_marks call) (ctor_call_yield call)
ctor_call_as_many call = one (both (args_as_many i.Ctor 1 call.args) (one none))

ctor_body_as_many : (left right : Tok) (call : Option CtorCallTree) (body : StmtsTree)
    → AsMany (ctor_body_marks call body) (left ∷ (option_yield ctor_call_yield call ++ (stmts_yield body ++ right ∷ [])))
ctor_body_as_many left right call body =
    one (both (optional ctor_call_marks ctor_call_yield ctor_call_as_many call)
    (both (stmts_as_many (after 1 (option_marks ctor_call_marks call)) body) (one none)))

ret_as_many : (ret : RetTree) → AsMany (ret_marks ret) (ret_yield ret)
ret_as_many (Void word) = one none
ret_as_many (Typed used_type) = type_as_many used_type

body_as_many : (body : BodyTree) → AsMany (body_marks body) (body_yield body)
body_as_many (Block block) = block_as_many o.Block block
body_as_many (BodyTree.Semi semi) = one none

-- fields
more_fields_as_many : (rest : List (Tok × VarTree)) → AsMany (more_fields_marks rest) (flat_map (λ item. item.0 ∷ var_yield item.1) rest)
more_fields_as_many [] = none
more_fields_as_many (item ∷ rest) = one (one (both (beginning_as_many item.1) (more_fields_as_many rest)))

fields_as_many : (vars : ManyTree VarTree) → AsMany (fields_marks vars) (many_yield var_yield vars)
fields_as_many vars = one (both (beginning_as_many vars.first) (more_fields_as_many vars.rest))

-- members
pub member_as_many : (member : MemberTree) → AsMany (member_marks member) (member_yield member)
member_as_many (MemberTree.Semi semi) = one none
member_as_many (Init word body) = both (each (option_yield tok_yield word)) (block_as_many o.Initializer body)
member_as_many (Ctor mods id params throws left call body right) =
    both (each (mods_yield mods)) (one (callable_as_many params throws (ctor_body_as_many left right call body)))
member_as_many (Method mods ret id params throws body) =
    both (each (mods_yield mods)) (both (ret_as_many ret) (one (callable_as_many params throws (body_as_many body))))
member_as_many (Field mods used_type vars semi) = both (each (mods_yield mods)) (both (type_as_many used_type) (both (fields_as_many vars) (one none)))

members_as_many : (members : List MemberTree) → AsMany (members_marks members) (flat_map member_yield members)
members_as_many [] = none
members_as_many (member ∷ members) = both (member_as_many member) (members_as_many members)

-- types and files
decl_as_many : (decl : TypeDeclTree) → AsMany (decl_marks decl) (decl_yield decl)
decl_as_many decl =
    let supers = names_marks decl.implements ++ brace_mark decl.word decl.members ∷ [] in
    let rest = members_marks decl.members ++ m.Plain ∷ [] in
    regroup (mods_marks decl.mods) (m.Plain ∷ m.Type ∷ (names_marks decl.extends ++ supers)) rest
    (both (each (mods_yield decl.mods)) (one (one (regroup (names_marks decl.extends) supers rest
    (both (names_as_many decl.extends) (regroup (names_marks decl.implements) (brace_mark decl.word decl.members ∷ []) rest
    (both (names_as_many decl.implements) (one (both (members_as_many decl.members) (one none))))))))))

import_name_as_many : (name : NameTree) (star : Option (Tok × Tok)) → AsMany (import_name_marks name star) (name_yield name)
import_name_as_many name None = tname_as_many name
import_name_as_many name (Some star) = each (name_yield name)

import_as_many : (import : ImportTree) → AsMany (import_marks import) (import_yield import)
import_as_many import = one (both (import_name_as_many import.name import.star) (both (each (option_yield pair_yield import.star)) (one none)))

imports_as_many : (imports : List ImportTree) → AsMany (flat_map import_marks imports) (flat_map import_yield imports)
imports_as_many [] = none
imports_as_many (import ∷ imports) = both (import_as_many import) (imports_as_many imports)

unit_as_many : (unit : UnitTree) → AsMany (unit_marks unit) (unit_yield unit)
unit_as_many unit =
    both (each (option_yield package_yield unit.package)) (both (imports_as_many unit.imports) (both (decl_as_many unit.decl) (each unit.semis)))

pub unit_marks-length : (unit : UnitTree) → length (unit_marks unit) ≡ length (unit_yield unit)
unit_marks-length unit = (unit_as_many unit).equal

pub member_marks-length : (member : MemberTree) → length (member_marks member) ≡ length (member_yield member)
member_marks-length member = (member_as_many member).equal
