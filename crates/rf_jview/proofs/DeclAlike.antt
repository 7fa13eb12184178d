-- The marks of a file stay where it is rewritten.
use Rattle.std.proofs.Common.{◌≡◌, ℕ, suc, ◌+◌, List, [], ◌∷◌, ◌++◌, length, Option, Some, None, refl, ap, ◌∙◌, sym, ◌&&◌, ◌||◌, not}
use Rattle.std.specs.List.{list_any}
use Rattle.rf_jtree.specs.declared.keyword_names.TheConstants.{CLASS}
use Rattle.rf_jtree.specs.declared.tokens.Tok.{Tok}
use Rattle.rf_jtree.specs.DeclTrees.{ParamTree, ParamsTree, CtorCallTree, RetTree, Void, Typed, BodyTree, Block, MemberTree, Init, Ctor, Method, Field, TypeDeclTree, ImportTree, UnitTree}
use Rattle.rf_jtree.specs.DeclTrees.{param_yield, member_yield, import_yield, package_yield}
use Rattle.rf_jtree.specs.Kinds.{is_key_of}
use Rattle.rf_jtree.specs.NameTrees.{ManyTree, NameTree, name_yield, mods_yield, option_yield, tok_yield, pair_yield}
use Rattle.rf_jtree.specs.StmtTrees.{VarTree, StmtsTree, var_yield}
use Rattle.rf_jview.specs.declared.marks.Invocation.TheVariants as i
use Rattle.rf_jview.specs.declared.marks.Mark.{Mark}
use Rattle.rf_jview.specs.declared.marks.Mark.TheVariants as m
use Rattle.rf_jview.specs.declared.marks.Opening.TheVariants as o
use Rattle.rf_jview.specs.DeclMarks.{names_marks, param_marks, more_params_marks, many_params_marks, ctor_call_marks, ctor_opening, ctor_body_marks, ret_marks, body_marks, callable_marks}
use Rattle.rf_jview.specs.DeclMarks.{more_fields_marks, fields_marks, member_marks, is_ctor, default_ctor_mark, brace_mark, decl_marks, import_name_marks, import_marks, unit_marks}
use Rattle.rf_jview.specs.DeclWith.{names_with, param_with, params_with, ctor_call_with, ret_with, body_with, member_with, members_with, decl_with, import_name_with, import_with, unit_with}
use Rattle.rf_jview.specs.MarkWords.{steady, after, plains}
use Rattle.rf_jview.specs.NameMarks.{type_name_marks, dims_marks, mods_marks, option_marks, behind_marks, many_marks}
use Rattle.rf_jview.specs.Rewritings.{Rewriting, behind, option_with, behind_with, rest_with, many_with}
use Rattle.rf_jview.specs.StmtWith.{var_with, vars_with, stmts_with}
use Rattle.rf_jview.specs.StmtMarks.{stmts_marks}
use Rattle.rf_jview.proofs.Alike.{Alike, alike, both, plain, thens, opened_alike, optional_alike, behind_alike, list_alike, many_alike, tname_alike, type_alike}
use Rattle.rf_jview.proofs.ExprAlike.{args_alike}
use Rattle.rf_jview.proofs.StmtAlike.{beginning_alike, block_alike, stmts_alike}

names_alike : (g : Rewriting) (n : ℕ) (names : Option (Tok × ManyTree NameTree)) → Alike (names_marks (names_with g n names)) (names_marks names)
names_alike g n names =
    optional_alike (behind_marks (many_marks type_name_marks)) (behind_with (many_with name_yield g.written))
    (behind_alike (many_marks type_name_marks) (many_with name_yield g.written) (many_alike name_yield type_name_marks g.written (tname_alike g))) n names

-- methods and constructors
local_then : {news olds : List Mark} (back : ℕ) → Alike news olds → Alike (m.Local back ∷ news) (m.Local back ∷ olds)
local_then back same = record { equal = ap (λ marks. m.Local back ∷ marks) same.equal }

param_alike : (g : Rewriting) (n back : ℕ) (param : ParamTree) → Alike (param_marks back (param_with g n param)) (param_marks back param)
param_alike g n back param =
    both (alike (mods_marks param.mods))
    (thens (λ back. m.Local back ∷ dims_marks param.dims) (λ back. m.Local back ∷ dims_marks param.dims) (after back (mods_marks param.mods))
    (type_alike g (behind n (mods_yield param.mods)) param.used_type) (λ back. alike (m.Local back ∷ dims_marks param.dims)))

more_params_alike : (g : Rewriting) (n back : ℕ) (rest : List (Tok × ParamTree))
    → Alike (more_params_marks back (rest_with param_yield (param_with g) n rest)) (more_params_marks back rest)
more_params_alike g n back [] = alike []
more_params_alike g n back (item ∷ rest) =
    plain (thens (λ back. more_params_marks back (rest_with param_yield (param_with g) (behind (suc n) (param_yield item.1)) rest)) (λ back. more_params_marks back rest)
    (back + 1) (param_alike g (suc n) (back + 1) item.1) (λ back. more_params_alike g (behind (suc n) (param_yield item.1)) back rest))

many_params_alike : (g : Rewriting) (back n : ℕ) (params : ManyTree ParamTree)
    → Alike (many_params_marks back (many_with param_yield (param_with g) n params)) (many_params_marks back params)
many_params_alike g back n params =
    let next = behind n (param_yield params.first) in
    thens (λ back. more_params_marks back (rest_with param_yield (param_with g) next params.rest)) (λ back. more_params_marks back params.rest)
    back (param_alike g n back params.first) (λ back. more_params_alike g next back params.rest)

callable_alike : (g : Rewriting) (n : ℕ) (params : ParamsTree) (n2 : ℕ) (throws : Option (Tok × ManyTree NameTree)) {news olds : List Mark} → Alike news olds
    → Alike (callable_marks (params_with g n params).list (names_with g n2 throws) news) (callable_marks params.list throws olds)
callable_alike g n params n2 throws same =
    opened_alike o.Block (both (optional_alike (many_params_marks 1) (many_with param_yield (param_with g)) (many_params_alike g 1) (suc n) params.list)
    (plain (both (names_alike g n2 throws) same)))

ctor_call_alike : (g : Rewriting) (n : ℕ) (call : CtorCallTree) → Alike (ctor_call_marks (ctor_call_with g n call)) (ctor_call_marks call)
ctor_call_alike g n call = plain (both (args_alike g (suc n) i.Ctor 1 call.args) (alike (m.Plain ∷ [])))

ctor_opening-with : (g : Rewriting) (n : ℕ) (call : Option CtorCallTree) → ctor_opening (option_with (ctor_call_with g) n call) ≡ ctor_opening call
ctor_opening-with g n None = refl
ctor_opening-with g n (Some call) = refl

reopened : {news olds : List Mark} → Alike news olds → {more : List Mark} → news ≡ more → Alike more olds
reopened same e = record { equal = ap steady (sym e) ∙ same.equal }

ctor_body_alike : (g : Rewriting) (n : ℕ) (call : Option CtorCallTree) (n2 : ℕ) (body : StmtsTree)
    → Alike (ctor_body_marks (option_with (ctor_call_with g) n call) (stmts_with g n2 body)) (ctor_body_marks call body)
ctor_body_alike g n call n2 body =
    let rest = thens (λ back. stmts_marks back (stmts_with g n2 body) ++ m.Plain ∷ []) (λ back. stmts_marks back body ++ m.Plain ∷ []) 1
    (optional_alike ctor_call_marks (ctor_call_with g) (ctor_call_alike g) n call) (λ back. both (stmts_alike g n2 back body) (alike (m.Plain ∷ []))) in
    reopened (opened_alike (ctor_opening call) rest)
    (ap (λ opening. m.Opens opening (length (steady (option_marks ctor_call_marks (option_with (ctor_call_with g) n call) ++ (stmts_marks (after 1 (option_marks ctor_call_marks (option_with (ctor_call_with g) n call))) (stmts_with g n2 body) ++ m.Plain ∷ []))))
    ∷ (option_marks ctor_call_marks (option_with (ctor_call_with g) n call) ++ (stmts_marks (after 1 (option_marks ctor_call_marks (option_with (ctor_call_with g) n call))) (stmts_with g n2 body) ++ m.Plain ∷ [])))
    (sym (ctor_opening-with g n call)))

ret_alike : (g : Rewriting) (n : ℕ) (ret : RetTree) → Alike (ret_marks (ret_with g n ret)) (ret_marks ret)
ret_alike g n (Void word) = alike (m.Plain ∷ [])
ret_alike g n (Typed used_type) = type_alike g n used_type

body_alike : (g : Rewriting) (n : ℕ) (body : BodyTree) → Alike (body_marks (body_with g n body)) (body_marks body)
body_alike g n (Block block) = block_alike g n o.Block block
body_alike g n (BodyTree.Semi semi) = alike (m.Plain ∷ [])

-- fields
more_fields_alike : (g : Rewriting) (n : ℕ) (rest : List (Tok × VarTree)) → Alike (more_fields_marks (rest_with var_yield (var_with g) n rest)) (more_fields_marks rest)
more_fields_alike g n [] = alike []
more_fields_alike g n (item ∷ rest) =
    both (next_field (beginning_alike g (suc n) item.1)) (more_fields_alike g (behind (suc n) (var_yield item.1)) rest)
  where
    next_field : {news olds : List Mark} → Alike news olds → Alike (m.Plain ∷ m.NextField ∷ news) (m.Plain ∷ m.NextField ∷ olds)
    next_field same = record { equal = ap (λ marks. m.Plain ∷ m.NextField ∷ marks) same.equal }

fields_alike : (g : Rewriting) (n : ℕ) (vars : ManyTree VarTree) → Alike (fields_marks (vars_with g n vars)) (fields_marks vars)
fields_alike g n vars = record {
  equal = ap (λ marks. m.Field ∷ marks) (both (beginning_alike g n vars.first) (more_fields_alike g (behind n (var_yield vars.first)) vars.rest)).equal;
}

-- members
ctor_then : {news olds : List Mark} → Alike news olds → Alike (m.Ctor ∷ news) (m.Ctor ∷ olds)
ctor_then same = record { equal = ap (λ marks. m.Ctor ∷ marks) same.equal }

method_then : {news olds : List Mark} → Alike news olds → Alike (m.Method ∷ news) (m.Method ∷ olds)
method_then same = record { equal = ap (λ marks. m.Method ∷ marks) same.equal }

pub member_alike : (g : Rewriting) (n : ℕ) (member : MemberTree) → Alike (member_marks (member_with g n member)) (member_marks member)
member_alike g n (MemberTree.Semi semi) = alike (m.Plain ∷ [])
member_alike g n (Init word body) = both (alike (plains (option_yield tok_yield word))) (block_alike g (behind n (option_yield tok_yield word)) o.Initializer body)
member_alike g n (Ctor mods id params throws left call body right) =
    both (alike (mods_marks mods)) (ctor_then (callable_alike g _ params _ throws (ctor_body_alike g _ call _ body)))
member_alike g n (Method mods ret id params throws body) =
    both (alike (mods_marks mods)) (both (ret_alike g _ ret) (method_then (callable_alike g _ params _ throws (body_alike g _ body))))
member_alike g n (Field mods used_type vars semi) =
    both (alike (mods_marks mods)) (both (type_alike g _ used_type) (both (fields_alike g _ vars) (alike (m.Plain ∷ []))))

-- types and files
is_ctor-with : (g : Rewriting) (n : ℕ) (member : MemberTree) → is_ctor (member_with g n member) ≡ is_ctor member
is_ctor-with g n (MemberTree.Semi semi) = refl
is_ctor-with g n (Init word body) = refl
is_ctor-with g n (Ctor mods id params throws left call body right) = refl
is_ctor-with g n (Method mods ret id params throws body) = refl
is_ctor-with g n (Field mods used_type vars semi) = refl

has_ctor-with : (g : Rewriting) (n : ℕ) (members : List MemberTree) → list_any is_ctor (members_with g n members) ≡ list_any is_ctor members
has_ctor-with g n [] = refl
has_ctor-with g n (member ∷ members) =
    ap (λ b. b || list_any is_ctor (members_with g (behind n (member_yield member)) members)) (is_ctor-with g n member)
    ∙ ap (λ b. is_ctor member || b) (has_ctor-with g (behind n (member_yield member)) members)

brace_alike : (g : Rewriting) (n : ℕ) (word : Tok) (members : List MemberTree) → Alike (brace_mark word (members_with g n members) ∷ []) (brace_mark word members ∷ [])
brace_alike g n word members = record {
  equal = ap (λ has. steady (default_ctor_mark (is_key_of (CLASS ∷ []) word && not has) ∷ [])) (has_ctor-with g n members);
}

type_then : {news olds : List Mark} → Alike news olds → Alike (m.Plain ∷ m.Type ∷ news) (m.Plain ∷ m.Type ∷ olds)
type_then same = record { equal = ap (λ marks. m.Plain ∷ m.Type ∷ marks) same.equal }

decl_alike : (g : Rewriting) (n : ℕ) (decl : TypeDeclTree) → Alike (decl_marks (decl_with g n decl)) (decl_marks decl)
decl_alike g n decl =
    both (both (alike (mods_marks decl.mods)) (type_then (both (names_alike g _ decl.extends) (both (names_alike g _ decl.implements) (brace_alike g _ decl.word decl.members)))))
    (both (list_alike member_yield member_marks (member_with g) (member_alike g) _ decl.members) (alike (m.Plain ∷ [])))

import_name_alike : (g : Rewriting) (n : ℕ) (name : NameTree) (star : Option (Tok × Tok)) → Alike (import_name_marks (import_name_with g n name star) star) (import_name_marks name star)
import_name_alike g n name None = tname_alike g n name
import_name_alike g n name (Some star) = alike (plains (name_yield name))

import_alike : (g : Rewriting) (n : ℕ) (import : ImportTree) → Alike (import_marks (import_with g n import)) (import_marks import)
import_alike g n import =
    plain (both (import_name_alike g (suc n) import.name import.star) (alike (plains (option_yield pair_yield import.star) ++ m.Plain ∷ [])))

pub unit_alike : (g : Rewriting) (n : ℕ) (unit : UnitTree) → Alike (unit_marks (unit_with g n unit)) (unit_marks unit)
unit_alike g n unit =
    both (alike (plains (option_yield package_yield unit.package)))
    (both (list_alike import_yield import_marks (import_with g) (import_alike g) _ unit.imports) (both (decl_alike g _ unit.decl) (alike (plains unit.semis))))
