-- What stands in types, their members and files.
use Rattle.std.specs.Prelude.{ℕ, ◌+◌, List, [], ◌∷◌, ◌++◌, Option, Some, None, Bool, true, false, ◌&&◌, not}
use Rattle.std.specs.List.{flat_map, list_any}
use Rattle.rf_jtree.specs.declared.keyword_names.TheConstants.{CLASS}
use Rattle.rf_jtree.specs.declared.tokens.Tok.{Tok}
use Rattle.rf_jtree.specs.DeclTrees.{ParamTree, CtorCallTree, RetTree, Void, Typed, BodyTree, Block, MemberTree, Init, Ctor, Method, Field, TypeDeclTree, ImportTree, UnitTree, package_yield}
use Rattle.rf_jtree.specs.Kinds.{is_key_of}
use Rattle.rf_jtree.specs.NameTrees.{ManyTree, NameTree, option_yield, tok_yield, pair_yield, name_yield}
use Rattle.rf_jtree.specs.StmtTrees.{VarTree, StmtsTree}
use Rattle.rf_jview.specs.declared.marks.Invocation.TheVariants as i
use Rattle.rf_jview.specs.declared.marks.Mark.{Mark}
use Rattle.rf_jview.specs.declared.marks.Mark.TheVariants as m
use Rattle.rf_jview.specs.declared.marks.Opening.{Opening}
use Rattle.rf_jview.specs.declared.marks.Opening.TheVariants as o
use Rattle.rf_jview.specs.ExprMarks.{args_marks}
use Rattle.rf_jview.specs.MarkWords.{after, plains, opens}
use Rattle.rf_jview.specs.NameMarks.{type_name_marks, type_marks, dims_marks, mods_marks, option_marks, behind_marks, many_marks}
use Rattle.rf_jview.specs.StmtMarks.{beginning_marks, block_marks, stmts_marks}

-- names of types with commas between them behind a keyword, if they stand (JLS 8.1.4, 8.1.5, 8.4.6, 9.1.3)
abbrev pub names_marks : Option (Tok × ManyTree NameTree) → List Mark
names_marks names = option_marks (behind_marks (many_marks type_name_marks)) names

-- Parameters are declared in the block that begins with their `(` (JLS 8.4.1).
abbrev pub param_marks : ℕ → ParamTree → List Mark
param_marks back param =
    mods_marks param.mods ++ (type_marks param.used_type
    ++ m.Local (after (after back (mods_marks param.mods)) (type_marks param.used_type)) ∷ dims_marks param.dims)

abbrev pub more_params_marks : ℕ → List (Tok × ParamTree) → List Mark
more_params_marks back [] = []
more_params_marks back (item ∷ rest) =
    m.Plain ∷ (param_marks (back + 1) item.1 ++ more_params_marks (after (back + 1) (param_marks (back + 1) item.1)) rest)

abbrev pub many_params_marks : ℕ → ManyTree ParamTree → List Mark
many_params_marks back params = param_marks back params.first ++ more_params_marks (after back (param_marks back params.first)) params.rest

abbrev pub params_marks : Option (ManyTree ParamTree) → List Mark
params_marks params = option_marks (many_params_marks 1) params

-- `this(..);` or `super(..);` (JLS 8.8.7.1)
abbrev pub ctor_call_marks : CtorCallTree → List Mark
ctor_call_marks call = m.Plain ∷ (args_marks i.Ctor 1 call.args ++ m.Plain ∷ [])

-- The body of a constructor is a block. Without a written call it invokes a constructor of the superclass (JLS 8.8.7).
abbrev pub ctor_opening : Option CtorCallTree → Opening
ctor_opening None = o.ImplicitSuper
ctor_opening (Some call) = o.Block

abbrev pub ctor_body_marks : Option CtorCallTree → StmtsTree → List Mark
ctor_body_marks call body =
    opens (ctor_opening call) (option_marks ctor_call_marks call ++ (stmts_marks (after 1 (option_marks ctor_call_marks call)) body ++ m.Plain ∷ []))

-- the result of a method, and its body (JLS 8.4.5, 8.4.7)
abbrev pub ret_marks : RetTree → List Mark
ret_marks (Void word) = m.Plain ∷ []
ret_marks (Typed used_type) = type_marks used_type

abbrev pub body_marks : BodyTree → List Mark
body_marks (Block block) = block_marks o.Block block
body_marks (BodyTree.Semi semi) = m.Plain ∷ []

-- A method or a constructor from its `(` on: a block of its parameters, what it throws, and its body (JLS 6.3).
abbrev pub callable_marks : Option (ManyTree ParamTree) → Option (Tok × ManyTree NameTree) → List Mark → List Mark
callable_marks params throws body = opens o.Block (params_marks params ++ m.Plain ∷ (names_marks throws ++ body))

-- the fields that one declaration declares (JLS 8.3)
abbrev pub more_fields_marks : List (Tok × VarTree) → List Mark
more_fields_marks rest = flat_map (λ item. m.Plain ∷ m.NextField ∷ beginning_marks item.1) rest

abbrev pub fields_marks : ManyTree VarTree → List Mark
fields_marks vars = m.Field ∷ (beginning_marks vars.first ++ more_fields_marks vars.rest)

-- A constructor's own name is a reference too, beside that it is declared there (JLS 8.8).
abbrev pub member_marks : MemberTree → List Mark
member_marks (MemberTree.Semi semi) = m.Plain ∷ []
member_marks (Init word body) = plains (option_yield tok_yield word) ++ block_marks o.Initializer body
member_marks (Ctor mods id params throws left call body right) =
    mods_marks mods ++ m.Ctor ∷ callable_marks params.list throws (ctor_body_marks call body)
member_marks (Method mods ret id params throws body) =
    mods_marks mods ++ (ret_marks ret ++ m.Method ∷ callable_marks params.list throws (body_marks body))
member_marks (Field mods used_type vars semi) = mods_marks mods ++ (type_marks used_type ++ (fields_marks vars ++ m.Plain ∷ []))

-- A list of members has the marks of each in its turn, wherever the member stands.
abbrev pub members_marks : List MemberTree → List Mark
members_marks members = flat_map member_marks members

-- A class that declares no constructor has a default one, which stands at its `{` and invokes the superclass's there
-- (JLS 8.8.9). An interface has none.
abbrev pub is_ctor : MemberTree → Bool
is_ctor (Ctor mods id params throws left call body right) = true
is_ctor member = false

abbrev pub default_ctor_mark : Bool → Mark
default_ctor_mark true = m.DefaultCtor
default_ctor_mark false = m.Plain

abbrev pub brace_mark : Tok → List MemberTree → Mark
brace_mark word members = default_ctor_mark (is_key_of (CLASS ∷ []) word && not (list_any is_ctor members))

-- a type up to its `{`, and whole (JLS 8.1, 9.1)
abbrev pub decl_head_marks : TypeDeclTree → List Mark
decl_head_marks decl =
    mods_marks decl.mods ++ m.Plain ∷ m.Type ∷ (names_marks decl.extends ++ (names_marks decl.implements ++ brace_mark decl.word decl.members ∷ []))

abbrev pub decl_marks : TypeDeclTree → List Mark
decl_marks decl = decl_head_marks decl ++ (members_marks decl.members ++ m.Plain ∷ [])

-- An import of one type is a reference to it; one on demand is none (JLS 7.5).
abbrev pub import_name_marks : NameTree → Option (Tok × Tok) → List Mark
import_name_marks name None = type_name_marks name
import_name_marks name (Some star) = plains (name_yield name)

abbrev pub import_marks : ImportTree → List Mark
import_marks import = m.Plain ∷ (import_name_marks import.name import.star ++ (plains (option_yield pair_yield import.star) ++ m.Plain ∷ []))

-- a file: its package clause, its imports, its type, and what is behind that (JLS 7.3)
abbrev pub unit_marks : UnitTree → List Mark
unit_marks unit =
    plains (option_yield package_yield unit.package) ++ (flat_map import_marks unit.imports ++ (decl_marks unit.decl ++ plains unit.semis))
