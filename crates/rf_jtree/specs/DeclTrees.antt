-- The trees of types, their members and files, without the pointers that programs keep between their parts; the tokens of
-- each from left to right, and the greatest depth in it.
use Rattle.std.specs.Prelude.{ℕ, max, List, [], ◌∷◌, ◌++◌, Option}
use Rattle.std.specs.List.{flat_map}
use Rattle.rf_jtree.specs.declared.names.Dims.{Dims}
use Rattle.rf_jtree.specs.declared.tokens.Tok.{Tok}
use Rattle.rf_jtree.specs.ExprTrees.{ArgsTree, args_yield, args_depth}
use Rattle.rf_jtree.specs.NameTrees.{ManyTree, NameTree, TypeUseTree, ModTree, name_yield, type_yield, dims_yield, mods_yield, tok_yield, pair_yield, option_yield, many_yield, behind_yield, option_depth, many_depth, list_depth}
use Rattle.rf_jtree.specs.StmtTrees.{BlockTree, StmtsTree, VarTree, block_yield, stmts_yield, var_yield, block_depth, stmts_depth, var_depth}

-- a parameter of a method or a constructor (JLS 8.4.1)
pub record ParamTree : Type 0 where
  pub mods : List ModTree
  pub used_type : TypeUseTree
  pub id : Tok
  pub dims : Dims

-- parameters in parentheses (JLS 8.4.1)
pub record ParamsTree : Type 0 where
  pub left : Tok
  pub list : Option (ManyTree ParamTree)
  pub right : Tok

-- `this(..);` or `super(..);` at the head of a constructor's body (JLS 8.8.7.1)
pub record CtorCallTree : Type 0 where
  pub word : Tok
  pub args : ArgsTree
  pub semi : Tok

-- the result of a method (JLS 8.4)
pub data RetTree : Type 0 where
  Void : Tok → RetTree
  Typed : TypeUseTree → RetTree

-- the body of a method, or `;` in its place (JLS 8.4.7)
pub data BodyTree : Type 0 where
  Block : BlockTree → BodyTree
  Semi : Tok → BodyTree

-- a member of a type, an initializer or a stray `;` (JLS 8.1.6, 9.1.4)
pub data MemberTree : Type 0 where
  Semi : Tok → MemberTree
  Init : (word : Option Tok) (body : BlockTree) → MemberTree
  Ctor : (mods : List ModTree) (id : Tok) (params : ParamsTree) (throws : Option (Tok × ManyTree NameTree)) (left : Tok) (call : Option CtorCallTree) (body : StmtsTree) (right : Tok) → MemberTree
  Method : (mods : List ModTree) (ret : RetTree) (id : Tok) (params : ParamsTree) (throws : Option (Tok × ManyTree NameTree)) (body : BodyTree) → MemberTree
  Field : (mods : List ModTree) (used_type : TypeUseTree) (vars : ManyTree VarTree) (semi : Tok) → MemberTree

-- a class or an interface (JLS 8.1, 9.1)
pub record TypeDeclTree : Type 0 where
  pub mods : List ModTree
  pub word : Tok
  pub id : Tok
  pub extends : Option (Tok × ManyTree NameTree)
  pub implements : Option (Tok × ManyTree NameTree)
  pub left : Tok
  pub members : List MemberTree
  pub right : Tok

-- an import, of one type or on demand: then with `.` and `*` (JLS 7.5)
pub record ImportTree : Type 0 where
  pub word : Tok
  pub name : NameTree
  pub star : Option (Tok × Tok)
  pub semi : Tok

-- a file (JLS 7.3)
pub record UnitTree : Type 0 where
  pub «package» : Option (Tok × NameTree × Tok)
  pub imports : List ImportTree
  pub decl : TypeDeclTree
  pub semis : List Tok

-- the tokens from left to right
abbrev pub names_yield : Option (Tok × ManyTree NameTree) → List Tok
names_yield names = option_yield (behind_yield (many_yield name_yield)) names

abbrev pub param_yield : ParamTree → List Tok
param_yield param = mods_yield param.mods ++ (type_yield param.used_type ++ param.id ∷ dims_yield param.dims)

abbrev pub params_yield : ParamsTree → List Tok
params_yield params = params.left ∷ (option_yield (many_yield param_yield) params.list ++ params.right ∷ [])

abbrev pub ctor_call_yield : CtorCallTree → List Tok
ctor_call_yield call = call.word ∷ (args_yield call.args ++ call.semi ∷ [])

abbrev pub ret_yield : RetTree → List Tok
ret_yield (Void word) = word ∷ []
ret_yield (Typed used_type) = type_yield used_type

abbrev pub body_yield : BodyTree → List Tok
body_yield (Block block) = block_yield block
body_yield (BodyTree.Semi semi) = semi ∷ []

abbrev pub member_yield : MemberTree → List Tok
member_yield (MemberTree.Semi semi) = semi ∷ []
member_yield (Init word body) = option_yield tok_yield word ++ block_yield body
member_yield (Ctor mods id params throws left call body right) =
    mods_yield mods ++ id ∷ (params_yield params ++ (names_yield throws ++ left ∷ (option_yield ctor_call_yield call ++ (stmts_yield body ++ right ∷ []))))
member_yield (Method mods ret id params throws body) =
    mods_yield mods ++ (ret_yield ret ++ id ∷ (params_yield params ++ (names_yield throws ++ body_yield body)))
member_yield (Field mods used_type vars semi) = mods_yield mods ++ (type_yield used_type ++ (many_yield var_yield vars ++ semi ∷ []))

abbrev pub decl_yield : TypeDeclTree → List Tok
decl_yield decl =
    mods_yield decl.mods ++ decl.word ∷ decl.id ∷ (names_yield decl.extends ++ (names_yield decl.implements ++ decl.left ∷ (flat_map member_yield decl.members ++ decl.right ∷ [])))

abbrev pub import_yield : ImportTree → List Tok
import_yield import = import.word ∷ (name_yield import.name ++ (option_yield pair_yield import.star ++ import.semi ∷ []))

abbrev pub package_yield : Tok × NameTree × Tok → List Tok
package_yield clause = clause.0 ∷ (name_yield clause.1 ++ clause.2 ∷ [])

abbrev pub unit_yield : UnitTree → List Tok
unit_yield unit = option_yield package_yield unit.package ++ (flat_map import_yield unit.imports ++ (decl_yield unit.decl ++ unit.semis))

-- The greatest depth of an expression or statement in it, 0 where there is none.
abbrev pub body_depth : BodyTree → ℕ
body_depth (Block block) = block_depth block
body_depth (BodyTree.Semi semi) = 0

abbrev pub member_depth : MemberTree → ℕ
member_depth (MemberTree.Semi semi) = 0
member_depth (Init word body) = block_depth body
member_depth (Ctor mods id params throws left call body right) = max (option_depth (λ call. args_depth call.args) call) (stmts_depth body)
member_depth (Method mods ret id params throws body) = body_depth body
member_depth (Field mods used_type vars semi) = many_depth var_depth vars

abbrev pub unit_depth : UnitTree → ℕ
unit_depth unit = list_depth member_depth unit.decl.members
