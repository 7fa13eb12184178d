-- When types, their members and files fit: the forms of the grammar, and the further conditions, each under a name. They
-- look at finished trees alone.
use Rattle.std.specs.Prelude.{◌≡◌, ◌≢◌, List, [], ◌∷◌, ◌⊎◌, Bool, true, false, Option, Some, None, IsTrue, IsSome, IsNone, IfSome}
use Rattle.std.specs.List.{list_any}
use Rattle.rf_jtree.specs.declared.tokens.Tok.{Tok}
use Rattle.rf_jtree.specs.declared.words.Kw.{Kw}
use Rattle.rf_jtree.specs.declared.operator_names.TheConstants.{COMMA, DOT, SEMICOLON, TIMES}
use Rattle.rf_jtree.specs.declared.keyword_names.TheConstants.{ABSTRACT, CLASS, EXTENDS, IMPLEMENTS, IMPORT, INTERFACE, NATIVE, PACKAGE, PRIVATE, PROTECTED, STATIC, SUPER, THIS, THROWS, VOID, ACCESSES}
use Rattle.rf_jtree.specs.DeclTrees.{ParamTree, ParamsTree, CtorCallTree, RetTree, Void, Typed, BodyTree, Block, MemberTree, Init, Ctor, Method, Field, TypeDeclTree, ImportTree, UnitTree}
use Rattle.rf_jtree.specs.ExprFits.{ArgsFit}
use Rattle.rf_jtree.specs.Kinds.{IsOp, IsKey, IsIdent, AreParens, AreBraces, is_key_of}
use Rattle.rf_jtree.specs.NameFits.{EachFits, ManyFit, NameFits, DimsFit, TypeFits, ModsFit}
use Rattle.rf_jtree.specs.NameTrees.{ManyTree, NameTree, ModTree, Word}
use Rattle.rf_jtree.specs.StmtFits.{VariableModsFit, VarFits, BlockFits, StmtsFit}
use Rattle.rf_jtree.specs.StmtTrees.{VarTree}

-- one of these words is among the modifiers
abbrev pub is_word_of : List Kw → ModTree → Bool
is_word_of words (Word tok) = is_key_of words tok
is_word_of words annotation = false

abbrev pub has_word_of : List Kw → List ModTree → Bool
has_word_of words mods = list_any (is_word_of words) mods

-- A type isn't private or protected, nor is a member of an interface (JLS 7.6, 9.3, 9.4).
abbrev pub IsNeitherPrivateNorProtected : List ModTree → Type 0
IsNeitherPrivateNorProtected mods = has_word_of (PRIVATE ∷ PROTECTED ∷ []) mods ≡ false

-- names with commas between them behind a keyword, as behind `throws` (JLS 8.1.5, 8.4.6, 9.1.3)
abbrev pub NamesFit : Kw → Tok × ManyTree NameTree → Type 0
NamesFit key names = IsKey key names.0 × ManyFit NameFits COMMA names.1

-- a parameter (JLS 8.4.1)
pub record ParamFits (param : ParamTree) : Type 0 where
  pub mods_fit : VariableModsFit param.mods
  pub used_type_fits : TypeFits param.used_type
  pub id_is : IsIdent param.id
  pub dims_fit : DimsFit param.dims

abbrev pub ParamsFit : ParamsTree → Type 0
ParamsFit params = AreParens params.left params.right × IfSome params.list (ManyFit ParamFits COMMA)

-- A constructor has an access word and annotations alone (JLS 8.8.3).
abbrev pub IsAccessOrAnnotation : ModTree → Type 0
IsAccessOrAnnotation (Word tok) = IsTrue (is_key_of ACCESSES tok)
IsAccessOrAnnotation annotation = Unit {0}

pub record CtorModsFit (mods : List ModTree) : Type 0 where
  pub fit : ModsFit mods
  pub each : EachFits IsAccessOrAnnotation mods

-- `this(..);` or `super(..);` at the head of a constructor's body (JLS 8.8.7.1)
abbrev pub CtorCallFits : CtorCallTree → Type 0
CtorCallFits call = ((IsKey THIS call.word) ⊎ (IsKey SUPER call.word)) × ArgsFit call.args × IsOp SEMICOLON call.semi

-- the result of a method (JLS 8.4)
abbrev pub RetFits : RetTree → Type 0
RetFits (Void word) = IsKey VOID word
RetFits (Typed used_type) = TypeFits used_type

-- the body of a method, or `;` in its place (JLS 8.4.7)
abbrev pub BodyFits : BodyTree → Type 0
BodyFits (Block block) = BlockFits block
BodyFits (BodyTree.Semi semi) = IsOp SEMICOLON semi

-- the name of a constructor or a method, its parameters and what it throws (JLS 8.4, 8.8)
pub record IsCallable (id : Tok) (params : ParamsTree) (throws : Option (Tok × ManyTree NameTree)) : Type 0 where
  pub id_is : IsIdent id
  pub params_fit : ParamsFit params
  pub throws_fit : IfSome throws (NamesFit THROWS)

-- a constructor beside its modifiers (JLS 8.8)
pub record IsCtor (id : Tok) (params : ParamsTree) (throws : Option (Tok × ManyTree NameTree)) (left : Tok) (call : Option CtorCallTree) (right : Tok) : Type 0 where
  pub callable : IsCallable id params throws
  pub braces : AreBraces left right
  pub call_fits : IfSome call CtorCallFits

-- A member fits (JLS 8.3, 8.4, 8.6, 8.7, 8.8, 9.3, 9.4). What classes and interfaces ask further comes next.
abbrev pub MemberFits : MemberTree → Type 0
MemberFits (MemberTree.Semi semi) = IsOp SEMICOLON semi
MemberFits (Init word body) = IfSome word (IsKey STATIC) × BlockFits body
MemberFits (Ctor mods id params throws left call body right) = CtorModsFit mods × IsCtor id params throws left call right × StmtsFit body
MemberFits (Method mods ret id params throws body) = ModsFit mods × RetFits ret × IsCallable id params throws × BodyFits body
MemberFits (Field mods used_type vars semi) = ModsFit mods × TypeFits used_type × ManyFit VarFits COMMA vars × IsOp SEMICOLON semi

-- A method of a class has `;` in place of a body exactly where it is abstract or native (JLS 8.4.7).
abbrev pub is_semi : BodyTree → Bool
is_semi (Block block) = false
is_semi (BodyTree.Semi semi) = true

abbrev pub ClassTakes : MemberTree → Type 0
ClassTakes (Method mods ret id params throws body) = is_semi body ≡ has_word_of (ABSTRACT ∷ NATIVE ∷ []) mods
ClassTakes member = Unit {0}

-- A method of an interface has `;` and isn't static, private or protected (JLS 9.4).
pub record IsInterfaceMethod (mods : List ModTree) (body : BodyTree) : Type 0 where
  pub no_body : IsTrue (is_semi body)
  pub not_static : has_word_of (STATIC ∷ []) mods ≡ false
  pub visible : IsNeitherPrivateNorProtected mods

-- Each field of an interface begins with something, and it isn't private or protected (JLS 9.3, 9.3.1).
abbrev pub EachBegins : ManyTree VarTree → Type 0
EachBegins vars = IsSome vars.first.init × EachFits (λ item. IsSome item.1.init) vars.rest

pub record IsInterfaceField (mods : List ModTree) (vars : ManyTree VarTree) : Type 0 where
  pub each_begins : EachBegins vars
  pub visible : IsNeitherPrivateNorProtected mods

-- An interface has neither constructors nor initializers, static or not (JLS 9.1.4).
abbrev pub InterfaceTakes : MemberTree → Type 0
InterfaceTakes (MemberTree.Semi semi) = Unit {0}
InterfaceTakes (Init word body) = ⊥
InterfaceTakes (Ctor mods id params throws left call body right) = ⊥
InterfaceTakes (Method mods ret id params throws body) = IsInterfaceMethod mods body
InterfaceTakes (Field mods used_type vars semi) = IsInterfaceField mods vars

-- A class extends one class at most, and implements any number of interfaces (JLS 8.1.4, 8.1.5).
abbrev pub IsOneName : Tok × ManyTree NameTree → Type 0
IsOneName names = names.1.rest ≡ []

pub record IsClass (decl : TypeDeclTree) : Type 0 where
  pub word_is : IsKey CLASS decl.word
  pub extends_one : IfSome decl.extends IsOneName
  pub takes_each : EachFits ClassTakes decl.members

-- An interface extends any number of interfaces, and implements nothing (JLS 9.1.3).
pub record IsInterface (decl : TypeDeclTree) : Type 0 where
  pub word_is : IsKey INTERFACE decl.word
  pub implements_none : IsNone decl.implements
  pub takes_each : EachFits InterfaceTakes decl.members

-- A class or an interface fits (JLS 8.1, 9.1).
pub record DeclFits (decl : TypeDeclTree) : Type 0 where
  pub mods_fit : ModsFit decl.mods
  pub visible : IsNeitherPrivateNorProtected decl.mods
  pub kind : (IsClass decl) ⊎ (IsInterface decl)
  pub id_is : IsIdent decl.id
  pub extends_fits : IfSome decl.extends (NamesFit EXTENDS)
  pub implements_fits : IfSome decl.implements (NamesFit IMPLEMENTS)
  pub braces : AreBraces decl.left decl.right
  pub members_fit : EachFits MemberFits decl.members

-- `.*` behind the name of an import, as two tokens (JLS 7.5.2)
abbrev pub StarFits : Tok × Tok → Type 0
StarFits star = IsOp DOT star.0 × IsOp TIMES star.1

-- An import of one type names its package too, so its name has two identifiers or more (JLS 7.5.1).
abbrev pub NamesPackage : NameTree → Option (Tok × Tok) → Type 0
NamesPackage name None = name.ids.rest ≢ []
NamesPackage name (Some star) = Unit {0}

-- an import (JLS 7.5)
pub record ImportFits (import : ImportTree) : Type 0 where
  pub word_is : IsKey IMPORT import.word
  pub name_fits : NameFits import.name
  pub names_package : NamesPackage import.name import.star
  pub star_fits : IfSome import.star StarFits
  pub semi_is : IsOp SEMICOLON import.semi

-- the package clause (JLS 7.4)
abbrev pub PackageFits : Tok × NameTree × Tok → Type 0
PackageFits clause = IsKey PACKAGE clause.0 × NameFits clause.1 × IsOp SEMICOLON clause.2

-- A file fits (JLS 7.3).
pub record UnitFits (unit : UnitTree) : Type 0 where
  pub package_fits : IfSome unit.package PackageFits
  pub imports_fit : EachFits ImportFits unit.imports
  pub decl_fits : DeclFits unit.decl
  pub semis_are : EachFits (IsOp SEMICOLON) unit.semis
