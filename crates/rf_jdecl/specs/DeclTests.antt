-- What classes and interfaces ask of their parts, as tests.
use Rattle.std.specs.Prelude.{List, [], ◌∷◌, Option, Some, None, Bool, true, false, is_some, is_none, not, ◌&&◌, ◌||◌, if◌then◌else◌}
use Rattle.std.specs.List.{list_all}
use Rattle.rf_jtree.specs.declared.tokens.Tok.{Tok}
use Rattle.rf_jtree.specs.declared.keyword_names.TheConstants.{ABSTRACT, CLASS, INTERFACE, NATIVE, PRIVATE, PROTECTED, STATIC}
use Rattle.rf_jtree.specs.DeclFits.{has_word_of, is_semi}
use Rattle.rf_jtree.specs.DeclTrees.{BodyTree, MemberTree, Init, Ctor, Method, Field, TypeDeclTree}
use Rattle.rf_jtree.specs.NameTrees.{ManyTree, NameTree, ModTree}
use Rattle.rf_jtree.specs.StmtTrees.{VarTree}
use Rattle.rf_jexpr.specs.Reads.{is_key}

unfoldable pub is_empty : {A : Type 0} → List A → Bool
is_empty [] = true
is_empty (x ∷ xs) = false

-- neither private nor protected (JLS 7.6, 9.3, 9.4)
unfoldable pub is_visible : List ModTree → Bool
is_visible mods = not (has_word_of (PRIVATE ∷ PROTECTED ∷ []) mods)

-- ---- classes

-- A method has `;` in place of a body exactly where it is abstract or native (JLS 8.4.7).
unfoldable pub has_right_body : List ModTree → BodyTree → Bool
has_right_body mods body = if has_word_of (ABSTRACT ∷ NATIVE ∷ []) mods then is_semi body else not (is_semi body)

unfoldable pub class_takes : MemberTree → Bool
class_takes (Method mods ret id params throws body) = has_right_body mods body
class_takes member = true

-- A class extends one class at most (JLS 8.1.4).
unfoldable pub is_one_name : Option (Tok × ManyTree NameTree) → Bool
is_one_name None = true
is_one_name (Some names) = is_empty names.1.rest

unfoldable pub is_class : TypeDeclTree → Bool
is_class decl = is_key CLASS decl.word && (is_one_name decl.extends && list_all class_takes decl.members)

-- ---- interfaces

-- A method has `;` and isn't static, private or protected (JLS 9.4).
unfoldable pub is_interface_method : List ModTree → BodyTree → Bool
is_interface_method mods body = is_semi body && (not (has_word_of (STATIC ∷ []) mods) && is_visible mods)

-- Each field begins with something, and it isn't private or protected (JLS 9.3, 9.3.1).
unfoldable pub begins_with_some : Tok × VarTree → Bool
begins_with_some item = is_some item.1.init

unfoldable pub is_interface_field : List ModTree → ManyTree VarTree → Bool
is_interface_field mods vars = is_some vars.first.init && (list_all begins_with_some vars.rest && is_visible mods)

-- There are neither constructors nor initializers (JLS 9.1.4).
unfoldable pub interface_takes : MemberTree → Bool
interface_takes (MemberTree.Semi semi) = true
interface_takes (Init word body) = false
interface_takes (Ctor mods id params throws left call body right) = false
interface_takes (Method mods ret id params throws body) = is_interface_method mods body
interface_takes (Field mods used_type vars semi) = is_interface_field mods vars

-- An interface implements nothing (JLS 9.1.3).
unfoldable pub is_interface : TypeDeclTree → Bool
is_interface decl = is_key INTERFACE decl.word && (is_none decl.implements && list_all interface_takes decl.members)

-- ---- types and imports

unfoldable pub decl_fits : TypeDeclTree → Bool
decl_fits decl = is_visible decl.mods && (is_class decl || is_interface decl)

-- An import of one type names its package too (JLS 7.5.1).
unfoldable pub names_package : NameTree → Option (Tok × Tok) → Bool
names_package name star = is_some star || not (is_empty name.ids.rest)
