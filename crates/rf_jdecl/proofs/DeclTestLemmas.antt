-- The tests on types, members and imports hold exactly where the conditions of the grammar do.
use Rattle.std.proofs.Common.{◌≡◌, ◌≢◌, List, [], ◌∷◌, Option, Some, None, Bool, true, false, is_some, is_none, not, ◌&&◌, ◌||◌, if◌then◌else◌, IsTrue, IsSome, IfSome, ◌⊎◌, inl, inr, refl}
use Rattle.std.specs.List.{list_all}
use Rattle.rf_jtree.specs.declared.tokens.Tok.{Tok}
use Rattle.rf_jtree.specs.declared.keyword_names.TheConstants.{CLASS, INTERFACE, STATIC, THIS, SUPER}
use Rattle.rf_jtree.specs.DeclFits.{has_word_of, is_semi, IsNeitherPrivateNorProtected, IsAccessOrAnnotation, CtorModsFit, ClassTakes, IsInterfaceMethod, IsInterfaceField, InterfaceTakes, IsOneName, IsClass, IsInterface, NamesPackage}
use Rattle.rf_jtree.specs.DeclTrees.{BodyTree, MemberTree, Init, Ctor, Method, Field, TypeDeclTree}
use Rattle.rf_jtree.specs.Kinds.{IsKey}
use Rattle.rf_jtree.specs.NameFits.{ModsFit}
use Rattle.rf_jtree.specs.NameTrees.{ManyTree, NameTree, ModTree, Word}
use Rattle.rf_jtree.specs.StmtTrees.{VarTree}
use Rattle.rf_jexpr.specs.Reads.{is_key}
use Rattle.rf_jexpr.proofs.StopLemmas.{not_true, not_false}
use Rattle.rf_jexpr.proofs.Tools.{both, and_true, is_key-IsKey, IsKey-is_key}
use Rattle.rf_jfit.proofs.EachLemmas.{list_all-each, each-list_all}
use Rattle.rf_jmods.proofs.ModTestLemmas.{or_true, first_true, second_true}
use Rattle.rf_jdecl.specs.DeclTests.{is_empty, is_visible, has_right_body, class_takes, is_one_name, is_class, is_interface_method, begins_with_some, is_interface_field, interface_takes, is_interface, decl_fits, names_package}
use Rattle.rf_jdecl.specs.MemberReads.{calls_ctor, is_ctor_mod}

-- ---- modifiers

pub is_visible-Is : (mods : List ModTree) → IsTrue (is_visible mods) → IsNeitherPrivateNorProtected mods
unfolding is_visible
is_visible-Is mods h = not_true _ h

pub Is-is_visible : (mods : List ModTree) → IsNeitherPrivateNorProtected mods → IsTrue (is_visible mods)
unfolding is_visible
Is-is_visible mods h = not_false _ h

is_ctor_mod-Is : (one : ModTree) → IsTrue (is_ctor_mod one) → IsAccessOrAnnotation one
unfolding is_ctor_mod
is_ctor_mod-Is (Word tok) h = h
is_ctor_mod-Is annotation h = tt

Is-is_ctor_mod : (one : ModTree) → IsAccessOrAnnotation one → IsTrue (is_ctor_mod one)
unfolding is_ctor_mod
Is-is_ctor_mod (Word tok) h = h
Is-is_ctor_mod annotation h = refl

pub ctor_mods-Fit : (mods : List ModTree) → ModsFit mods → IsTrue (list_all is_ctor_mod mods) → CtorModsFit mods
ctor_mods-Fit mods fit h = record { fit = fit; each = list_all-each is_ctor_mod IsAccessOrAnnotation is_ctor_mod-Is mods h }

pub Fit-ctor_mods : (mods : List ModTree) → CtorModsFit mods → IsTrue (list_all is_ctor_mod mods)
Fit-ctor_mods mods fit = each-list_all is_ctor_mod IsAccessOrAnnotation Is-is_ctor_mod mods fit.each

-- ---- `this` or `super`

pub calls_ctor-Is : (tok : Tok) → IsTrue (calls_ctor tok) → (IsKey THIS tok) ⊎ (IsKey SUPER tok)
unfolding calls_ctor
calls_ctor-Is tok h = elim (or_true (is_key THIS tok) (is_key SUPER tok) h) [ inl one ↦ inl (is_key-IsKey THIS tok one) | inr other ↦ inr (is_key-IsKey SUPER tok other) ]

pub Is-calls_ctor : (tok : Tok) → (IsKey THIS tok) ⊎ (IsKey SUPER tok) → IsTrue (calls_ctor tok)
unfolding calls_ctor
Is-calls_ctor tok (inl one) = first_true (is_key THIS tok) (is_key SUPER tok) (IsKey-is_key THIS tok one)
Is-calls_ctor tok (inr other) = second_true (is_key THIS tok) (is_key SUPER tok) (IsKey-is_key SUPER tok other)

-- ---- members of classes

body_is : (semi word : Bool) → IsTrue (if word then semi else not semi) → semi ≡ word
body_is true true h = refl
body_is true false h = absurd (cc)
body_is false true h = absurd (cc)
body_is false false h = refl

is_body : (semi word : Bool) → semi ≡ word → IsTrue (if word then semi else not semi)
is_body true true h = refl
is_body true false h = absurd (cc)
is_body false true h = absurd (cc)
is_body false false h = refl

class_takes-Takes : (member : MemberTree) → IsTrue (class_takes member) → ClassTakes member
unfolding class_takes has_right_body
class_takes-Takes (Method mods ret id params throws body) h = body_is (is_semi body) _ h
class_takes-Takes member h = tt

Takes-class_takes : (member : MemberTree) → ClassTakes member → IsTrue (class_takes member)
unfolding class_takes has_right_body
Takes-class_takes (Method mods ret id params throws body) h = is_body (is_semi body) _ h
Takes-class_takes member h = refl

empty-Nil : {A : Type 0} (xs : List A) → IsTrue (is_empty xs) → xs ≡ []
unfolding is_empty
empty-Nil [] h = refl
empty-Nil (x ∷ xs) h = absurd (cc)

Nil-empty : {A : Type 0} (xs : List A) → xs ≡ [] → IsTrue (is_empty xs)
unfolding is_empty
Nil-empty [] h = refl
Nil-empty (x ∷ xs) h = absurd (cc)

one_name-Is : (names : Option (Tok × ManyTree NameTree)) → IsTrue (is_one_name names) → IfSome names IsOneName
unfolding is_one_name
one_name-Is None h = tt
one_name-Is (Some names) h = empty-Nil names.1.rest h

Is-one_name : (names : Option (Tok × ManyTree NameTree)) → IfSome names IsOneName → IsTrue (is_one_name names)
unfolding is_one_name
Is-one_name None h = refl
Is-one_name (Some names) h = Nil-empty names.1.rest h

class-Is : (decl : TypeDeclTree) → IsTrue (is_class decl) → IsClass decl
unfolding is_class
class-Is decl h =
    let word = both (is_key CLASS decl.word) (is_one_name decl.extends && list_all class_takes decl.members) h in
    let parts = both (is_one_name decl.extends) (list_all class_takes decl.members) word.1 in
    record { word_is = is_key-IsKey CLASS decl.word word.0; extends_one = one_name-Is decl.extends parts.0; takes_each = list_all-each class_takes ClassTakes class_takes-Takes decl.members parts.1 }

Is-class : (decl : TypeDeclTree) → IsClass decl → IsTrue (is_class decl)
unfolding is_class
Is-class decl fit =
    and_true _ _ (IsKey-is_key CLASS decl.word fit.word_is) (and_true _ _ (Is-one_name decl.extends fit.extends_one) (each-list_all class_takes ClassTakes Takes-class_takes decl.members fit.takes_each))

-- ---- members of interfaces

interface_method-Is : (mods : List ModTree) (body : BodyTree) → IsTrue (is_interface_method mods body) → IsInterfaceMethod mods body
unfolding is_interface_method
interface_method-Is mods body h =
    let semi = both (is_semi body) (not (has_word_of (STATIC ∷ []) mods) && is_visible mods) h in
    let parts = both (not (has_word_of (STATIC ∷ []) mods)) (is_visible mods) semi.1 in
    record { no_body = semi.0; not_static = not_true _ parts.0; visible = is_visible-Is mods parts.1 }

Is-interface_method : (mods : List ModTree) (body : BodyTree) → IsInterfaceMethod mods body → IsTrue (is_interface_method mods body)
unfolding is_interface_method
Is-interface_method mods body fit = and_true _ _ fit.no_body (and_true _ _ (not_false _ fit.not_static) (Is-is_visible mods fit.visible))

begins_with_some-Is : (item : Tok × VarTree) → IsTrue (begins_with_some item) → IsSome item.1.init
unfolding begins_with_some
begins_with_some-Is item h = h

Is-begins_with_some : (item : Tok × VarTree) → IsSome item.1.init → IsTrue (begins_with_some item)
unfolding begins_with_some
Is-begins_with_some item h = h

interface_field-Is : (mods : List ModTree) (vars : ManyTree VarTree) → IsTrue (is_interface_field mods vars) → IsInterfaceField mods vars
unfolding is_interface_field
interface_field-Is mods vars h =
    let first = both (is_some vars.first.init) (list_all begins_with_some vars.rest && is_visible mods) h in
    let parts = both (list_all begins_with_some vars.rest) (is_visible mods) first.1 in
    record { each_begins = (first.0, list_all-each begins_with_some (λ item. IsSome item.1.init) begins_with_some-Is vars.rest parts.0); visible = is_visible-Is mods parts.1 }

Is-interface_field : (mods : List ModTree) (vars : ManyTree VarTree) → IsInterfaceField mods vars → IsTrue (is_interface_field mods vars)
unfolding is_interface_field
Is-interface_field mods vars fit =
    and_true _ _ fit.each_begins.0 (and_true _ _ (each-list_all begins_with_some (λ item. IsSome item.1.init) Is-begins_with_some vars.rest fit.each_begins.1) (Is-is_visible mods fit.visible))

interface_takes-Takes : (member : MemberTree) → IsTrue (interface_takes member) → InterfaceTakes member
unfolding interface_takes
interface_takes-Takes (MemberTree.Semi semi) h = tt
interface_takes-Takes (Init word body) h = absurd (cc)
interface_takes-Takes (Ctor mods id params throws left call body right) h = absurd (cc)
interface_takes-Takes (Method mods ret id params throws body) h = interface_method-Is mods body h
interface_takes-Takes (Field mods used_type vars semi) h = interface_field-Is mods vars h

Takes-interface_takes : (member : MemberTree) → InterfaceTakes member → IsTrue (interface_takes member)
unfolding interface_takes
Takes-interface_takes (MemberTree.Semi semi) h = refl
Takes-interface_takes (Init word body) h = absurd h
Takes-interface_takes (Ctor mods id params throws left call body right) h = absurd h
Takes-interface_takes (Method mods ret id params throws body) h = Is-interface_method mods body h
Takes-interface_takes (Field mods used_type vars semi) h = Is-interface_field mods vars h

interface-Is : (decl : TypeDeclTree) → IsTrue (is_interface decl) → IsInterface decl
unfolding is_interface
interface-Is decl h =
    let word = both (is_key INTERFACE decl.word) (is_none decl.implements && list_all interface_takes decl.members) h in
    let parts = both (is_none decl.implements) (list_all interface_takes decl.members) word.1 in
    record { word_is = is_key-IsKey INTERFACE decl.word word.0; implements_none = not_true _ parts.0; takes_each = list_all-each interface_takes InterfaceTakes interface_takes-Takes decl.members parts.1 }

Is-interface : (decl : TypeDeclTree) → IsInterface decl → IsTrue (is_interface decl)
unfolding is_interface
Is-interface decl fit =
    and_true _ _ (IsKey-is_key INTERFACE decl.word fit.word_is) (and_true _ _ (not_false _ fit.implements_none) (each-list_all interface_takes InterfaceTakes Takes-interface_takes decl.members fit.takes_each))

-- ---- types and imports

pub record IsDecl (decl : TypeDeclTree) : Type 0 where
  pub visible : IsNeitherPrivateNorProtected decl.mods
  pub kind : (IsClass decl) ⊎ (IsInterface decl)

pub decl_fits-Is : (decl : TypeDeclTree) → IsTrue (decl_fits decl) → IsDecl decl
unfolding decl_fits
decl_fits-Is decl h =
    let parts = both (is_visible decl.mods) (is_class decl || is_interface decl) h in
    record {
      visible = is_visible-Is decl.mods parts.0;
      kind = elim (or_true (is_class decl) (is_interface decl) parts.1) [ inl one ↦ inl (class-Is decl one) | inr other ↦ inr (interface-Is decl other) ];
    }

kind_test : (decl : TypeDeclTree) → (IsClass decl) ⊎ (IsInterface decl) → IsTrue (is_class decl || is_interface decl)
kind_test decl (inl one) = first_true (is_class decl) (is_interface decl) (Is-class decl one)
kind_test decl (inr other) = second_true (is_class decl) (is_interface decl) (Is-interface decl other)

pub Is-decl_fits : (decl : TypeDeclTree) → IsDecl decl → IsTrue (decl_fits decl)
unfolding decl_fits
Is-decl_fits decl fit = and_true _ _ (Is-is_visible decl.mods fit.visible) (kind_test decl fit.kind)

not_empty-Is : {A : Type 0} (xs : List A) → IsTrue (not (is_empty xs)) → xs ≢ []
unfolding is_empty
not_empty-Is [] h = absurd (cc)
not_empty-Is (x ∷ xs) h = λ same. cc

Is-not_empty : {A : Type 0} (xs : List A) → xs ≢ [] → IsTrue (not (is_empty xs))
unfolding is_empty
Is-not_empty [] h = absurd (h refl)
Is-not_empty (x ∷ xs) h = refl

pub names_package-Is : (name : NameTree) (star : Option (Tok × Tok)) → IsTrue (names_package name star) → NamesPackage name star
unfolding names_package
names_package-Is name None h = not_empty-Is name.ids.rest h
names_package-Is name (Some star) h = tt

pub Is-names_package : (name : NameTree) (star : Option (Tok × Tok)) → NamesPackage name star → IsTrue (names_package name star)
unfolding names_package
Is-names_package name None h = Is-not_empty name.ids.rest h
Is-names_package name (Some star) h = refl
