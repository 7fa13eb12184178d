-- Types, imports and files are read where they stand, where statements are.
use Rattle.std.proofs.Common.{◌≡◌, ℕ, ◌≤◌, List, [], ◌∷◌, ◌++◌, Option, Some, None, false, IsTrue, IfSome, ◌⊎◌, inl, inr, append-nil, refl, ◌∙◌, sym, subst, arith, append_assoc}
use Rattle.std.specs.List.{flat_map}
use Rattle.rf_jtree.specs.declared.tokens.Tok.{Tok}
use Rattle.rf_jtree.specs.declared.words.Kw.{Kw}
use Rattle.rf_jtree.specs.declared.operator_names.TheConstants.{LEFT_BRACE, RIGHT_BRACE, SEMICOLON, DOT, TIMES}
use Rattle.rf_jtree.specs.declared.keyword_names.TheConstants.{CLASS, EXTENDS, IMPLEMENTS, IMPORT, INTERFACE, PACKAGE, MODIFIERS}
use Rattle.rf_jtree.specs.DeclFits.{NamesFit, MemberFits, IsClass, IsInterface, DeclFits, StarFits, ImportFits, PackageFits}
use Rattle.rf_jtree.specs.DeclTrees.{MemberTree, TypeDeclTree, ImportTree, UnitTree, names_yield, member_yield, decl_yield, import_yield, package_yield, unit_yield, member_depth}
use Rattle.rf_jtree.specs.Kinds.{IsOp, IsKey, IsIdent, has_key}
use Rattle.rf_jtree.specs.NameFits.{EachFits, ModFits, NameFits}
use Rattle.rf_jtree.specs.NameTrees.{ManyTree, NameTree, ModTree, Word, Mark, Suppress, name_yield, mod_yield, mods_yield, tok_yield, pair_yield, option_yield, list_depth}
use Rattle.rf_jexpr.specs.NameReads.{name}
use Rattle.rf_jexpr.specs.Reads.{is_op, is_key, is_ident, begins, token, optional, behind, many}
use Rattle.rf_jexpr.proofs.CompleteNames.{Anything}
use Rattle.rf_jexpr.proofs.CompleteParts.{reads-same}
use Rattle.rf_jexpr.proofs.LoopLemmas.{IsExact, many-exact, separated-exact}
use Rattle.rf_jexpr.proofs.Tools.{bind-Some, bind-None, when-true, token-at, token-other, optional-Some, optional-None, IsOp-is_op, IsKey-is_key, IsIdent-is_ident}
use Rattle.rf_jstmt.specs.StmtReads.{stmt_parsers}
use Rattle.rf_jmods.proofs.ExactMods.{NoMod}
use Rattle.rf_jstmt.proofs.ExactParts.{AreExactStmts}
use Rattle.rf_jmods.proofs.ModTestLemmas.{first_true, second_true}
use Rattle.rf_jdecl.specs.UnitReads.{begins_type, any_decl, type_decl, on_demand, import_decl, package_clause, front_unit, all_read, whole_unit}
use Rattle.rf_jdecl.proofs.DeclTestLemmas.{Is-decl_fits, Is-names_package}
use Rattle.rf_jdecl.proofs.ExactHeads.{EndsNames, fitting_mods-exact, optional_names-exact}
use Rattle.rf_jdecl.proofs.ExactMembers.{members-exact}
use Rattle.rf_jdecl.proofs.Firsts.{other_key, key_no_mod}
use Rattle.rf_jdecl.proofs.SoundMembers.{GoodMember}
use Rattle.rf_jdecl.proofs.SoundUnits.{GoodDecl, GoodUnit, same_toks}

-- ---- what a type begins with

type_word : (decl : TypeDeclTree) → (IsClass decl) ⊎ (IsInterface decl) → (IsKey CLASS decl.word) ⊎ (IsKey INTERFACE decl.word)
type_word decl (inl one) = inl one.word_is
type_word decl (inr other) = inr other.word_is

word_begins_type : (tok : Tok) → (IsKey CLASS tok) ⊎ (IsKey INTERFACE tok) → IsTrue (begins_type tok)
unfolding begins_type
word_begins_type tok (inl one) = first_true (is_key CLASS tok) _ (IsKey-is_key CLASS tok one)
word_begins_type tok (inr other) = second_true (is_key CLASS tok) _ (IsKey-is_key INTERFACE tok other)

word_no_mod : (tok : Tok) (rest : List Tok) → (IsKey CLASS tok) ⊎ (IsKey INTERFACE tok) → NoMod (tok ∷ rest)
word_no_mod tok rest (inl one) = key_no_mod CLASS refl tok rest one
word_no_mod tok rest (inr other) = key_no_mod INTERFACE refl tok rest other

-- a keyword that begins no type
word_differs : (key : Kw) → has_key (CLASS ∷ INTERFACE ∷ []) key ≡ false → (tok : Tok) (rest : List Tok) → (IsKey CLASS tok) ⊎ (IsKey INTERFACE tok) → begins (is_key key) (tok ∷ rest) ≡ false
unfolding begins
word_differs key none tok rest (inl one) = other_key (CLASS ∷ INTERFACE ∷ []) key none tok (rw one refl)
word_differs key none tok rest (inr other) = other_key (CLASS ∷ INTERFACE ∷ []) key none tok (rw other refl)

mod_differs : (key : Kw) → has_key MODIFIERS key ≡ false → (one : ModTree) (rest : List Tok) → ModFits one → begins (is_key key) (mod_yield one ++ rest) ≡ false
unfolding begins is_key
mod_differs key none (Word tok) rest fit = other_key MODIFIERS key none tok fit
mod_differs key none (Mark at id pair) rest fit = rw fit.0 refl
mod_differs key none (Suppress at id left list right) rest fit = rw fit.0.at_is refl

mods_differ : (key : Kw) → has_key MODIFIERS key ≡ false → (mods : List ModTree) (rest : List Tok) → EachFits ModFits mods → begins (is_key key) rest ≡ false → begins (is_key key) (mods_yield mods ++ rest) ≡ false
mods_differ key none [] rest fit h = h
mods_differ key none (one ∷ mods) rest fit h = subst (λ toks. begins (is_key key) toks ≡ false) (sym (append_assoc (mod_yield one) (mods_yield mods) rest)) (mod_differs key none one (mods_yield mods ++ rest) fit.0)

-- the tokens of a type, with what stands behind it
decl_tokens : (decl : TypeDeclTree) (rest : List Tok)
    → decl_yield decl ++ rest ≡ mods_yield decl.mods ++ decl.word ∷ decl.id ∷ (names_yield decl.extends ++ (names_yield decl.implements ++ decl.left ∷ (flat_map member_yield decl.members ++ decl.right ∷ rest)))
decl_tokens decl rest = simp append_assoc

decl_differs : (key : Kw) → has_key MODIFIERS key ≡ false → has_key (CLASS ∷ INTERFACE ∷ []) key ≡ false → (decl : TypeDeclTree) (rest : List Tok) → DeclFits decl → begins (is_key key) (decl_yield decl ++ rest) ≡ false
decl_differs key none no_type decl rest fit =
    subst (λ toks. begins (is_key key) toks ≡ false) (sym (decl_tokens decl rest)) (mods_differ key none decl.mods _ fit.mods_fit.each (word_differs key no_type decl.word _ (type_word decl fit.kind)))

-- ---- the names in its head

-- what ends names, and is no such keyword
record EndsHead (key : Kw) (toks : List Tok) : Type 0 where
  ends : EndsNames toks
  differs : begins (is_key key) toks ≡ false

brace_ends_head : (key : Kw) (tok : Tok) (rest : List Tok) → IsOp LEFT_BRACE tok → EndsHead key (tok ∷ rest)
unfolding begins is_op is_key
brace_ends_head key tok rest h = record { ends = record { no_dot = rw h refl; no_comma = rw h refl }; differs = rw h refl }

names_end_head : (found : Option (Tok × ManyTree NameTree)) (left : Tok) (rest : List Tok) → IfSome found (NamesFit IMPLEMENTS) → IsOp LEFT_BRACE left → EndsHead EXTENDS (names_yield found ++ left ∷ rest)
unfolding begins is_op is_key
names_end_head None left rest fit is = brace_ends_head EXTENDS left rest is
names_end_head (Some found) left rest fit is = record { ends = record { no_dot = rw fit.0 refl; no_comma = rw fit.0 refl }; differs = rw fit.0 refl }

-- ---- imports and the package

on_demand-exact : IsExact StarFits Anything pair_yield on_demand
unfolding on_demand
on_demand-exact star rest fit stop =
    bind-Some _ _ _ _ (token-at (is_op DOT) star.0 (star.1 ∷ rest) (IsOp-is_op DOT star.0 fit.0))
    (bind-Some _ _ _ _ (token-at (is_op TIMES) star.1 rest (IsOp-is_op TIMES star.1 fit.1)) refl)

semi_no_dot : (tok : Tok) (rest : List Tok) → IsOp SEMICOLON tok → begins (is_op DOT) (tok ∷ rest) ≡ false
unfolding begins is_op
semi_no_dot tok rest h = rw h refl

star-exact : (star : Option (Tok × Tok)) (semi : Tok) (rest : List Tok) → IfSome star StarFits → IsOp SEMICOLON semi → optional on_demand (option_yield pair_yield star ++ semi ∷ rest) ≡ Some (star, semi ∷ rest)
unfolding on_demand
star-exact None semi rest fit is = optional-None _ _ (bind-None _ _ (token-other (is_op DOT) (semi ∷ rest) (semi_no_dot semi rest is)))
star-exact (Some star) semi rest fit is = optional-Some _ _ star (semi ∷ rest) (on_demand-exact star (semi ∷ rest) fit tt)

times_no_ident : (tok : Tok) (rest : List Tok) → IsOp TIMES tok → begins is_ident (tok ∷ rest) ≡ false
unfolding begins is_ident
times_no_ident tok rest h = rw h refl

-- no identifier of the name stands there
name_ends : (star : Option (Tok × Tok)) (semi : Tok) (rest : List Tok) → IfSome star StarFits → IsOp SEMICOLON semi → behind (is_op DOT) (token is_ident) (option_yield pair_yield star ++ semi ∷ rest) ≡ None
unfolding behind
name_ends None semi rest fit is = bind-None _ _ (token-other (is_op DOT) (semi ∷ rest) (semi_no_dot semi rest is))
name_ends (Some star) semi rest fit is =
    bind-Some _ _ _ _ (token-at (is_op DOT) star.0 (star.1 ∷ semi ∷ rest) (IsOp-is_op DOT star.0 fit.0)) (bind-None _ _ (token-other is_ident (star.1 ∷ semi ∷ rest) (times_no_ident star.1 _ fit.1)))

id-exact : IsExact IsIdent Anything tok_yield (token is_ident)
id-exact tok rest fit stop = token-at is_ident tok rest (IsIdent-is_ident tok fit)

name_before : (found : NameTree) (rest : List Tok) → NameFits found → behind (is_op DOT) (token is_ident) rest ≡ None → name (name_yield found ++ rest) ≡ Some (found, rest)
unfolding name
name_before found rest fit none = bind-Some _ _ _ _ (separated-exact IsIdent Anything tok_yield DOT (token is_ident) id-exact (λ tok others is. tt) found.ids rest fit (tt, none)) refl

import_decl-exact : IsExact ImportFits Anything import_yield import_decl
unfolding import_decl
import_decl-exact found rest fit stop =
    let tokens : import_yield found ++ rest ≡ found.word ∷ (name_yield found.name ++ (option_yield pair_yield found.star ++ found.semi ∷ rest)) = simp append_assoc in
    reads-same import_decl tokens
    (bind-Some _ _ _ _ (token-at (is_key IMPORT) found.word _ (IsKey-is_key IMPORT found.word fit.word_is))
    (bind-Some _ _ _ _ (name_before found.name _ fit.name_fits (name_ends found.star found.semi rest fit.star_fits fit.semi_is))
    (bind-Some _ _ _ _ (star-exact found.star found.semi rest fit.star_fits fit.semi_is)
    (bind-Some _ _ _ _ (when-true _ _ (Is-names_package found.name found.star fit.names_package) ∙ token-at (is_op SEMICOLON) found.semi rest (IsOp-is_op SEMICOLON found.semi fit.semi_is)) refl))))

package_clause-exact : IsExact PackageFits Anything package_yield package_clause
unfolding package_clause behind
package_clause-exact found rest fit stop =
    let tokens : package_yield found ++ rest ≡ found.0 ∷ (name_yield found.1 ++ found.2 ∷ rest) = simp append_assoc in
    let ends : behind (is_op DOT) (token is_ident) (found.2 ∷ rest) ≡ None = bind-None _ _ (token-other (is_op DOT) (found.2 ∷ rest) (semi_no_dot found.2 rest fit.2)) in
    reads-same package_clause tokens
    (bind-Some _ _ _ _ (token-at (is_key PACKAGE) found.0 _ (IsKey-is_key PACKAGE found.0 fit.0))
    (bind-Some _ _ _ _ (name_before found.1 _ fit.1 ends)
    (bind-Some _ _ _ _ (token-at (is_op SEMICOLON) found.2 rest (IsOp-is_op SEMICOLON found.2 fit.2)) refl)))

imports_differ : (imports : List ImportTree) (decl : TypeDeclTree) (rest : List Tok) → EachFits ImportFits imports → DeclFits decl → begins (is_key PACKAGE) (flat_map import_yield imports ++ (decl_yield decl ++ rest)) ≡ false
unfolding begins is_key
imports_differ [] decl rest fit decl_fit = decl_differs PACKAGE refl refl decl rest decl_fit
imports_differ (found ∷ imports) decl rest fit decl_fit = rw fit.0.word_is refl

-- ---- in a room

-- each member is no deeper than the deepest
members_good : (room : ℕ) (list : List MemberTree) → EachFits MemberFits list → list_depth member_depth list ≤ room → EachFits (GoodMember room) list
members_good room [] fit shallow = tt
members_good room (found ∷ list) fit shallow = (record { fits = fit.0; shallow = omega arith }, members_good room list fit.1 (omega arith))

module _ (m : ℕ) (e : AreExactStmts m (stmt_parsers m)) where
  any_decl-exact : IsExact (GoodDecl m) Anything decl_yield (any_decl m)
  unfolding any_decl
  any_decl-exact decl rest good stop =
      let fit = good.fits in
      let word_is = type_word decl fit.kind in
      let implemented = names_end_head decl.implements decl.left (flat_map member_yield decl.members ++ decl.right ∷ rest) fit.implements_fits fit.braces.0 in
      let opened = brace_ends_head IMPLEMENTS decl.left (flat_map member_yield decl.members ++ decl.right ∷ rest) fit.braces.0 in
      reads-same (any_decl m) (decl_tokens decl rest)
      (bind-Some _ _ _ _ (fitting_mods-exact decl.mods _ fit.mods_fit (word_no_mod decl.word _ word_is))
      (bind-Some _ _ _ _ (token-at begins_type decl.word _ (word_begins_type decl.word word_is))
      (bind-Some _ _ _ _ (token-at is_ident decl.id _ (IsIdent-is_ident decl.id fit.id_is))
      (bind-Some _ _ _ _ (optional_names-exact EXTENDS decl.extends _ fit.extends_fits implemented.ends implemented.differs)
      (bind-Some _ _ _ _ (optional_names-exact IMPLEMENTS decl.implements _ fit.implements_fits opened.ends opened.differs)
      (bind-Some _ _ _ _ (token-at (is_op LEFT_BRACE) decl.left _ (IsOp-is_op LEFT_BRACE decl.left fit.braces.0))
      (bind-Some _ _ _ _ (members-exact m e decl.members decl.right rest (members_good m decl.members fit.members_fit good.shallow) fit.braces.1)
      (bind-Some _ _ _ _ (token-at (is_op RIGHT_BRACE) decl.right rest (IsOp-is_op RIGHT_BRACE decl.right fit.braces.1)) refl))))))))

  type_decl-exact : IsExact (GoodDecl m) Anything decl_yield (type_decl m)
  unfolding type_decl
  type_decl-exact decl rest good stop =
      bind-Some _ _ _ _ (any_decl-exact decl rest good tt) (when-true _ _ (Is-decl_fits decl (record { visible = good.fits.visible; kind = good.fits.kind })))

  -- ---- files

  package-exact : (clause : Option (Tok × NameTree × Tok)) (rest : List Tok) → IfSome clause PackageFits → begins (is_key PACKAGE) rest ≡ false → optional package_clause (option_yield package_yield clause ++ rest) ≡ Some (clause, rest)
  unfolding package_clause
  package-exact None rest fit differs = optional-None _ _ (bind-None _ _ (token-other (is_key PACKAGE) rest differs))
  package-exact (Some clause) rest fit differs = optional-Some _ _ clause rest (package_clause-exact clause rest fit tt)

  no_import : (decl : TypeDeclTree) (rest : List Tok) → DeclFits decl → import_decl (decl_yield decl ++ rest) ≡ None
  unfolding import_decl
  no_import decl rest fit = bind-None _ _ (token-other (is_key IMPORT) _ (decl_differs IMPORT refl refl decl rest fit))

  imports-exact : (imports : List ImportTree) (decl : TypeDeclTree) (rest : List Tok) → EachFits ImportFits imports → DeclFits decl → many import_decl (flat_map import_yield imports ++ (decl_yield decl ++ rest)) ≡ Some (imports, decl_yield decl ++ rest)
  imports-exact imports decl rest fit decl_fit =
      many-exact ImportFits Anything import_yield import_decl import_decl-exact (λ found others is. tt) (λ found is. omega arith) imports (decl_yield decl ++ rest) fit (tt, no_import decl rest decl_fit)

  semi-exact : IsExact (IsOp SEMICOLON) Anything tok_yield (token (is_op SEMICOLON))
  semi-exact tok rest fit stop = token-at (is_op SEMICOLON) tok rest (IsOp-is_op SEMICOLON tok fit)

  semis-exact : (semis : List Tok) → EachFits (IsOp SEMICOLON) semis → many (token (is_op SEMICOLON)) semis ≡ Some (semis, [])
  unfolding token
  semis-exact semis fit =
      reads-same (many (token (is_op SEMICOLON))) (sym (append-nil (flat_map tok_yield semis) ∙ same_toks semis))
      (many-exact (IsOp SEMICOLON) Anything tok_yield (token (is_op SEMICOLON)) semi-exact (λ tok others is. tt) (λ tok is. omega arith) semis [] fit (tt, refl))

  front_unit-exact : (unit : UnitTree) → GoodUnit m unit → front_unit m (unit_yield unit) ≡ Some (unit, [])
  unfolding front_unit
  front_unit-exact unit good =
      let fit = good.fits in
      bind-Some _ _ _ _ (package-exact unit.package _ fit.package_fits (imports_differ unit.imports unit.decl unit.semis fit.imports_fit fit.decl_fits))
      (bind-Some _ _ _ _ (imports-exact unit.imports unit.decl unit.semis fit.imports_fit fit.decl_fits)
      (bind-Some _ _ _ _ (type_decl-exact unit.decl unit.semis (record { fits = fit.decl_fits; shallow = good.shallow }) tt)
      (bind-Some _ _ _ _ (semis-exact unit.semis fit.semis_are) refl)))

  -- A file that fits and is no deeper than the room is what is read of its tokens.
  pub whole_unit-exact : (unit : UnitTree) → GoodUnit m unit → whole_unit m (unit_yield unit) ≡ Some unit
  unfolding whole_unit all_read
  whole_unit-exact unit good = bind-Some _ _ _ _ (front_unit-exact unit good) refl
