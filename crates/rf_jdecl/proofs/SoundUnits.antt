-- What the readers of types, imports and files read fits, and is no deeper than the room.
use Rattle.std.proofs.Common.{◌≡◌, ℕ, ◌≤◌, List, [], ◌∷◌, ◌++◌, Some, IfSome, append-nil, refl, ap, ◌∙◌, arith}
use Rattle.std.specs.List.{flat_map}
use Rattle.rf_jtree.specs.declared.tokens.Tok.{Tok}
use Rattle.rf_jtree.specs.declared.operator_names.TheConstants.{LEFT_BRACE, RIGHT_BRACE, SEMICOLON, DOT, TIMES}
use Rattle.rf_jtree.specs.declared.keyword_names.TheConstants.{EXTENDS, IMPLEMENTS, IMPORT, PACKAGE}
use Rattle.rf_jtree.specs.DeclFits.{NamesFit, MemberFits, DeclFits, StarFits, ImportFits, PackageFits, UnitFits}
use Rattle.rf_jtree.specs.DeclTrees.{MemberTree, TypeDeclTree, UnitTree, names_yield, member_yield, decl_yield, import_yield, package_yield, unit_yield, member_depth, unit_depth}
use Rattle.rf_jtree.specs.Kinds.{IsOp, IsIdent, AreBraces}
use Rattle.rf_jtree.specs.NameFits.{EachFits, ModsFit}
use Rattle.rf_jtree.specs.NameTrees.{name_yield, mods_yield, tok_yield, pair_yield, option_yield, list_depth}
use Rattle.rf_jexpr.specs.NameReads.{name}
use Rattle.rf_jexpr.specs.Reads.{when, is_op, is_key, is_ident, token, optional, many}
use Rattle.rf_jexpr.proofs.LoopLemmas.{Read, IsSound, many-sound}
use Rattle.rf_jexpr.proofs.SoundNames.{token-sound, optional-sound, name-sound}
use Rattle.rf_jexpr.proofs.Tools.{bound, of_bind, token_takes, is_op-IsOp, is_key-IsKey, is_ident-IsIdent, by_some}
use Rattle.rf_jstmt.specs.StmtReads.{stmt_parsers}
use Rattle.rf_jstmt.proofs.SoundParts.{AreSoundStmts}
use Rattle.rf_jmods.proofs.Steps.{step_tok, step_part, step_when, done, tok_then, part_then, at_last, tok_last, max_le}
use Rattle.rf_jdecl.specs.DeclTests.{decl_fits, names_package}
use Rattle.rf_jdecl.specs.HeadReads.{fitting_mods, names_behind}
use Rattle.rf_jdecl.specs.MemberReads.{members}
use Rattle.rf_jdecl.specs.UnitReads.{begins_type, any_decl, type_decl, on_demand, import_decl, package_clause, front_unit, all_read, whole_unit}
use Rattle.rf_jdecl.proofs.DeclTestLemmas.{IsDecl, decl_fits-Is, names_package-Is}
use Rattle.rf_jdecl.proofs.SoundHeads.{fitting_mods-sound, optional_names-sound}
use Rattle.rf_jdecl.proofs.SoundMembers.{GoodMember, members-sound}

-- ---- members

members-fit : (room : ℕ) (list : List MemberTree) → EachFits (GoodMember room) list → EachFits MemberFits list
members-fit room [] each = tt
members-fit room (member ∷ rest) each = (each.0.fits, members-fit room rest each.1)

members-shallow : (room : ℕ) (list : List MemberTree) → EachFits (GoodMember room) list → list_depth member_depth list ≤ room
members-shallow room [] each = omega arith
members-shallow room (member ∷ rest) each = max_le _ _ room each.0.shallow (members-shallow room rest each.1)

-- ---- types

-- a type whose parts fit, whatever it asks of them
pub record HasParts (decl : TypeDeclTree) : Type 0 where
  pub mods_fit : ModsFit decl.mods
  pub id_is : IsIdent decl.id
  pub extends_fits : IfSome decl.extends (NamesFit EXTENDS)
  pub implements_fits : IfSome decl.implements (NamesFit IMPLEMENTS)
  pub braces : AreBraces decl.left decl.right
  pub members_fit : EachFits MemberFits decl.members

-- the same, no deeper than the room
record GoodParts (room : ℕ) (decl : TypeDeclTree) : Type 0 where
  fits : HasParts decl
  shallow : list_depth member_depth decl.members ≤ room

pub record GoodDecl (room : ℕ) (decl : TypeDeclTree) : Type 0 where
  pub fits : DeclFits decl
  pub shallow : list_depth member_depth decl.members ≤ room

with_kind : (decl : TypeDeclTree) → HasParts decl → IsDecl decl → DeclFits decl
with_kind decl parts is = record {
  mods_fit = parts.mods_fit;
  visible = is.visible;
  kind = is.kind;
  id_is = parts.id_is;
  extends_fits = parts.extends_fits;
  implements_fits = parts.implements_fits;
  braces = parts.braces;
  members_fit = parts.members_fit;
}

-- ---- imports and the package

on_demand-sound : IsSound StarFits pair_yield on_demand
unfolding on_demand
on_demand-sound toks y h =
    step_tok (is_op DOT) toks _ y h (λ dot a k.
    step_tok (is_op TIMES) dot.1 _ y k (λ times b same.
    done StarFits pair_yield toks (dot.0, times.0) times.1 y same (is_op-IsOp DOT dot.0 a.is, is_op-IsOp TIMES times.0 b.is) (tok_then a.takes (tok_last b.takes))))

import_decl-sound : IsSound ImportFits import_yield import_decl
unfolding import_decl
import_decl-sound toks y h =
    step_tok (is_key IMPORT) toks _ y h (λ word a k.
    step_part _ _ name word.1 _ y name-sound k (λ found b l.
    step_part _ _ (optional on_demand) found.1 _ y (optional-sound StarFits pair_yield on_demand on_demand-sound) l (λ star c n.
    elim (of_bind (when (names_package found.0 star.0) (token (is_op SEMICOLON) star.1)) _ _ n) [
      | bound semi semi_found same ↦ step_when (names_package found.0 star.0) _ semi semi_found (λ names semi_read.
          let d = token_takes (is_op SEMICOLON) star.1 semi semi_read in
          done ImportFits import_yield toks (record { word = word.0; name = found.0; star = star.0; semi = semi.0 }) semi.1 y same
          (record { word_is = is_key-IsKey IMPORT word.0 a.is; name_fits = b.fits; names_package = names_package-Is found.0 star.0 names; star_fits = c.fits; semi_is = is_op-IsOp SEMICOLON semi.0 d.is })
          (tok_then a.takes (part_then (name_yield found.0) b.takes (part_then (option_yield pair_yield star.0) c.takes (tok_last d.takes)))))
    ])))

package_clause-sound : IsSound PackageFits package_yield package_clause
unfolding package_clause
package_clause-sound toks y h =
    step_tok (is_key PACKAGE) toks _ y h (λ word a k.
    step_part _ _ name word.1 _ y name-sound k (λ found b l.
    step_tok (is_op SEMICOLON) found.1 _ y l (λ semi c same.
    done PackageFits package_yield toks (word.0, found.0, semi.0) semi.1 y same (is_key-IsKey PACKAGE word.0 a.is, b.fits, is_op-IsOp SEMICOLON semi.0 c.is) (tok_then a.takes (part_then (name_yield found.0) b.takes (tok_last c.takes))))))

-- the tokens of stray `;`s are themselves
pub same_toks : (toks : List Tok) → flat_map tok_yield toks ≡ toks
same_toks [] = refl
same_toks (tok ∷ toks) = ap (λ others. tok ∷ others) (same_toks toks)

-- ---- files

pub record GoodUnit (room : ℕ) (unit : UnitTree) : Type 0 where
  pub fits : UnitFits unit
  pub shallow : unit_depth unit ≤ room

module _ (m : ℕ) (s : AreSoundStmts m (stmt_parsers m)) where
  any_decl-sound : IsSound (GoodParts m) decl_yield (any_decl m)
  unfolding any_decl
  any_decl-sound toks y h =
      step_part _ _ fitting_mods toks _ y fitting_mods-sound h (λ found a k.
      step_tok begins_type found.1 _ y k (λ word b l.
      step_tok is_ident word.1 _ y l (λ id c n.
      step_part _ _ (optional (names_behind EXTENDS)) id.1 _ y (optional_names-sound EXTENDS) n (λ extended d o.
      step_part _ _ (optional (names_behind IMPLEMENTS)) extended.1 _ y (optional_names-sound IMPLEMENTS) o (λ implemented e q.
      step_tok (is_op LEFT_BRACE) implemented.1 _ y q (λ left f r.
      step_part _ _ (members m) left.1 _ y (members-sound m s) r (λ list g t.
      step_tok (is_op RIGHT_BRACE) list.1 _ y t (λ right i same.
      done (GoodParts m) decl_yield toks
      (record { mods = found.0; word = word.0; id = id.0; extends = extended.0; implements = implemented.0; left = left.0; members = list.0; right = right.0 }) right.1 y same
      (record {
        fits = record {
          mods_fit = a.fits;
          id_is = is_ident-IsIdent id.0 c.is;
          extends_fits = d.fits;
          implements_fits = e.fits;
          braces = (is_op-IsOp LEFT_BRACE left.0 f.is, is_op-IsOp RIGHT_BRACE right.0 i.is);
          members_fit = members-fit m list.0 g.fits;
        };
        shallow = members-shallow m list.0 g.fits;
      })
      (part_then (mods_yield found.0) a.takes (tok_then b.takes (tok_then c.takes (part_then (names_yield extended.0) d.takes (part_then (names_yield implemented.0) e.takes
      (tok_then f.takes (part_then (flat_map member_yield list.0) g.takes (tok_last i.takes))))))))))))))))

  type_decl-sound : IsSound (GoodDecl m) decl_yield (type_decl m)
  unfolding type_decl
  type_decl-sound toks y h =
      step_part _ _ (any_decl m) toks _ y any_decl-sound h (λ decl a k.
      step_when (decl_fits decl.0) _ y k (λ fit same.
      done (GoodDecl m) decl_yield toks decl.0 decl.1 y same (record { fits = with_kind decl.0 a.fits.fits (decl_fits-Is decl.0 fit); shallow = a.fits.shallow }) (at_last _ a.takes)))

  front_unit-sound : IsSound (GoodUnit m) unit_yield (front_unit m)
  unfolding front_unit
  front_unit-sound toks y h =
      step_part _ _ (optional package_clause) toks _ y (optional-sound PackageFits package_yield package_clause package_clause-sound) h (λ clause a k.
      step_part _ _ (many import_decl) clause.1 _ y (many-sound ImportFits import_yield import_decl import_decl-sound) k (λ imports b l.
      step_part _ _ (type_decl m) imports.1 _ y type_decl-sound l (λ decl c n.
      step_part _ _ (many (token (is_op SEMICOLON))) decl.1 _ y (many-sound (IsOp SEMICOLON) tok_yield _ (token-sound (IsOp SEMICOLON) (is_op SEMICOLON) (is_op-IsOp SEMICOLON))) n (λ semis d same.
      done (GoodUnit m) unit_yield toks (record { «package» = clause.0; imports = imports.0; decl = decl.0; semis = semis.0 }) semis.1 y same
      (record { fits = record { package_fits = a.fits; imports_fit = b.fits; decl_fits = c.fits.fits; semis_are = d.fits }; shallow = c.fits.shallow })
      (part_then (option_yield package_yield clause.0) a.takes (part_then (flat_map import_yield imports.0) b.takes (part_then (decl_yield decl.0) c.takes
      (at_last semis.0 (d.takes ∙ ap (λ front. front ++ semis.1) (same_toks semis.0))))))))))

  -- ---- all tokens

  pub record IsWhole (toks : List Tok) (unit : UnitTree) : Type 0 where
    pub good : GoodUnit m unit
    pub takes : toks ≡ unit_yield unit

  none_left : (toks : List Tok) (unit : UnitTree) (rest : List Tok) (y : UnitTree) → Read (GoodUnit m) unit_yield toks unit rest → all_read unit rest ≡ Some y → IsWhole toks y
  unfolding all_read
  none_left toks unit [] y known same =
      let all : IsWhole toks unit = record { good = known.fits; takes = known.takes ∙ append-nil (unit_yield unit) } in by_some (IsWhole toks) unit y same all
  none_left toks unit (tok ∷ rest) y known same = absurd (cc)

  pub whole_unit-sound : (toks : List Tok) (y : UnitTree) → whole_unit m toks ≡ Some y → IsWhole toks y
  unfolding whole_unit
  whole_unit-sound toks y h = step_part _ _ (front_unit m) toks _ y front_unit-sound h (λ found a k. none_left toks found.0 found.1 y a k)
