-- What the reader of files answers, in the words of trees: no tokens have two trees, and the answer is the one that has all of
-- them.
use Rattle.std.proofs.Common.{◌≡◌, ℕ, max, List, Some, None, refl, ap, ◌∙◌, sym, arith}
use Rattle.rf_jtree.specs.declared.tokens.Tok.{Tok}
use Rattle.rf_jtree.specs.DeclFits.{UnitFits}
use Rattle.rf_jtree.specs.DeclTrees.{UnitTree, unit_yield, unit_depth}
use Rattle.rf_jstmt.specs.StmtReads.{stmt_parsers}
use Rattle.rf_jstmt.proofs.Exact.{stmt_parsers-exact}
use Rattle.rf_jstmt.proofs.ExactParts.{AreExactStmts}
use Rattle.rf_jstmt.proofs.SoundStmts.{stmt_parsers-sound}
use Rattle.rf_jdecl.specs.Files.{IsTreeOf, NoTreeHas, NoOtherHas}
use Rattle.rf_jdecl.specs.UnitReads.{ROOM, whole_unit, unit}
use Rattle.rf_jdecl.proofs.ExactUnits.{whole_unit-exact}
use Rattle.rf_jdecl.proofs.SoundUnits.{whole_unit-sound}

-- ---- in any room

stmts_exact : (room : ℕ) → AreExactStmts room (stmt_parsers room)
stmts_exact room = stmt_parsers-exact room

-- what is read fits and has all tokens
pub tree_read : (room : ℕ) (toks : List Tok) (tree : UnitTree) → whole_unit room toks ≡ Some tree → IsTreeOf toks room tree
tree_read room toks tree found =
    let whole = whole_unit-sound room (stmt_parsers-sound room) toks tree found in
    record { fits = whole.good.fits; shallow = whole.good.shallow; yields = sym whole.takes }

-- and each such tree is read
pub reads_tree : (room : ℕ) (toks : List Tok) (tree : UnitTree) → IsTreeOf toks room tree → whole_unit room toks ≡ Some tree
reads_tree room toks tree is = ap (whole_unit room) (sym is.yields) ∙ whole_unit-exact room (stmts_exact room) tree (record { fits = is.fits; shallow = is.shallow })

-- ---- no tokens have two trees

same_some : {A : Type 0} (one other : A) → Some one ≡ Some other → one ≡ other
same_some one other h = cc

pub one_file : (one other : UnitTree) → UnitFits one → UnitFits other → unit_yield one ≡ unit_yield other → one ≡ other
one_file one other fit other_fit same =
    let room : ℕ = max (unit_depth one) (unit_depth other) in
    let first = reads_tree room (unit_yield one) one (record { fits = fit; shallow = omega arith; yields = refl }) in
    let second = reads_tree room (unit_yield one) other (record { fits = other_fit; shallow = omega arith; yields = sym same }) in
    same_some one other (sym first ∙ second)

-- ---- the answer

pub tree_of : (toks : List Tok) (tree : UnitTree) → unit toks ≡ Some tree → IsTreeOf toks ROOM tree
unfolding unit
tree_of toks tree found = tree_read ROOM toks tree found

pub no_other : (toks : List Tok) (tree : UnitTree) → unit toks ≡ Some tree → NoOtherHas toks tree
no_other toks tree found other fit yields = let is = tree_of toks tree found in one_file other tree fit is.fits (yields ∙ sym is.yields)

pub no_tree : (toks : List Tok) → unit toks ≡ None → NoTreeHas toks ROOM
unfolding unit
no_tree toks missing other is = let found = reads_tree ROOM toks other is in cc
