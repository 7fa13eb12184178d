-- What lists of parts of statements show as, and how deep they are.
use Rattle.std.proofs.Common.{◌≡◌, ◌≤◌, max, List, [], ◌∷◌, length, map, true, refl, ap, arith}
use Rattle.rf_jtree.specs.declared.stmts.Catch.{Catch}
use Rattle.rf_jtree.specs.NameTrees.{list_depth}
use Rattle.rf_jtree.specs.StmtShown.{catch_shown, stmts_tree, groups_tree, catches_tree}
use Rattle.rf_jtree.specs.StmtTrees.{StmtTree, GroupTree, CatchTree, LastTree, stmt_depth, group_depth, catch_depth, stmts_depth, groups_depth, catches_depth}
use Rattle.rf_jtree.specs.StmtTrees as t
use Rattle.rf_jstmt.specs.StmtReads.{has_part}

pub stmts-depth : (list : List StmtTree) → stmts_depth (stmts_tree list) ≡ list_depth stmt_depth list
stmts-depth [] = refl
stmts-depth (stmt ∷ rest) = ap (max (stmt_depth stmt)) (stmts-depth rest)

pub groups-depth : (list : List GroupTree) → groups_depth (groups_tree list) ≡ list_depth group_depth list
groups-depth [] = refl
groups-depth (group ∷ rest) = ap (max (group_depth group)) (groups-depth rest)

pub catches-depth : (list : List CatchTree) → catches_depth (catches_tree list) ≡ list_depth catch_depth list
catches-depth [] = refl
catches-depth (part ∷ rest) = ap (max (catch_depth part)) (catches-depth rest)

-- a `try` with a catch clause has one of its other parts
pub has_part-some : (list : List Catch) (last : LastTree) → 1 ≤ length list → true ≡ has_part (catches_tree (map catch_shown list)) last
unfolding has_part
has_part-some [] last h = absurd (omega arith)
has_part-some (part ∷ rest) last h = refl
