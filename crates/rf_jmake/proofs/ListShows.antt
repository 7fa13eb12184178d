-- What lists of parts of statements show as.
use Rattle.std.proofs.Common.{◌≡◌, List, [], ◌∷◌, map, refl, ap}
use Rattle.rf_jtree.specs.declared.stmts.Catch.{Catch}
use Rattle.rf_jtree.specs.declared.stmts.Group.{Group}
use Rattle.rf_jtree.specs.declared.stmts.Stmt.{Stmt}
use Rattle.rf_jtree.specs.StmtShown.{stmt_shown, group_shown, catch_shown, stmts_tree, groups_tree, catches_tree, stmts_shown, groups_shown, catches_shown}
use Rattle.rf_jtree.specs.StmtTrees as t

pub stmts-shown : (list : List Stmt) → stmts_tree (map stmt_shown list) ≡ stmts_shown list
stmts-shown [] = refl
stmts-shown (stmt ∷ rest) = ap (t.Stmts (stmt_shown stmt)) (stmts-shown rest)

pub groups-shown : (list : List Group) → groups_tree (map group_shown list) ≡ groups_shown list
groups-shown [] = refl
groups-shown (group ∷ rest) = ap (t.Groups (group_shown group)) (groups-shown rest)

pub catches-shown : (list : List Catch) → catches_tree (map catch_shown list) ≡ catches_shown list
catches-shown [] = refl
catches-shown (part ∷ rest) = ap (t.Catches (catch_shown part)) (catches-shown rest)
