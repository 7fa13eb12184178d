-- Tests of expressions, and how deep lists of parts are.
use Rattle.std.proofs.Common.{◌≡◌, max, List, [], ◌∷◌, Bool, true, false, IsTrue, ◌↔◌, refl, ap, sym}
use Rattle.rf_jtree.specs.declared.tokens.Tok.{Tok}
use Rattle.rf_jtree.specs.ExprFits.{IsLeftSide, IsNoName, IsNoNewArray}
use Rattle.rf_jtree.specs.ExprShown.{more_exprs_tree, more_inits_tree, sizes_tree}
use Rattle.rf_jtree.specs.ExprTrees.{ExprTree, Name, Field, Super, NoArgs, Index, NewArray, InitTree, more_exprs_depth, more_inits_depth, sizes_depth}
use Rattle.rf_jtree.specs.NameTrees.{list_depth}
use Rattle.rf_jexpr.specs.Descent.{is_left_side}
use Rattle.rf_jexpr.specs.Made.{item_depth, init_item_depth, size_depth}
use Rattle.rf_jexpr.specs.PrimaryReads.{is_no_name, is_no_new_array}

-- ---- lists of parts

pub more_exprs-depth : (rest : List (Tok × ExprTree)) → more_exprs_depth (more_exprs_tree rest) ≡ list_depth item_depth rest
more_exprs-depth [] = refl
more_exprs-depth (item ∷ rest) = ap (max (item_depth item)) (more_exprs-depth rest)

pub more_inits-depth : (rest : List (Tok × InitTree)) → more_inits_depth (more_inits_tree rest) ≡ list_depth init_item_depth rest
more_inits-depth [] = refl
more_inits-depth (item ∷ rest) = ap (max (init_item_depth item)) (more_inits-depth rest)

pub sizes-depth : (sizes : List (Tok × ExprTree × Tok)) → sizes_depth (sizes_tree sizes) ≡ list_depth size_depth sizes
sizes-depth [] = refl
sizes-depth (size ∷ rest) = ap (max (size_depth size)) (sizes-depth rest)

-- ---- tests

same_tests : (one other : Bool) → (IsTrue one → IsTrue other) → (IsTrue other → IsTrue one) → one ≡ other
same_tests true true h k = refl
same_tests true false h k = sym (h refl)
same_tests false true h k = k refl
same_tests false false h k = refl

no_name-is : (tree : ExprTree) → IsTrue (is_no_name tree) ↔ IsNoName tree
unfolding is_no_name
no_name-is (Name found) = (λ h. cc, λ h. absurd h)
no_name-is tree = (λ h. tt, λ h. refl)

pub no_name-exact : (found : Bool) (tree : ExprTree) → (IsTrue found ↔ IsNoName tree) → found ≡ is_no_name tree
no_name-exact found tree h = same_tests found (is_no_name tree) (λ r. (no_name-is tree).1 (h.0 r)) (λ r. h.1 ((no_name-is tree).0 r))

no_new_array-is : (tree : ExprTree) → IsTrue (is_no_new_array tree) ↔ IsNoNewArray tree
unfolding is_no_new_array
no_new_array-is (NewArray word base sizes dims) = (λ h. cc, λ h. absurd h)
no_new_array-is tree = (λ h. tt, λ h. refl)

pub no_new_array-exact : (found : Bool) (tree : ExprTree) → (IsTrue found ↔ IsNoNewArray tree) → found ≡ is_no_new_array tree
no_new_array-exact found tree h = same_tests found (is_no_new_array tree) (λ r. (no_new_array-is tree).1 (h.0 r)) (λ r. h.1 ((no_new_array-is tree).0 r))

left_side-is : (tree : ExprTree) → IsTrue (is_left_side tree) ↔ IsLeftSide tree
unfolding is_left_side
left_side-is (Name found) = (λ h. tt, λ h. refl)
left_side-is (Field operand dot id) = (λ h. tt, λ h. refl)
left_side-is (Super word dot id NoArgs) = (λ h. tt, λ h. refl)
left_side-is (Index operand left index right) = (λ h. tt, λ h. refl)
left_side-is tree = (λ h. cc, λ h. absurd h)

pub left_side-exact : (found : Bool) (tree : ExprTree) → (IsTrue found ↔ IsLeftSide tree) → found ≡ is_left_side tree
left_side-exact found tree h = same_tests found (is_left_side tree) (λ r. (left_side-is tree).1 (h.0 r)) (λ r. h.1 ((left_side-is tree).0 r))
