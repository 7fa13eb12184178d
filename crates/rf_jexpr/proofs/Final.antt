-- What the readers of expressions answer, in the words of trees: no tokens have two trees.
use Rattle.std.proofs.Common.{◌≡◌, ℕ, ◌≤◌, max, List, [], ◌++◌, IsTrue, refl, ap, ◌∙◌, sym, arith}
use Rattle.rf_jtree.specs.declared.tokens.Tok.{Tok}
use Rattle.rf_jtree.specs.declared.levels.TheConstants.{ASSIGNMENT_LEVEL}
use Rattle.rf_jtree.specs.ExprFits.{ExprFits}
use Rattle.rf_jtree.specs.ExprTrees.{ExprTree, expr_yield, expr_depth}
use Rattle.rf_jfit.proofs.ExprFirstLemmas.{expr_begins}
use Rattle.rf_jexpr.specs.Descent.{parsers}
use Rattle.rf_jexpr.specs.Reads.{begins}
use Rattle.rf_jexpr.specs.Stops.{begins_expr}
use Rattle.rf_jexpr.proofs.CompleteRooms.{parsers-complete}
use Rattle.rf_jexpr.proofs.First.{expr_first-begins}
use Rattle.rf_jexpr.proofs.SoundParts.{Good}
use Rattle.rf_jexpr.proofs.StopLemmas.{stops_end}
use Rattle.rf_jexpr.proofs.Tools.{by_some}

-- ---- no tokens have two trees

pub good_in : (room : ℕ) (tree : ExprTree) → ExprFits tree → expr_depth tree ≤ room → Good ASSIGNMENT_LEVEL room tree
good_in room tree fit shallow = record { fits = fit; binds = omega arith; shallow = shallow }

pub one_tree : (one other : ExprTree) → ExprFits one → ExprFits other → expr_yield one ≡ expr_yield other → one ≡ other
one_tree one other fit other_fit same =
    let room : ℕ = max (expr_depth one) (expr_depth other) in
    let exact = (parsers-complete room).expr.exact in
    let first = exact one [] (good_in room one fit (omega arith)) (stops_end ASSIGNMENT_LEVEL) in
    let second = exact other [] (good_in room other other_fit (omega arith)) (stops_end ASSIGNMENT_LEVEL) in
    let tokens : expr_yield one ++ [] ≡ expr_yield other ++ [] = ap (λ toks. toks ++ []) same in
    by_some (λ (found : ExprTree × List Tok). one ≡ found.0) (one, []) (other, []) (sym first ∙ ap (parsers room).expr tokens ∙ second) refl

-- ---- what expressions begin with

pub begins_so : (tree : ExprTree) → ExprFits tree → IsTrue (begins begins_expr (expr_yield tree))
unfolding begins
begins_so tree fit = rw (expr_begins tree).parts (expr_first-begins tree fit)
