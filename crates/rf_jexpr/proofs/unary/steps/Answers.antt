use Rattle.std.proofs.Common.{◌+◌, ℕ, ap, arith}
use Rattle.rf_jtree.specs.ExprTrees.{Postfix}
use Rattle.rf_jmake.specs.ExprMade.{boxed_shown}
use Rattle.rf_jexpr.proofs.GrowthLemmas.{start-hand, next-hand, last-hand}
use Rattle.rf_jexpr.proofs.unary.steps.Goals as goal

pub steps-init : goal.steps-init
steps-init c = start-hand _ _ _ _ _ _ c.requires.within c.requires.known c.requires.shallow

pub steps-preserved : goal.steps-preserved
steps-preserved c =
    let tried = rw c.in-Some.is at c.in_ok-op.ensures in
    let taken = rw tried at c.step.ensures.gives in
    let shallow = rw tried at c.step.ensures.shallow in
    let known = ap (λ (n : ℕ). n + 1) c.steps.invariant.known in
    next-hand _ _ _ _ _ _ _ _ (Postfix (boxed_shown c.steps.operand.tree) c.in-Some.op.item) c.in-Some.op.end (c.steps.operand.depth + 1) _ _ _ c.steps.invariant taken.0 taken.1 taken.2 known (omega (arith, shallow)) (omega arith) c.in_ok-operand.ensures.0 c.in_ok-operand.ensures.1 c.in_ok-operand.ensures.2

pub returns : goal.returns
returns c =
    let missing = rw c.in_default.is at c.in_ok-op.ensures in
    let nothing = rw missing at c.step.ensures.gives in
    let hand = c.steps.invariant in
    (last-hand _ _ _ _ _ _ _ _ hand nothing, hand.forth, hand.within, hand.known, hand.shallow)
