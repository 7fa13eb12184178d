use Rattle.std.proofs.Common.{◌≡◌, ◌+◌, ◌-◌, ◌<◌, ◌≤◌, ◌++◌, ℕ, List, [], length, sym, ap, ◌∙◌, subst, arith}
use Rattle.rf_refute.specs.declared.nodes.Node.{Node}
use Rattle.rf_proof.specs.Lines.{IsBadLine}
use Rattle.rf_proof.specs.Texts.{version_line}
use Rattle.rf_proof.proofs.Endings.{is_nil, is_no_nil, reads_memory}
use Rattle.rf_proof.proofs.Loops.{ReadTo, read_more, node_missing, node_left_over, whole_read}
use Rattle.rf_proof.proofs.reading.tree_behind.Goals as goal

pub returns-in_err-first_node : goal.returns-in_err-first_node
returns-in_err-first_node c = reads_memory (version_line ++ c.args.text.now) c.from_residual.result c.from_residual.ensures

pub returns-in-None : goal.returns-in-None
returns-in-None c =
    let none = rw c.in-None.is at c.in_ok-first_node.ensures in
    subst (λ (k : ℕ). IsBadLine (version_line ++ c.args.text.now) (k + 2)) (sym c.len.ensures)
    (node_missing c.args.text.now c.loop-wanted.nodes c.loop-wanted.wanted c.loop-wanted.left.now c.loop-wanted.invariant c.loop-wanted-test.true none)

pub returns-in_err-push-in-Some : goal.returns-in_err-push-in-Some
returns-in_err-push-in-Some c =
    reads_memory (version_line ++ c.args.text.now) c.from_residual-in_err-push-in-Some.result c.from_residual-in_err-push-in-Some.ensures

pub loop-wanted-preserved : goal.loop-wanted-preserved
loop-wanted-preserved c =
    let has = rw c.in-Some.is at c.in_ok-first_node.ensures in
    let now = (c.loop-wanted.wanted - 1) + c.children.result in
    subst (λ (nodes : List Node). ReadTo c.args.text.now nodes now c.in-Some.rest.now) (sym c.in_ok-push-in-Some.ensures.ok)
    (read_more c.args.text.now c.loop-wanted.nodes c.loop-wanted.wanted c.loop-wanted.left.now c.in-Some.node c.in-Some.rest.now now
    c.loop-wanted.invariant c.loop-wanted-test.true has (ap (λ (k : ℕ). (c.loop-wanted.wanted - 1) + k) c.children.ensures))

pub returns-then-is_empty : goal.returns-then-is_empty
returns-then-is_empty c =
    whole_read c.args.text.now c.loop-wanted.nodes c.loop-wanted.wanted c.loop-wanted.left.now c.loop-wanted.invariant (omega (arith, c.loop-wanted-test.false))
    (is_nil c.loop-wanted.left.now c.is_empty.result c.is_empty.ensures c.if-is_empty.true)

pub returns : goal.returns
returns c =
    subst (λ (k : ℕ). IsBadLine (version_line ++ c.args.text.now) (k + 2)) (sym c.len-2.ensures)
    (node_left_over c.args.text.now c.loop-wanted.nodes c.loop-wanted.wanted c.loop-wanted.left.now c.loop-wanted.invariant (omega (arith, c.loop-wanted-test.false))
    (is_no_nil c.loop-wanted.left.now c.is_empty.result c.is_empty.ensures c.if-is_empty.false))
