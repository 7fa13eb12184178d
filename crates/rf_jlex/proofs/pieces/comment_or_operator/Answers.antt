use Rattle.std.proofs.Common.{sym, subst}
use Rattle.rf_jlex.specs.Pieces.{GivesPiece}
use Rattle.rf_jlex.proofs.PieceLemmas.{opens_if, opens_not_if, line_given, no_line, block_given, no_block, only_operators_at_slash}
use Rattle.rf_jlex.proofs.pieces.comment_or_operator.Goals as goal

pub returns-in_err-length : goal.returns-in_err-length
returns-in_err-length c =
    let text = c.args.text.now in
    subst (GivesPiece text) (sym c.from_residual.ensures)
    (no_line text c.requires (opens_if text 47 c.starts_with.result c.starts_with.ensures.value c.if-starts_with.true) c.in_err-length.ensures)

pub returns-then-starts_with : goal.returns-then-starts_with
returns-then-starts_with c =
    let text = c.args.text.now in
    line_given text c.in_ok-length.length c.requires (opens_if text 47 c.starts_with.result c.starts_with.ensures.value c.if-starts_with.true) c.in_ok-length.ensures

pub returns-in_err-length-2 : goal.returns-in_err-length-2
returns-in_err-length-2 c =
    let text = c.args.text.now in
    subst (GivesPiece text) (sym c.from_residual-in_err-length-2.ensures)
    (no_block text c.requires (opens_if text 42 c.starts_with-2.result c.starts_with-2.ensures.value c.if-starts_with-2.true) c.in_err-length-2.ensures)

pub returns-then-starts_with-2 : goal.returns-then-starts_with-2
returns-then-starts_with-2 c =
    let text = c.args.text.now in
    block_given text c.in_ok-length-2.length c.requires (opens_if text 42 c.starts_with-2.result c.starts_with-2.ensures.value c.if-starts_with-2.true) c.in_ok-length-2.ensures

pub operator-requires : goal.operator-requires
operator-requires c =
    let text = c.args.text.now in
    only_operators_at_slash text c.requires
    (opens_not_if text 47 c.starts_with.result c.starts_with.ensures.value c.if-starts_with.false)
    (opens_not_if text 42 c.starts_with-2.result c.starts_with-2.ensures.value c.if-starts_with-2.false)
