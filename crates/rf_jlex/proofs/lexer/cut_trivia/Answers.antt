use Rattle.std.proofs.Common.{◌≡◌, ◌+◌, ◌<◌, ◌≤◌, length, arith}
use Rattle.rf_jlex.proofs.LexLemmas.{Skips-piece, length-piece_at}
use Rattle.rf_jlex.proofs.lexer.cut_trivia.Goals as goal

pub loop-piece-preserved : goal.loop-piece-preserved
loop-piece-preserved c =
    let text = c.args.text.now in
    let piece = c.in-Some.piece in
    record {
      within = c.behind_white-skipped-in-loop-piece.ensures.within;
      skips = c.behind_white-skipped-in-loop-piece.ensures.skips
          (Skips-piece text c.split_at.result.1.now c.loop-piece.skipped piece.sort piece.length c.split_at.ensures.back c.loop-piece.invariant.skips c.in_default-sort.not-Token c.in-Some.ensures);
    }

pub loop-piece-smaller : goal.loop-piece-smaller
loop-piece-smaller c =
    let piece = c.in-Some.piece in
    let some : 0 < piece.length = length-piece_at c.split_at.result.1.now piece.sort piece.length c.in-Some.ensures in
    let fits : piece.length ≤ length c.split_at.result.1.now = c.in-Some.ensures.0 in
    let whole : length c.split_at.result.1.now + c.loop-piece.skipped ≡ length c.args.text.now = c.split_at.ensures.back_len in
    omega (arith, c.behind_white-skipped-in-loop-piece.ensures.forth)
