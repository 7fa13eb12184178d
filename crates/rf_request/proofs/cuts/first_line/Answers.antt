use Rattle.std.proofs.Common.{◌∙◌, ap, sym, ◌∷◌, ◌-◌, List, ℕ, length, take, drop, arith}
use Rattle.std.specs.Str.Lines.{lines}
use Rattle.rf_request.proofs.CutLemmas.{last_line, ended_line, nothing_left}
use Rattle.rf_request.proofs.cuts.first_line.Goals as goal

pub returns-in-empty-clause-lines : goal.returns-in-empty-clause-lines
returns-in-empty-clause-lines c =
    last_line c.args.text.now _ _ c.requires (c.split_at.ensures.front ∙ ap (λ n. take n c.args.text.now) c.line_length.ensures.value) (c.split_at.ensures.back ∙ ap (λ n. drop n c.args.text.now) c.line_length.ensures.value) (nothing_left c.split_at.result.1.now (omega arith))

pub returns-in-len1-up-clause-lines : goal.returns-in-len1-up-clause-lines
returns-in-len1-up-clause-lines c =
    let rest = c.split_at.result.1.now in
    ended_line c.args.text.now _ rest (omega arith) (c.split_at.ensures.front ∙ ap (λ n. take n c.args.text.now) c.line_length.ensures.value) (c.split_at.ensures.back ∙ ap (λ n. drop n c.args.text.now) c.line_length.ensures.value)
    ∙ ap (λ (line : List ℕ). line ∷ lines (take (length rest - 1) (drop 1 rest))) (sym c.without_return.ensures)
