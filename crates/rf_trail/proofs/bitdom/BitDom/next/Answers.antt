use Rattle.std.proofs.Common.{ℕ, ◌*◌, leb, find, sym, ap, ◌∙◌, arith}
use Rattle.rf_form.specs.Alive.{is_among}
use Rattle.rf_trail.proofs.Ranges.{find_some, find_none}
use Rattle.rf_trail.proofs.bitdom.BitDom.next.Goals as goal

pub returns-then-has : goal.returns-then-has
returns-then-has g c = sym (ap (find (λ (w : ℕ). leb c.args.from w)) c.shape.ensures
    ∙ find_some (λ w. is_among w c.args.self.now) c.args.from 0 (64 * g.row.W) c.loop-v.v (omega arith) (omega arith) (omega arith)
    (sym c.has.ensures ∙ c.if-has.true) c.loop-v.invariant)

pub returns : goal.returns
returns g c = sym (ap (find (λ (w : ℕ). leb c.args.from w)) c.shape.ensures
    ∙ find_none (λ w. is_among w c.args.self.now) c.args.from 0 (64 * g.row.W) (λ w le lt. c.loop-v.invariant w le (omega arith)))
