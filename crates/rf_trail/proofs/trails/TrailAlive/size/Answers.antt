use Rattle.std.proofs.Common.{sym, ap, arith}
use Rattle.std.proofs.lemmas.Bool.{}
use Rattle.rf_form.specs.Alive.{is_among, among}
use Rattle.rf_trail.proofs.Ranges.{row_counts, nothing_counts}
use Rattle.rf_trail.proofs.Rows.{row_past}
use Rattle.rf_trail.proofs.Steps.{read_row}
use Rattle.rf_trail.proofs.trails.TrailAlive.size.Goals as goal

pub returns-then-x-len : goal.returns-then-x-len
returns-then-x-len g c = let s = c.args.self.now in row_counts (among s.doms.items) c.args.x c.count.result c.index.result.now
    (λ v. ap (is_among v) (sym (read_row s.doms.items c.args.x c.index.result.now (omega (arith, s.doms.ok.0)) c.index.ensures))) c.count.ensures

pub returns-else-x-len : goal.returns-else-x-len
returns-else-x-len g c = let s = c.args.self.now in nothing_counts (among s.doms.items) c.args.x (λ v. row_past s.doms.items c.args.x v (omega (arith, s.doms.ok.0)))
