use Rattle.std.proofs.Common.{sym, ◌∙◌}
use Rattle.rf_form.specs.Shown.{forms_of}
use Rattle.rf_form.proofs.ManyLemmas.{forms_at, forms_step}
use Rattle.rf_form.proofs.kleene.+eval3.Goals as goal

pub many_value-loop-f-preserved : goal.many_value-loop-f-preserved
many_value-loop-f-preserved g t c = forms_step c.args.vals.now (g.D.Alive.family c.args.d.now) c.args.decisive c.args.fs.now
    (forms_of c.args.fs.now) c.loop-f.f-index c.f-item.result c.eval3-value.result c.loop-f.unsure c.is_unsure-unsure.result
    (forms_at c.args.fs.now c.as_slice-f-items.result.now c.loop-f.f-index c.f-item.result c.as_slice-f-items.ensures c.loop-f-test.true c.f-item.is)
    c.loop-f.invariant c.eval3-value.ensures (sym c.decides.ensures ∙ c.if-decides.false) c.is_unsure-unsure.ensures
