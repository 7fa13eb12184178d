use Rattle.std.proofs.Common.{sym, ◌∙◌}
use Rattle.std.proofs.lemmas.Bool.{false≢true}
use Rattle.std.proofs.lemmas.Bool.Decides.{Decides-eqb}
use Rattle.std.proofs.lemmas.Slice.Eq.{slice_eq-Decides}
use Rattle.rf_engine.proofs.FormLemmas.{path_end}
use Rattle.rf_engine.proofs.first_parts.is_path_of.Goals as goal

pub returns-else-eq : goal.returns-else-eq
returns-else-eq c = (
  λ yes. absurd (false≢true (sym c.if-eq.false ∙ yes)),
  λ is. (slice_eq-Decides Decides-eqb _ _ _ c.eq.ensures).1 (path_end c.args.path.now c.args.class.now c.in-Some.rest.now c.in-Some.ensures is ∙ sym c.as_slice.ensures),
)
