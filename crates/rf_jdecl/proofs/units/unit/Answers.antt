use Rattle.std.proofs.Common.{subst}
use Rattle.rf_jdecl.specs.Files.{IsFile}
use Rattle.rf_jdecl.proofs.AnswerLemmas.{file-of}
use Rattle.rf_jdecl.proofs.units.unit.Goals as goal

pub returns : goal.returns
returns c = subst (λ toks. IsFile toks c.whole_unit.result) c.as_slice.ensures (file-of _ c.whole_unit.result c.whole_unit.ensures)
