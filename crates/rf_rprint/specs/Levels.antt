-- Which of a formula's texts stands where.
use Rattle.std.specs.Prelude.{ℕ, List}
use Rattle.rf_rtree.specs.declared.forms.Quant.{Quant}
use Rattle.rf_rtree.specs.Plain.{Plains, plains, quant_step}
use Rattle.rf_rprint.specs.declared.levels.Level.{Level}
use Rattle.rf_rprint.specs.declared.levels.Level.TheVariants as l

abbrev pub at_level : Level → Plains → List ℕ
at_level l.Whole text = text.whole
at_level l.Either text = text.either
at_level l.Both text = text.both
at_level l.Tight text = text.tight

-- what stands behind `all` or `some`
abbrev pub quant_text : Quant → List ℕ
quant_text quant = quant_step (record { vars = quant.vars; asks = quant.asks; body = plains quant.body })
