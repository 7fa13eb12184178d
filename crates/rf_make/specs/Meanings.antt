-- The value that a meaning is.
use Rattle.rf_inst.specs.Values.{Value, Missing, Unnamed, Known}
use Rattle.rf_make.specs.declared.meanings.Meaning.{Meaning}
use Rattle.rf_make.specs.declared.meanings.Meaning.TheVariants as meaning

abbrev pub meant : Meaning → Value
meant meaning.Missing = Missing
meant meaning.Unnamed = Unnamed
meant (meaning.Known term) = Known term
