use Rattle.std.proofs.Common.{◌≡◌, take}
use Rattle.rf_text.specs.Names.{texts_of}
use Rattle.rf_text.proofs.names.Names.copy.Given as goal

abbrev pub invariant-loop-text : goal.invariant-loop-text
invariant-loop-text l = texts_of l.texts.keys ≡ texts_of (take l.text-index l.text-items)
