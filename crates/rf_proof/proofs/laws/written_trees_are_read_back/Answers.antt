use Rattle.std.proofs.Common.{refl}
use Rattle.rf_proof.specs.Texts.{text_of}
use Rattle.rf_proof.proofs.Wholes.{read_gives}
use Rattle.rf_proof.proofs.laws.written_trees_are_read_back.Goals as goal

pub returns : goal.returns
returns c = λ nodes read lines whole reads. read_gives nodes (text_of nodes) read (record { lines = lines; whole = whole; text_is = refl }) reads
