use Rattle.std.proofs.lemmas.Grind.{flat_map-append}
use Rattle.rf_jview.specs.DeclMarks.{member_marks}
use Rattle.rf_jview.proofs.laws.members_keep_their_marks.Goals as goal

pub returns : goal.returns
returns c = λ some more. flat_map-append member_marks some more
