use Rattle.rf_jview.proofs.DeclLengths.{unit_marks-length, member_marks-length}
use Rattle.rf_jview.proofs.laws.as_many_marks_as_tokens.Goals as goal

pub returns-clause-unit : goal.returns-clause-unit
returns-clause-unit c = unit_marks-length

pub returns-clause-member : goal.returns-clause-member
returns-clause-member c = member_marks-length
