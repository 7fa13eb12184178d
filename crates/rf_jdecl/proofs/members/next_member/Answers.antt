use Rattle.rf_jdecl.proofs.MemberLemmas.{forth-of}
use Rattle.rf_jdecl.proofs.members.next_member.Goals as goal

pub returns-clause-forth : goal.returns-clause-forth
returns-clause-forth c = forth-of c.args.room c.args.t.now c.args.at c.member.result c.member.ensures
