use Rattle.std.proofs.Common.{rules}
use Rattle.rf_bodies.proofs.Gathering.{when_decided, when_true, when_false, when_open}
use Rattle.rf_bodies.proofs.gathered.add.Goals as goal

pub returns-then-gathered-clause-grown : goal.returns-then-gathered-clause-grown
returns-then-gathered-clause-grown c = when_decided c.args.gathered.now c.args.form (search rules)

pub returns-then-is_true-clause-grown : goal.returns-then-is_true-clause-grown
returns-then-is_true-clause-grown c = when_true c.args.gathered.now c.args.form c.if-gathered.false (c.is_true.ensures c.if-is_true.true)

pub returns-then-is_false-clause-grown : goal.returns-then-is_false-clause-grown
returns-then-is_false-clause-grown c = when_false c.args.gathered.now c.args.form c.if-gathered.false (c.is_false.ensures c.if-is_false.true)

pub returns-clause-grown : goal.returns-clause-grown
returns-clause-grown c = when_open c.args.gathered.now c.args.form c.push.new.self c.if-gathered.false c.in_ok-push.ensures.ok
