use Rattle.std.proofs.Common.{arith}
use Rattle.rf_facts.proofs.Pieces.{pushed}
use Rattle.rf_facts.proofs.rows.Rows.push.Goals as goal

pub invariant_of-self-2 : goal.invariant_of-self-2
invariant_of-self-2 c = (
  (pushed c.self.inside.width c.self.inside.count c.self.inside.cells.items c.extend_from_slice.new.self.items c.args.tuple.now c.args.self.now
      c.self.view_is c.self.invariant.0 c.in_ok-extend_from_slice.ensures.items c.requires).1,
  omega (arith, c.if-self.false),
)

pub returns-clause-ok : goal.returns-clause-ok
returns-clause-ok c = (pushed c.self.inside.width c.self.inside.count c.self.inside.cells.items c.extend_from_slice.new.self.items c.args.tuple.now c.args.self.now
    c.self.view_is c.self.invariant.0 c.in_ok-extend_from_slice.ensures.items c.requires).0
