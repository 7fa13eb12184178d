use Rattle.std.proofs.Common.{arith, ap, ◌∙◌, take, drop, length}
use Rattle.rf_facts.proofs.Pieces.{ends_within, row_is}
use Rattle.rf_facts.proofs.rows.Rows.row.Goals as goal

pub overflow_mul-place : goal.overflow_mul-place
overflow_mul-place c = let i = ends_within c.self.inside.width c.self.inside.count c.args.place c.self.inside.cells.items c.args.self.now c.self.view_is c.requires c.self.invariant.0 in
    omega (arith, i, c.as_slice.ensures.len, c.as_slice.ensures.value)

pub split_at-requires : goal.split_at-requires
split_at-requires c = let i = ends_within c.self.inside.width c.self.inside.count c.args.place c.self.inside.cells.items c.args.self.now c.self.view_is c.requires c.self.invariant.0 in
    rw c.as_slice.ensures.value (omega (arith, i))

pub split_at-requires-2 : goal.split_at-requires-2
split_at-requires-2 c = let i = ends_within c.self.inside.width c.self.inside.count c.args.place c.self.inside.cells.items c.args.self.now c.self.view_is c.requires c.self.invariant.0 in
    let e = ap length c.as_slice.ensures.value in omega (arith, i, e, c.split_at.ensures.back_len)

pub returns : goal.returns
returns c = c.split_at-2.ensures.front ∙ (ap (take c.self.inside.width) (c.split_at.ensures.back ∙ ap (drop _) c.as_slice.ensures.value)
    ∙ row_is c.self.inside.width c.self.inside.count c.args.place c.self.inside.cells.items c.args.self.now c.self.view_is c.requires)
