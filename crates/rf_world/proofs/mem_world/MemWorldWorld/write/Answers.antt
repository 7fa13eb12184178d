use Rattle.std.proofs.Common.{sym, ap, ◌∙◌, ◌/◌, length, true≢false}
use Rattle.rf_world.proofs.Listing.{put_in_map, put_prefix}
use Rattle.rf_world.proofs.mem_world.MemWorldWorld.write.Goals.{then-fails, else-fails}
use Rattle.rf_world.proofs.mem_world.MemWorldWorld.write.Goals as goal

pub returns-then-fails-2-clause-prefix : goal.returns-then-fails-2-clause-prefix
returns-then-fails-2-clause-prefix c = elim c.if-fails.branch [
  | then-fails w ↦ put_prefix c.args.root.now c.args.path.now c.args.bytes.now _ (length c.args.bytes.now / 2) c.args.self.now.files _ c.in_ok-put.ensures.ok (ap (λ s. s.now) w.stored-is)
  | else-fails w ↦ absurd (true≢false (sym c.if-fails-2.true ∙ w.if-fails.false))
]

pub returns-clause-written : goal.returns-clause-written
returns-clause-written c = elim c.if-fails.branch [
  | then-fails w ↦ absurd (true≢false (sym w.if-fails.true ∙ c.if-fails-2.false))
  | else-fails w ↦ put_in_map c.args.root.now c.args.path.now c.args.bytes.now _ c.args.self.now.files _ c.in_ok-put.ensures.ok (ap (λ s. s.now) w.stored-is)
]
