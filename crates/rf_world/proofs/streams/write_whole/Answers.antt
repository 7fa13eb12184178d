use Rattle.std.proofs.Common.{List, ℕ, ◌≡◌, ◌+◌, subst, arith, take, length-drop}
use Rattle.std.specs.Io.KnownBytes.{Appends}
use Rattle.std.proofs.lemmas.List.{length-take, take_all}
use Rattle.rf_world.proofs.StreamLemmas.{appends_both, appends_kept, next_of_range}
use Rattle.rf_world.proofs.streams.write_whole.Goals as goal

pub returns-then-done-bytes-clause-ok : goal.returns-then-done-bytes-clause-ok
returns-then-done-bytes-clause-ok g c =
    subst (λ t. Appends (g.W.Write.contents c.args.writer.now) (g.W.Write.contents c.loop-turn.writer) t) (take_all c.loop-turn.done c.args.bytes.now (omega arith)) c.loop-turn.invariant.1

pub returns-in-Err-clause-err : goal.returns-in-Err-clause-err
returns-in-Err-clause-err g c = (c.loop-turn.done, appends_kept _ _ _ _ c.loop-turn.invariant.1 c.in-Err.ensures.err)

pub returns-clause-err : goal.returns-clause-err
returns-clause-err g c = (c.loop-turn.done, c.loop-turn.invariant.1)

pub loop-turn-preserved : goal.loop-turn-preserved
loop-turn-preserved g c = (
  omega (arith, length-take {A = ℕ}, length-drop {A = ℕ}, c.in-Ok.ensures.within, c.loop-turn.invariant.0),
  appends_both _ (g.W.Write.contents c.loop-turn.writer) _ (take c.loop-turn.done c.args.bytes.now) _ _ c.loop-turn.invariant.1 c.in-Ok.ensures.ok (next_of_range c.loop-turn.done c.in-Ok.count c.args.bytes.now),
)
