use Rattle.std.proofs.Common.{List, ℕ, Option, IfSome, ◌≡◌, ◌+◌, subst, arith}
use Rattle.rf_world.proofs.StreamLemmas.{read_all}
use Rattle.rf_world.proofs.streams.read_whole.Goals as goal

pub returns-in-Ok-clause-whole : goal.returns-in-Ok-clause-whole
returns-in-Ok-clause-whole g c =
    subst (λ reader. IfSome (g.R.Read.remaining reader) (λ left. c.read_to_end.new.buf.items ≡ left)) c.take-front.ensures.inner
    (read_all (g.R.Read.remaining c.take-front.result.inner) c.take-front.result.limit c.in_ok-bytes.bytes.items c.read_to_end.new.buf.items
    c.in_ok-bytes.ensures.items
    (omega (arith, c.read_to_end.new.buf.ok.0, c.in-Ok.ensures.ok, c.in_ok-bytes.ensures.len, c.if-count-le-MOST_BYTES.true, c.take-front.ensures.limit)) c.in-Ok.ensures.bytes)
