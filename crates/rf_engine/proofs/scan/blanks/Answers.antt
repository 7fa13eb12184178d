use Rattle.std.proofs.Common.{◌≡◌, true, rules, arith}
use Rattle.std.proofs.lemmas.List.Elements.{All-more}
use Rattle.rf_engine.specs.Words.{is_blank}
use Rattle.rf_engine.proofs.scan.blanks.Goals as goal

pub loop-byte-preserved : goal.loop-byte-preserved
loop-byte-preserved c =
    (omega arith, All-more (λ byte. is_blank byte ≡ true) c.args.text.now c.loop-byte.count 0 (omega arith) c.loop-byte.invariant.1 (search rules))
