use Rattle.std.proofs.Common.{◌≡◌, true, rules, arith}
use Rattle.std.proofs.lemmas.List.Elements.{All-more}
use Rattle.rf_engine.specs.Words.{is_letter_or_digit}
use Rattle.rf_engine.proofs.scan.letters_and_digits.Goals as goal

pub loop-byte-preserved : goal.loop-byte-preserved
loop-byte-preserved c =
    (omega arith, All-more (λ byte. is_letter_or_digit byte ≡ true) c.args.text.now c.loop-byte.count 0 (omega arith) c.loop-byte.invariant.1 (search rules))
