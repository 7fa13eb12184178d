use Rattle.std.proofs.Common.{ap, map, ◌∙◌}
use Rattle.rf_jtree.specs.Guesses.{stands_at}
use Rattle.rf_jtree.proofs.TableLemmas.{stands_within, stands_not_behind}
use Rattle.rf_jtree.proofs.tables.stands_at.Goals as goal

pub returns-in-Some : goal.returns-in-Some
returns-in-Some c =
    let read = c.in-Some.ensures.lookup in
    c.eq.ensures ∙ stands_within c.args.table.now c.from.result c.in-Some.text.now c.args.bytes.now read.3.0 read.1
    ∙ ap (λ place. stands_at (map (λ text. text.now) c.args.table.now) place c.args.bytes.now) c.from.ensures

pub returns-in-None : goal.returns-in-None
returns-in-None c =
    stands_not_behind c.args.table.now c.from.result c.args.bytes.now c.in-None.ensures.lookup.3
    ∙ ap (λ place. stands_at (map (λ text. text.now) c.args.table.now) place c.args.bytes.now) c.from.ensures
