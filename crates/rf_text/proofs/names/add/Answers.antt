use Rattle.std.proofs.Common.{ap, ◌∙◌}
use Rattle.rf_text.specs.Names.{texts_of}
use Rattle.rf_text.proofs.NameLemmas.{insert_key-fresh, insert_index-fresh}
use Rattle.rf_text.proofs.names.add.Goals as goal

pub returns-clause-ok : goal.returns-clause-ok
returns-clause-ok c = c.in_ok-place.ensures.index
    ∙ insert_index-fresh c.args.text.now c.in_ok-from_slice.field-0 c.args.texts.now.keys c.in_ok-from_slice.ensures.items c.requires

pub returns-clause-texts : goal.returns-clause-texts
returns-clause-texts c = ap texts_of c.in_ok-place.ensures.keys
    ∙ insert_key-fresh c.args.text.now c.in_ok-from_slice.field-0 c.args.texts.now.keys c.in_ok-from_slice.ensures.items c.requires
