use Rattle.std.proofs.Common.{◌≡◌, ◌++◌, ◌∷◌, [], map, sym}
use Rattle.std.proofs.lemmas.List.{map_push}
use Rattle.rf_engine.specs.Seen.{field_seen}
use Rattle.rf_engine.proofs.FieldLemmas.{fields_more, field_shortens}
use Rattle.rf_engine.proofs.class_file.read_fields.Goals as goal

pub loop-cut-smaller : goal.loop-cut-smaller
loop-cut-smaller c = field_shortens c.loop-cut.rest.now (field_seen c.in-Some.cut.field) c.in-Some.cut.rest.now (sym c.in-Some.ensures)

pub loop-cut-preserved : goal.loop-cut-preserved
loop-cut-preserved c =
    let pushed : c.push.new.self ≡ c.loop-cut.fields ++ c.in-Some.cut.field ∷ [] = c.in_ok-push.ensures.ok in
    rw (pushed, map_push) (fields_more c.args.text.now (map field_seen c.loop-cut.fields) c.loop-cut.rest.now (field_seen c.in-Some.cut.field) c.in-Some.cut.rest.now c.loop-cut.invariant (sym c.in-Some.ensures))
