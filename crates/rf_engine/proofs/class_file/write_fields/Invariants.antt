use Rattle.std.proofs.Common.{◌≡◌, ◌++◌, map, take}
use Rattle.std.specs.List.{flat_map}
use Rattle.rf_engine.specs.ClassFile.{field_bytes, renamed_field}
use Rattle.rf_engine.specs.Seen.{field_seen}
use Rattle.rf_engine.proofs.class_file.write_fields.Given as goal

abbrev pub invariant-loop-field : goal.invariant-loop-field
invariant-loop-field l =
    l.out ≡ l.initial.out ++ flat_map field_bytes (map (renamed_field l.old l.new) (map field_seen (take l.field-index l.fields)))
