-- The parts that the program has cut a file into, as the texts that they are.
use Rattle.std.specs.Prelude.{ℕ, List, Option, option_map, map}
use Rattle.rf_engine.specs.ClassFile.{Initializer, Field, ClassFile}
use Rattle.rf_engine.specs.declared.class_file.InitializerParts.{InitializerParts}
use Rattle.rf_engine.specs.declared.class_file.FieldParts.{FieldParts}
use Rattle.rf_engine.specs.declared.class_file.ClassParts.{ClassParts}
use Rattle.rf_engine.specs.ClassReader.{Head, End}
use Rattle.rf_engine.specs.declared.class_file.HeadCut.{HeadCut}
use Rattle.rf_engine.specs.declared.class_file.EndParts.{EndParts}
use Rattle.rf_engine.specs.declared.field.FieldCut.{FieldCut}
use Rattle.rf_engine.specs.declared.field.NameCut.{NameCut}
use Rattle.rf_engine.specs.declared.field.InitializerCut.{InitializerCut}
use Rattle.rf_engine.specs.declared.scan.Cut.{Cut}

abbrev pub initializer_seen : InitializerParts → Initializer
initializer_seen parts = record { before = parts.before.now; gap = parts.gap.now; name = parts.name.now }

abbrev pub field_seen : FieldParts → Field
field_seen parts = record {
  before = parts.before.now;
  gap = parts.gap.now;
  name = parts.name.now;
  initializer = option_map initializer_seen parts.initializer;
  after = parts.after.now;
}

abbrev pub class_seen : ClassParts → ClassFile
class_seen parts = record {
  before = parts.before.now;
  gap = parts.gap.now;
  name = parts.name.now;
  opening = parts.opening.now;
  fields = map field_seen parts.fields;
  last_gap = parts.last_gap.now;
  tail = parts.tail.now;
}

-- what was read, and the rest
abbrev pub cut_seen : Cut → List ℕ × List ℕ
cut_seen cut = (cut.front.now, cut.rest.now)

abbrev pub name_cut_seen : NameCut → List ℕ × List ℕ × List ℕ
name_cut_seen cut = (cut.gap.now, cut.name.now, cut.rest.now)

abbrev pub initializer_cut_seen : InitializerCut → Option Initializer × List ℕ
initializer_cut_seen cut = (option_map initializer_seen cut.initializer, cut.rest.now)

abbrev pub field_cut_seen : FieldCut → Field × List ℕ
field_cut_seen cut = (field_seen cut.field, cut.rest.now)

abbrev pub head_cut_seen : HeadCut → Head × List ℕ
head_cut_seen cut = (record { before = cut.before.now; gap = cut.gap.now; name = cut.name.now; opening = cut.opening.now }, cut.rest.now)

abbrev pub end_seen : EndParts → End
end_seen parts = record { last_gap = parts.last_gap.now; tail = parts.tail.now }
