-- The bytes of a text, wherever they stand.
use Rattle.std.specs.Prelude.{ℕ, List}
use Rattle.rf_text.specs.declared.bytes.Place.{Place}
use Rattle.rf_text.specs.declared.bytes.Place.TheVariants.{Short, Long}

abbrev pub bytes_at : Place → List ℕ
bytes_at (Short bytes) = bytes
bytes_at (Long items) = items.value.items
