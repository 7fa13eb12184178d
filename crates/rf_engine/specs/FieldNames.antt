-- The initializers of the fields that the program has cut a class into.
use Rattle.std.specs.Prelude.{ℕ, List, Contains, IfSome, option_map}
use Rattle.rf_engine.specs.declared.class_file.FieldParts.{FieldParts}
use Rattle.rf_engine.specs.Seen.{initializer_seen}

-- the initializer of the field, if it has one, is one of the names
abbrev pub IsBound : List (List ℕ) → FieldParts → Type 0
IsBound names field = IfSome (option_map initializer_seen field.initializer) (λ initializer. Contains names initializer.name)
