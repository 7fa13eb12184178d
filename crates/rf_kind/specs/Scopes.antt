-- The lists that the code's values stand for.
use Rattle.std.specs.Prelude.{ℕ, List, [], ◌∷◌, map, Option, Some, None}
use Rattle.rf_rtree.specs.declared.tables.Row.{Row}
use Rattle.rf_rtree.specs.declared.words.RVar.{RVar}
use Rattle.rf_rtree.specs.Tables.{Entry, row_shown}
use Rattle.rf_rtree.specs.Asks.{Known}
use Rattle.rf_kind.specs.declared.scope.Scope.{Scope, Empty, Level'}
use Rattle.rf_kind.specs.declared.asks.ArgKinds.{ArgKinds}
use Rattle.rf_kind.specs.declared.asks.ArgKinds.TheVariants.{Texts, Vars, Fixed}
use Rattle.rf_kind.specs.declared.asks.Program.{Program}

abbrev pub levels : Scope → List (List RVar)
levels Empty = []
levels (Level' vars place outer) = vars.now ∷ levels outer

abbrev pub row_found : Option Row → Option Entry
row_found None = None
row_found (Some row) = Some (row_shown row)

abbrev pub arg_kinds : ArgKinds → List (List ℕ)
arg_kinds (Texts texts) = texts.now
arg_kinds (Vars vars) = map (λ var. var.kind.text) vars.now
arg_kinds (Fixed kinds) = map (λ kind. kind.now) kinds.now

abbrev pub kinds_found : Option ArgKinds → Option (List (List ℕ))
kinds_found None = None
kinds_found (Some kinds) = Some (arg_kinds kinds)

abbrev pub known_of : Program → Known
known_of program = record { items = program.items.now; lang = program.lang.now }
