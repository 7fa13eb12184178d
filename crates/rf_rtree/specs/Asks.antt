-- Queries and predicates, asked of variables.
use Rattle.std.specs.Prelude.{ℕ, List, [], ◌∷◌, Bool, ◌==◌, ◌&&◌, Option, Some, None, codes, map, length, if◌then◌else◌}
use Rattle.std.specs.List.{find}
use Rattle.std.specs.Str.{bytes_eq}
use Rattle.std.specs.Fmt.{decimal}
use Rattle.rf_rtree.specs.declared.items.Item.{Item}
use Rattle.rf_rtree.specs.declared.language.Lang.{Lang}
use Rattle.rf_rtree.specs.declared.words.Ask.{Ask}
use Rattle.rf_rtree.specs.declared.words.RVar.{RVar}
use Rattle.rf_rtree.specs.declared.words.Word.{Word}
use Rattle.rf_rtree.specs.Faults.{Told, told, or_later, first_of, unless}
use Rattle.rf_rtree.specs.Kinds.{is_part}
use Rattle.rf_rtree.specs.Levels.{var_named}
use Rattle.rf_rtree.specs.Tables.{Entry}

-- what is known all over a program
pub record Known : Type 0 where
  pub items : List Item
  pub lang : Lang

-- a query with its argument kinds
abbrev pub Query : Type 0
Query = List ℕ × List (List ℕ)

-- a row of the table as a query
abbrev pub query_of : Entry → Query
query_of entry = (entry.name, entry.kinds)

abbrev pub asks : List ℕ → Query → Bool
asks name query = bytes_eq query.0 name

abbrev pub asked_kinds : Option Query → Option (List (List ℕ))
asked_kinds None = None
asked_kinds (Some query) = Some query.1

-- the argument kinds of the query of a name
abbrev pub query_kinds : List ℕ → Lang → Option (List (List ℕ))
query_kinds name lang = asked_kinds (find (asks name) lang.queries)

abbrev pub derives : List ℕ → Item → Bool
derives name item = item.derive && bytes_eq item.name.text name

abbrev pub derived_kinds : Option Item → Option (List (List ℕ))
derived_kinds None = None
derived_kinds (Some item) = Some (map (λ var. var.kind.text) item.vars)

-- the argument kinds of the predicate of a name: `slot`, or one that is derived anywhere in the program
abbrev pub predicate_kinds : List ℕ → List Item → Option (List (List ℕ))
predicate_kinds name items =
    if bytes_eq (codes "slot") name then Some (codes "unit" ∷ codes "type" ∷ [])
    else derived_kinds (find (derives name) items)

abbrev pub found_arg : Word → List ℕ → Option RVar → Option Told
found_arg word wanted None = Some (told word.line word.text (codes "variable"))
found_arg word wanted (Some var) = unless (is_part var.kind.text wanted) (told word.line var.kind.text wanted)

-- an argument is a variable in scope, of the wanted kind
abbrev pub arg_fault : List (List RVar) → List ℕ → Word → Option Told
arg_fault scope wanted word = found_arg word wanted (var_named word.text scope)

abbrev pub args_fault : List (List RVar) → List Word → List (List ℕ) → Option Told
args_fault scope [] kinds = None
args_fault scope (word ∷ words) [] = None
args_fault scope (word ∷ words) (kind ∷ kinds) =
    or_later (arg_fault scope kind word) (args_fault scope words kinds)

abbrev pub ask_fault : List (List RVar) → List ℕ → Ask → Option (List (List ℕ)) → Option Told
ask_fault scope missing ask None = Some (told ask.name.line ask.name.text missing)
ask_fault scope missing ask (Some kinds) = or_later
    (unless (length ask.args == length kinds)
    (told ask.name.line (decimal (length ask.args)) (decimal (length kinds))))
    (args_fault scope ask.args kinds)

abbrev pub query_fault : Known → List (List RVar) → Ask → Option Told
query_fault known scope ask = ask_fault scope (codes "query") ask (query_kinds ask.name.text known.lang)

abbrev pub predicate_fault : Known → List (List RVar) → Ask → Option Told
predicate_fault known scope ask =
    ask_fault scope (codes "predicate") ask (predicate_kinds ask.name.text known.items)
