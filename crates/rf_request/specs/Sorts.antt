-- The words for the sorts of elements.
use Rattle.std.specs.Prelude.{ℕ, List, codes}
use Rattle.rf_request.specs.declared.sorts.Sort.{Sort}
use Rattle.rf_request.specs.declared.sorts.Sort.TheVariants.{Typ, Field, Method, Local, Ctor}

abbrev pub sort_word : Sort → List ℕ
sort_word Typ = codes "type"
sort_word Field = codes "field"
sort_word Method = codes "method"
sort_word Local = codes "local"
sort_word Ctor = codes "ctor"
