-- The variables around a place of a rule, each with its element.
use Rattle.std.specs.Prelude.{ℕ, List, [], ◌∷◌, if◌then◌else◌}
use Rattle.std.specs.Str.{bytes_eq}
use Rattle.rf_rtree.specs.declared.words.RVar.{RVar}
use Rattle.rf_rtree.specs.declared.words.Word.{Word}

pub record Bound : Type 0 where
  pub name : List ℕ
  pub element : ℕ

-- variables with the elements of a tuple, in front of those around them
abbrev pub bind : List RVar → List ℕ → List Bound → List Bound
bind [] tuple scope = scope
bind (var ∷ vars) [] scope = scope
bind (var ∷ vars) (n ∷ tuple) scope = bind vars tuple (record { name = var.name.text; element = n } ∷ scope)

-- the element of a variable: no two in scope have one name, and a checked program names no other
abbrev pub element_of : List Bound → Word → ℕ
element_of [] word = 0
element_of (bound ∷ scope) word = if bytes_eq bound.name word.text then bound.element else element_of scope word
