-- The variables in scope: for each item and quantifier around a place its variables, the innermost first.
use Rattle.std.specs.Prelude.{◌==◌, ℕ, List, [], ◌∷◌, ◌++◌, Bool, true, false, ◌||◌, ◌&&◌, not, Option, Some, None, codes, take}
use Rattle.std.specs.List.{find, list_any}
use Rattle.std.specs.Str.{bytes_eq}
use Rattle.rf_rtree.specs.declared.words.RVar.{RVar}
use Rattle.rf_rtree.specs.declared.words.Word.{Word}
use Rattle.rf_rtree.specs.Faults.{Told, told, or_later, unless}
use Rattle.rf_rtree.specs.Kinds.{is_kind}

abbrev pub has_name : List ℕ → RVar → Bool
has_name name var = bytes_eq var.name.text name

-- the variable of a name
abbrev pub var_named : List ℕ → List (List RVar) → Option RVar
var_named name [] = None
var_named name (vars ∷ outer) = or_later (find (has_name name) vars) (var_named name outer)

-- names that begin with `j_` are for the built-in rules alone
abbrev pub is_reserved : List ℕ → Bool
is_reserved name = bytes_eq (take 2 name) (codes "j_")

abbrev pub is_in_scope : List ℕ → List (List RVar) → Bool
is_in_scope name [] = false
is_in_scope name (vars ∷ outer) = list_any (has_name name) vars || is_in_scope name outer

-- a variable of this name would be a second one, or its name isn't free in this language
abbrev pub is_taken : Bool → List ℕ → List RVar → List (List RVar) → Bool
is_taken own name before scope =
    (not own && is_reserved name) || (list_any (has_name name) before || is_in_scope name scope)

abbrev pub var_fault : Bool → List (List RVar) → List RVar → RVar → Option Told
var_fault own scope before var = or_later
    (unless (not (is_taken own var.name.text before scope)) (told var.name.line var.name.text (codes "new")))
    (unless (is_kind var.kind.text) (told var.kind.line var.kind.text (codes "kind")))

-- the first fault of a list of variables, behind those before them in the list
abbrev pub vars_fault : Bool → List (List RVar) → List RVar → List RVar → Option Told
vars_fault own scope before [] = None
vars_fault own scope before (var ∷ vars) =
    or_later (var_fault own scope before var) (vars_fault own scope (before ++ var ∷ []) vars)
