-- The words of the rule language: kinds, properties and queries.
use Rattle.std.specs.Prelude.{ℕ, List, [], ◌∷◌, codes, map}
use Rattle.rf_rtree.specs.declared.tables.Row.{Row}

-- a word with kinds
pub record Entry : Type 0 where
  pub name : List ℕ
  pub kinds : List (List ℕ)

abbrev pub entry : List ℕ → List (List ℕ) → Entry
entry name kinds = record { name = name; kinds = kinds }

abbrev pub row_shown : Row → Entry
row_shown row = entry row.name.now (map (λ kind. kind.now) row.kinds.now)

-- the kinds, each with the kinds that are part of it beside itself
unfoldable pub KINDS : List Entry
KINDS =
    entry (codes "type") [] ∷ entry (codes "field") [] ∷ entry (codes "method") [] ∷ entry (codes "ctor") [] ∷
    entry (codes "local") [] ∷ entry (codes "ref") [] ∷ entry (codes "unit") [] ∷
    entry (codes "member") (codes "field" ∷ codes "method" ∷ []) ∷
    entry (codes "decl") (codes "type" ∷ codes "field" ∷ codes "method" ∷ codes "ctor" ∷ codes "local" ∷
    codes "member" ∷ []) ∷ []

-- the properties, each with the kinds that have it
unfoldable pub PROPERTIES : List Entry
PROPERTIES =
    entry (codes "name") (codes "decl" ∷ codes "ref" ∷ []) ∷
    entry (codes "access") (codes "type" ∷ codes "member" ∷ codes "ctor" ∷ []) ∷
    entry (codes "owner") (codes "member" ∷ []) ∷
    entry (codes "package") (codes "type" ∷ []) ∷
    entry (codes "written") (codes "ref" ∷ []) ∷ []

-- the queries over the old project, each with the kinds of its arguments
unfoldable pub QUERIES : List Entry
QUERIES =
    entry (codes "project") (codes "decl" ∷ []) ∷
    entry (codes "param") (codes "local" ∷ codes "method" ∷ []) ∷
    entry (codes "in") (codes "local" ∷ codes "method" ∷ []) ∷
    entry (codes "before") (codes "local" ∷ codes "local" ∷ []) ∷
    entry (codes "declares") (codes "type" ∷ codes "member" ∷ []) ∷
    entry (codes "direct") (codes "type" ∷ codes "type" ∷ []) ∷
    entry (codes "sub") (codes "type" ∷ codes "type" ∷ []) ∷
    entry (codes "over") (codes "method" ∷ codes "method" ∷ []) ∷
    entry (codes "twin") (codes "type" ∷ codes "method" ∷ codes "method" ∷ []) ∷
    entry (codes "binds") (codes "ref" ∷ codes "decl" ∷ []) ∷
    entry (codes "inside") (codes "ref" ∷ codes "member" ∷ []) ∷
    entry (codes "holds") (codes "unit" ∷ codes "ref" ∷ []) ∷
    entry (codes "unit") (codes "unit" ∷ codes "type" ∷ []) ∷
    entry (codes "distinct") (codes "decl" ∷ codes "decl" ∷ []) ∷
    entry (codes "static") (codes "member" ∷ []) ∷
    entry (codes "abstract") (codes "method" ∷ []) ∷
    entry (codes "interface") (codes "type" ∷ []) ∷ []
