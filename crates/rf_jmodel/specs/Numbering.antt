-- The project that is numbered: each token has itself as its entry.
use Rattle.std.specs.Prelude.{ℕ, ◌+◌, List, [], ◌∷◌, Option, Some}
use Rattle.rf_jtree.specs.declared.tokens.Tok.{Tok}
use Rattle.rf_jmodel.specs.declared.projects.PlacedUnit.{PlacedUnit}
use Rattle.rf_jmodel.specs.declared.projects.Project.{Project}
use Rattle.rf_jmodel.specs.ProjectNames.{with_texts, texts_of}

-- the entries of tokens that stand from token n on in file u
abbrev pub entries_from : ℕ → ℕ → List Tok → List (Option (ℕ × ℕ))
entries_from u n [] = []
entries_from u n (tok ∷ toks) = Some (u, n) ∷ entries_from u (n + 1) toks

-- file u, and files from file u on
abbrev pub numbered_unit : ℕ → PlacedUnit → PlacedUnit
numbered_unit u unit = record { path = unit.path; toks = unit.toks; from = entries_from u 0 unit.toks.list; tree = unit.tree }

abbrev pub numbered_units : ℕ → List PlacedUnit → List PlacedUnit
numbered_units u [] = []
numbered_units u (unit ∷ units) = numbered_unit u unit ∷ numbered_units (u + 1) units

-- the project of these files, of which so many are its own, and the next so many the library's
abbrev pub numbered : List PlacedUnit → ℕ → ℕ → Project
numbered units own lib =
    record { units = numbered_units 0 units; names = with_texts [] (texts_of units); own = own; lib = lib }
