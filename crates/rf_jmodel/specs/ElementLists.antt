-- The elements of a project that is numbered, as a list: file by file, in each token by token.
use Rattle.std.specs.Prelude.{ℕ, ◌+◌, Bool, cond, List, [], ◌∷◌, ◌++◌}
use Rattle.rf_jview.specs.declared.marks.Mark.{Mark}
use Rattle.rf_jmodel.specs.declared.projects.PlacedUnit.{PlacedUnit}
use Rattle.rf_jmodel.specs.Units.{marks_of}

-- the places in file u, from token n on, where such a mark stands
abbrev pub places_from : (Mark → Bool) → ℕ → ℕ → List Mark → List (ℕ × ℕ)
places_from of u n [] = []
places_from of u n (mark ∷ marks) = cond (of mark) ((u, n) ∷ places_from of u (n + 1) marks) (places_from of u (n + 1) marks)

-- those in files from file u on
abbrev pub places_in : (Mark → Bool) → ℕ → List PlacedUnit → List (ℕ × ℕ)
places_in of u [] = []
places_in of u (unit ∷ units) = places_from of u 0 (marks_of unit) ++ places_in of (u + 1) units
