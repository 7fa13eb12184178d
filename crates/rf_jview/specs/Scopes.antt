-- The scope of a local variable or a parameter (JLS 6.3), read off the marks without those before the last identifier of
-- a type's name.
use Rattle.std.specs.Prelude.{ℕ, ◌+◌, ◌-◌, List, Option, Some, None, slice_get}
use Rattle.rf_jview.specs.declared.marks.Mark.{Mark}
use Rattle.rf_jview.specs.declared.marks.Mark.TheVariants as m

-- what is in a block that begins at a place: the places from the first one to before the second one
abbrev block_range : ℕ → Option Mark → Option (ℕ × ℕ)
block_range place (Some (m.Opens opening width)) = Some (place + 1, place + 1 + width)
block_range place mark = None

abbrev pub block_at : List Mark → ℕ → Option (ℕ × ℕ)
block_at marks place = block_range place (slice_get marks place)

-- the rest of a block, behind a place in it
abbrev rest_of : ℕ → Option (ℕ × ℕ) → Option (ℕ × ℕ)
rest_of place (Some range) = Some (place + 1, range.1)
rest_of place None = None

-- A local's scope is the rest of its block, its own initializer too; that of a parameter, the rest of the parameters and
-- the body; that of a local of a basic `for`, the rest of the header and the body. The variable of `for (T x : e)` has the
-- body alone, that of a catch clause its block (JLS 6.3, 8.4.1, 14.4.2, 14.14, 14.20).
abbrev scope_by : List Mark → ℕ → Option Mark → Option (ℕ × ℕ)
scope_by marks place (Some (m.Local back)) = rest_of place (block_at marks (place - back))
scope_by marks place (Some (m.Ahead ahead)) = block_at marks (place + ahead)
scope_by marks place mark = None

abbrev pub scope_of : List Mark → ℕ → Option (ℕ × ℕ)
scope_of marks place = scope_by marks place (slice_get marks place)
