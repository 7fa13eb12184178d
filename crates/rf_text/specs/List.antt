-- What a `List` ends as, where a `&mut` to one of its items is returned.
use Rattle.std.specs.Prelude.{ℕ, List, Option, slice_set}
use Rattle.std.specs.Borrow.{LendsIf, Fml, RattleType, MutBor}
use Rattle.rf_text.specs.contracts.list.List.{the_row}

-- once the borrow `item` ends, the place has the last value written through it, and at `None` the list
-- stays as it is
abbrev pub lends_item : (T : RattleType) → MutBor (List T.Denot) → ℕ → Option (MutBor T.Denot) → Fml
lends_item T list at item = LendsIf (the_row T) T list item (λ value. slice_set list.now at value) list.now
