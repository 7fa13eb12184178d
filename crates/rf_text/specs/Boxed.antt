-- What a `Boxed` ends as, where a `&mut` to its value is returned.
use Rattle.std.specs.Borrow.{Lends, Fml, RattleType, MutBor}
use Rattle.rf_text.specs.contracts.boxed.Boxed.{the_row}

-- once the borrow `value` ends, the value is the last one written through it
abbrev pub lends_value : (T : RattleType) → MutBor T.Denot → MutBor T.Denot → Fml
lends_value T boxed value = Lends (the_row T) T boxed value (λ last. last)
