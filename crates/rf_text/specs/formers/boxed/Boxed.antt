-- How a `Boxed<T>` holds its value, which the checker asks of a container that a type leads back to itself through.
-- What a contract sees of a `Boxed` is the value itself, so its shape is that of one value; the one field is a
-- `Box`, which is a pointer, its allocator and the value.
use mathlib.Core.Path.{refl}
use mathlib.Core.Former.{Former, this, const, pair, via}
use base.Stored.{gnil}
use base.Fml.{ftrue}
use denote.RattleType.{RattleType}
use denote.Memory.{part_of}
use denote.RawPtr.{Ptr}
use denote.Sharing.{nothing}
use denote.HoleLaws.{Alike}
use denote.HolePlaces.{Recodes, struct_places, laid, one_value}
use denote.Hole.Fix.{over}
use denote.Param.Weighed.{Weighed}
use denote.Model.Placed.{view_places}
use Rattle.std.specs.declared.boxed.Box.{Box}
use Rattle.std.specs.contracts.boxed.Box as std_box
use Rattle.std.specs.declared.alloc.Global.{Global}
use Rattle.std.specs.contracts.alloc.Global as global
use Rattle.std.specs.contracts.impls.GlobalAllocator.TheImpl.{ghosts}
use Rattle.rf_text.specs.declared.boxed.Boxed.TheInside.{Inside}
use Rattle.rf_text.specs.declared.boxed.Boxed.TheView.{view, invariant}
use Rattle.rf_text.specs.contracts.boxed.Boxed as outside
use Rattle.rf_text.specs.contracts.boxed.Boxed.TheInside as inside

-- a `Boxed` of a value is that value
abbrev pub the_former : Former {0} → Former {0}
the_former value = value

abbrev pub the_weighed : {value : Former {0}} → Weighed value → Weighed (the_former value)
the_weighed weight = weight

-- the same `Box` with another value in it
abbrev holding : {X Y : Type 0} → Box X Global → Y → Box Y Global
holding of value = record { ptr = of.ptr; alloc = of.alloc; value = value }

-- the fields of the struct are one `Box`: where it stands, and its value
abbrev fields : Former {0}
fields = via (pair (const (Ptr × Global)) this) Inside
    (λ X boxed. ((boxed.inner.ptr, boxed.inner.alloc), boxed.inner.value))
    (λ X parts. record { inner = record { ptr = parts.0.0; alloc = parts.0.1; value = parts.1 } })
    (λ X boxed. refl) (λ X parts. refl)

-- a `Box` of values of this type
abbrev row_of_box : RattleType → RattleType
row_of_box R = std_box.the_row R global.the_row ghosts

module _ (R S : RattleType) (h : R.Denot → S.Denot) where
  -- a map of the value keeps the layout of the `Box`, and what it owns and lends
  box_places : Alike R S h → Alike (row_of_box R) (row_of_box S) (λ of. holding of (h of.value))
  unfolding part_of
  box_places alike = record {
    mir_same = λ i. (row_of_box (one_value R (alike.mir_same i) (λ _. ftrue) (λ _ _. nothing) gnil)).mir;
    own_same = λ of i. (row_of_box (one_value R (alike.mir_same i) (alike.own_same of.value i)
        (alike.shr_same of.value i) gnil)).own_val (holding of tt);
    shr_same = λ of i. (row_of_box (one_value R (alike.mir_same i) (alike.own_same of.value i)
        (alike.shr_same of.value i) gnil)).shr_at (holding of tt);
  }

  -- and so that of the struct
  pub the_places : Alike R S h → Alike (outside.the_row R) (outside.the_row S) ((the_former this).map R.Denot S.Denot h)
  the_places alike = view_places fields this view (λ X Y k u. refl) (λ X u. refl)
      R.Denot S.Denot h (outside.the_row R).coded (outside.the_row S).coded
      (invariant R.Denot) (invariant S.Denot) (λ u p q. refl) (λ u p q. refl) (λ u e. tt) (λ u e. tt)
      (over (inside.the_row R)) (over (inside.the_row S))
      (struct_places (inside.the_type R) (inside.the_type S) ((λ of. holding of (h of.value)), tt) _ (λ d. refl) refl
      (laid _ _ _ (box_places alike), tt))

  -- the code is that of the value
  pub the_codes_placed : Recodes R S h → Recodes (outside.the_row R) (outside.the_row S) ((the_former this).map R.Denot S.Denot h)
  the_codes_placed same value = same value
