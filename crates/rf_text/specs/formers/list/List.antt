-- How a `List<T>` holds its items, which the checker asks of a container that a type leads back to itself through.
-- What a contract sees of a `List` is the list of its items, so its shape is the shape of a list; the one
-- field is a `Vec`, and std says how a `Vec` holds its items.
use mathlib.Core.Path.{◌≡◌, refl, sym}
use mathlib.Core.List.{List, []}
use mathlib.Core.Former.{Former, this, list, via, children}
use base.Stored.{code_map}
use denote.RattleType.{RattleType}
use denote.HoleLaws.{Alike}
use denote.HolePlaces.{Recodes, struct_places, laid}
use denote.Hole.Carrier.{listed, list-listed}
use denote.Hole.Fix.{over}
use denote.Param.Weighed.{Weighed, w_list}
use denote.Model.Placed.{view_places}
use Rattle.std.specs.formers.vec.Vec as in_vec
use Rattle.std.specs.declared.alloc.Global.{Global}
use Rattle.std.specs.contracts.alloc.Global as global
use Rattle.std.specs.contracts.impls.GlobalAllocator.TheImpl.{ghosts}
use Rattle.rf_text.specs.declared.list.List.TheInside.{Inside}
use Rattle.rf_text.specs.declared.list.List.TheView.{view, invariant}
use Rattle.rf_text.specs.contracts.list.List as outside
use Rattle.rf_text.specs.contracts.list.List.TheInside as inside

-- a `List` of values is a list of them
abbrev pub the_former : Former {0} → Former {0}
the_former item = list item

abbrev pub the_weighed : {item : Former {0}} → Weighed item → Weighed (the_former item)
the_weighed weight = w_list weight

-- a `List` of no items is there for every type
pub the_empty : List ⊥
the_empty = []

-- the items, in order
abbrev pub the_items : (X : Type 0) → List X → List X
the_items X xs = xs

pub the_items_listed : (X : Type 0) (xs : List X) → listed _ (children (the_former this) X xs) ≡ the_items X xs
the_items_listed X xs = list-listed X xs

-- the fields of the struct are one `Vec` of the items
abbrev fields : Former {0}
fields = via (in_vec.the_former this Global) Inside (λ X it. it.items) (λ X v. record { items = v }) (λ X it. refl) (λ X v. refl)

module _ (R S : RattleType) (h : R.Denot → S.Denot) where
  -- a map of the items keeps the layout, and what is owned and lent
  pub the_places : Alike R S h → Alike (outside.the_row R) (outside.the_row S) ((the_former this).map R.Denot S.Denot h)
  the_places alike = view_places fields (list this) view (λ X Y k u. refl) (λ X u. refl)
      R.Denot S.Denot h (outside.the_row R).coded (outside.the_row S).coded
      (invariant R.Denot) (invariant S.Denot) (λ u p q. refl) (λ u p q. refl) (λ u e. tt) (λ u e. tt)
      (over (inside.the_row R)) (over (inside.the_row S))
      (struct_places (inside.the_type R) (inside.the_type S) (in_vec.mapped h, tt) _ (λ d. refl) refl
      (laid _ _ _ (in_vec.the_places global.the_row ghosts R S h alike), tt))

  -- and so does it with the codes of the items
  pub the_codes_placed : Recodes R S h → Recodes (outside.the_row R) (outside.the_row S) ((the_former this).map R.Denot S.Denot h)
  the_codes_placed same xs = sym (code_map R.coded.code S.coded.code h (λ x. sym (same x)) xs)
