-- Comparisons: two values of one sort, of names, packages, accesses and types. A text is a name or a package.
use Rattle.std.specs.Prelude.{ℕ, List, [], ◌∷◌, Bool, ◌&&◌, ◌||◌, not, Option, Some, None, codes, if◌then◌else◌}
use Rattle.std.specs.Str.{bytes_eq}
use Rattle.rf_rtree.specs.declared.forms.Comp.{Comp}
use Rattle.rf_rtree.specs.declared.forms.Comp.TheVariants.{Equal, Unequal, AtMost}
use Rattle.rf_rtree.specs.declared.forms.RTerm.{RTerm}
use Rattle.rf_rtree.specs.declared.words.RVar.{RVar}
use Rattle.rf_rtree.specs.Faults.{Told, told, or_later, unless}
use Rattle.rf_rtree.specs.Kinds.{is_among}
use Rattle.rf_rtree.specs.Terms.{term_fault, term_line, term_sort}

abbrev pub is_text : List ℕ → Bool
is_text sort = bytes_eq (codes "text") sort

abbrev pub may_be_text : List ℕ → Bool
may_be_text sort = is_among sort (codes "name" ∷ codes "package" ∷ [])

-- two terms of these sorts can be compared
abbrev pub agree : List ℕ → List ℕ → Bool
agree left right =
    bytes_eq left right || (is_text left && may_be_text right) || (is_text right && may_be_text left)

-- the sort of what is compared, where the two agree
abbrev pub joint_sort : List ℕ → List ℕ → List ℕ
joint_sort left right = if is_text right then left else right

-- accesses alone have an order
abbrev pub order_fault : ℕ → Comp → List ℕ → Option Told
order_fault line Equal sort = None
order_fault line Unequal sort = None
order_fault line AtMost sort = unless (bytes_eq (codes "access") sort) (told line sort (codes "access"))

abbrev pub sorts_fault : ℕ → List ℕ → Comp → List ℕ → Option Told
sorts_fault line left comp right = or_later
    (unless (not (is_text left && is_text right)) (told line (codes "text") (codes "property")))
    (or_later (unless (agree left right) (told line right left))
    (order_fault line comp (joint_sort left right)))

-- the left term's fault comes first, then the right term's, then the comparison's own
abbrev pub comparison_fault : List (List RVar) → RTerm → Comp → RTerm → Option Told
comparison_fault scope left comp right = or_later (term_fault scope left)
    (or_later (term_fault scope right)
    (sorts_fault (term_line right) (term_sort left) comp (term_sort right)))
