-- A word is of one sort at most.
use Rattle.std.proofs.Common.{◌≡◌, ◌∙◌, ap, sym, refl, ℕ, ◌==◌, List, get_or, if◌then◌else◌}
use Rattle.rf_request.specs.declared.sorts.Sort.{Sort}
use Rattle.rf_request.specs.declared.sorts.Sort.TheVariants.{Typ, Field, Method, Local, Ctor}
use Rattle.rf_request.specs.Sorts.{sort_word}

-- the sort by the first letter of its word
abbrev sort_by : ℕ → Sort
sort_by letter =
    if letter == 116 then Typ
    else (if letter == 102 then Field
    else (if letter == 109 then Method
    else (if letter == 108 then Local
    else Ctor)))

abbrev pub sort_of : List ℕ → Sort
sort_of word = sort_by (get_or word 0 0)

pub sort_of-is : (sort : Sort) → sort_of (sort_word sort) ≡ sort
sort_of-is Typ = refl
sort_of-is Field = refl
sort_of-is Method = refl
sort_of-is Local = refl
sort_of-is Ctor = refl

pub same_sort : (one other : Sort) → sort_word one ≡ sort_word other → one ≡ other
same_sort one other same = sym (sort_of-is one) ∙ ap sort_of same ∙ sort_of-is other
