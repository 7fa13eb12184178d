-- Elements by number: all types, then all fields, methods, constructors, locals, references and units.
use Rattle.std.specs.Prelude.{ℕ, ◌-◌, List, codes, take, sum, if◌then◌else◌}
use Rattle.std.specs.List.{range_with_len}
use Rattle.std.specs.Str.{bytes_eq}

-- how many elements the first n of the seven sorts have
abbrev pub before : List ℕ → ℕ → ℕ
before counts n = sum (take n counts)

-- the first sort of a kind, and the one behind its last: those of a kind stand together
abbrev pub sorts_of : List ℕ → ℕ × ℕ
sorts_of kind =
    if bytes_eq (codes "type") kind then (0, 1) else (
    if bytes_eq (codes "field") kind then (1, 2) else (
    if bytes_eq (codes "method") kind then (2, 3) else (
    if bytes_eq (codes "ctor") kind then (3, 4) else (
    if bytes_eq (codes "local") kind then (4, 5) else (
    if bytes_eq (codes "ref") kind then (5, 6) else (
    if bytes_eq (codes "unit") kind then (6, 7) else (
    if bytes_eq (codes "member") kind then (1, 3) else (
    if bytes_eq (codes "decl") kind then (0, 5) else (0, 0)))))))))

abbrev pub first_of : List ℕ → List ℕ → ℕ
first_of counts kind = before counts (sorts_of kind).0

abbrev pub count_of : List ℕ → List ℕ → ℕ
count_of counts kind = before counts (sorts_of kind).1 - before counts (sorts_of kind).0

-- the elements of a kind, in order
abbrev pub elements : List ℕ → List ℕ → List ℕ
elements counts kind = range_with_len (first_of counts kind) (count_of counts kind)
