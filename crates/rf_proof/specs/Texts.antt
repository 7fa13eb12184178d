-- The text of a refutation: a line for the version, and one for each node.
use Rattle.std.specs.Prelude.{◌≡◌, ℕ, ◌<◌, ◌^◌, List, [], ◌∷◌, ◌++◌, codes, flat_map, length}
use Rattle.std.specs.Fmt.{decimal}
use Rattle.rf_refute.specs.Trees.{Node, Remove, Split, Fail}
use Rattle.rf_proof.specs.Trees.{IsWhole}

abbrev pub line_end : List ℕ
line_end = 10 ∷ []

-- a number in decimal digits behind a space
abbrev pub spaced : ℕ → List ℕ
spaced n = 32 ∷ decimal n

abbrev pub line_of : Node → List ℕ
line_of (Remove x v c) = codes "remove" ++ (spaced x ++ (spaced v ++ (spaced c ++ line_end)))
line_of (Split x vs) = codes "split" ++ (spaced x ++ (flat_map spaced vs ++ line_end))
line_of (Fail c) = codes "fail" ++ (spaced c ++ line_end)

abbrev pub lines_of : List Node → List ℕ
lines_of nodes = flat_map line_of nodes

abbrev pub version_line : List ℕ
version_line = codes "refacola refutation 1" ++ line_end

abbrev pub text_of : List Node → List ℕ
text_of nodes = version_line ++ lines_of nodes

-- places of a first domain have 16 bits
abbrev pub ArePlaces : List ℕ → Type 0
ArePlaces [] = Unit {0}
ArePlaces (v ∷ vs) = (v < 2 ^ 16) × ArePlaces vs

-- the numbers have the sizes of those of variables, places and constraints, and a split has a value
abbrev pub HasLine : Node → Type 0
HasLine (Remove x v c) = (x < 2 ^ 32) × ((v < 2 ^ 16) × (c < 2 ^ 64))
HasLine (Split x vs) = (x < 2 ^ 32) × (ArePlaces vs × (0 < length vs))
HasLine (Fail c) = c < 2 ^ 64

abbrev pub HaveLines : List Node → Type 0
HaveLines [] = Unit {0}
HaveLines (n ∷ ns) = HasLine n × HaveLines ns

-- the text is that of a refutation of these nodes
pub record IsText (nodes : List Node) (text : List ℕ) : Type 0 where
  pub lines : HaveLines nodes
  pub whole : IsWhole nodes
  pub text_is : text ≡ text_of nodes
