-- The separators and operators of Java (JLS 3.11, 3.12).
use Rattle.std.specs.Prelude.{ℕ, List, [], ◌∷◌, Option, Some, None, codes, position}
use Rattle.std.specs.Str.{bytes_eq}
use Rattle.rf_jtree.specs.declared.operators.Op.{Op}

-- the separators, then the operators
unfoldable pub OPERATORS : List (List ℕ)
OPERATORS =
    codes "(" ∷ codes ")" ∷ codes "{" ∷ codes "}" ∷ codes "[" ∷ codes "]" ∷ codes ";" ∷ codes "," ∷
    codes "." ∷ codes "@" ∷ codes "=" ∷ codes ">" ∷ codes "<" ∷ codes "!" ∷ codes "~" ∷ codes "?" ∷
    codes ":" ∷ codes "==" ∷ codes "<=" ∷ codes ">=" ∷ codes "!=" ∷ codes "&&" ∷ codes "||" ∷ codes "++" ∷
    codes "--" ∷ codes "+" ∷ codes "-" ∷ codes "*" ∷ codes "/" ∷ codes "&" ∷ codes "|" ∷ codes "^" ∷
    codes "%" ∷ codes "<<" ∷ codes ">>" ∷ codes ">>>" ∷ codes "+=" ∷ codes "-=" ∷ codes "*=" ∷ codes "/=" ∷
    codes "&=" ∷ codes "|=" ∷ codes "^=" ∷ codes "%=" ∷ codes "<<=" ∷ codes ">>=" ∷ codes ">>>=" ∷ []

abbrev pub operator_at : Option ℕ → Option Op
operator_at None = None
operator_at (Some n) = Some (record { 0 = n })

-- the separator or operator that a text spells: its place in the list, where it is there
unfoldable pub operator_of : List ℕ → Option Op
operator_of text = operator_at (position (λ word. bytes_eq word text) OPERATORS)
