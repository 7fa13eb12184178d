-- The keywords of Java (JLS 3.9).
use Rattle.std.specs.Prelude.{ℕ, List, [], ◌∷◌, Option, Some, None, codes, position}
use Rattle.std.specs.Str.{bytes_eq}
use Rattle.rf_jtree.specs.declared.words.Kw.{Kw}

-- the 50 keywords, in alphabetical order
unfoldable pub KEYWORDS : List (List ℕ)
KEYWORDS =
    codes "abstract" ∷ codes "assert" ∷ codes "boolean" ∷ codes "break" ∷ codes "byte" ∷ codes "case" ∷
    codes "catch" ∷ codes "char" ∷ codes "class" ∷ codes "const" ∷ codes "continue" ∷ codes "default" ∷
    codes "do" ∷ codes "double" ∷ codes "else" ∷ codes "enum" ∷ codes "extends" ∷ codes "final" ∷
    codes "finally" ∷ codes "float" ∷ codes "for" ∷ codes "goto" ∷ codes "if" ∷ codes "implements" ∷
    codes "import" ∷ codes "instanceof" ∷ codes "int" ∷ codes "interface" ∷ codes "long" ∷ codes "native" ∷
    codes "new" ∷ codes "package" ∷ codes "private" ∷ codes "protected" ∷ codes "public" ∷ codes "return" ∷
    codes "short" ∷ codes "static" ∷ codes "strictfp" ∷ codes "super" ∷ codes "switch" ∷
    codes "synchronized" ∷ codes "this" ∷ codes "throw" ∷ codes "throws" ∷ codes "transient" ∷ codes "try" ∷
    codes "void" ∷ codes "volatile" ∷ codes "while" ∷ []

abbrev pub at_place : Option ℕ → Option Kw
at_place None = None
at_place (Some n) = Some (record { 0 = n })

-- the keyword that a text spells: its place in the list, where it is there
unfoldable pub keyword_of : List ℕ → Option Kw
keyword_of text = at_place (position (λ word. bytes_eq word text) KEYWORDS)
