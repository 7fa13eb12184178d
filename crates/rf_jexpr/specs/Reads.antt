-- Readers: what stands at the head of a token list, if it stands there, and the tokens behind it.
use Rattle.std.specs.Prelude.{ℕ, zero, suc, ◌==◌, List, [], ◌∷◌, Option, Some, None, Bool, true, false, length}
use Rattle.rf_jtree.specs.declared.operators.Op.{Op}
use Rattle.rf_jtree.specs.declared.tokens.Tok.{Tok}
use Rattle.rf_jtree.specs.declared.tokens.TokKind.{TokKind}
use Rattle.rf_jtree.specs.declared.tokens.TokKind.TheVariants as kind
use Rattle.rf_jtree.specs.declared.words.Kw.{Kw}
use Rattle.rf_jtree.specs.NameTrees.{ManyTree}

abbrev pub Reads : Type 0 → Type 0
Reads A = List Tok → Option (A × List Tok)

-- one step behind another
unfoldable pub and_then : {A B : Type 0} → Option A → (A → Option B) → Option B
and_then None next = None
and_then (Some x) next = next x

infixl 10 ◌>>=◌
abbrev pub ◌>>=◌ : {A B : Type 0} → Option A → (A → Option B) → Option B
first >>= next = and_then first next

-- the first that is there
unfoldable pub or_else : {A : Type 0} → Option A → Option A → Option A
or_else None other = other
or_else (Some x) other = Some x

-- only where a test holds
unfoldable pub when : {A : Type 0} → Bool → Option A → Option A
when true result = result
when false result = None

-- What a token is, as a test.
abbrev is_op_kind : Op → TokKind → Bool
is_op_kind op (kind.Op found) = found.0 == op.0
is_op_kind op kind = false

-- this separator or operator
unfoldable pub is_op : Op → Tok → Bool
is_op op tok = is_op_kind op tok.kind

abbrev is_key_kind : Kw → TokKind → Bool
is_key_kind word (kind.Key found) = found.0 == word.0
is_key_kind word kind = false

-- this keyword
unfoldable pub is_key : Kw → Tok → Bool
is_key word tok = is_key_kind word tok.kind

abbrev is_ident_kind : TokKind → Bool
is_ident_kind kind.Ident = true
is_ident_kind kind = false

-- an identifier
unfoldable pub is_ident : Tok → Bool
is_ident tok = is_ident_kind tok.kind

-- whether the first token passes a test
unfoldable pub begins : (Tok → Bool) → List Tok → Bool
begins test [] = false
begins test (tok ∷ toks) = test tok

-- one token that passes a test
unfoldable pub token : (Tok → Bool) → Reads Tok
token test [] = None
token test (tok ∷ toks) = when (test tok) (Some (tok, toks))

-- a part that may be left out: it is read wherever it stands there
unfoldable pub optional : {A : Type 0} → Reads A → Reads (Option A)
optional item toks = or_else (item toks >>= λ x. Some (Some x.0, x.1)) (Some (None, toks))

-- any number of parts, as many as stand there, but no more than `turns`
unfoldable pub repeat : {A : Type 0} → (turns : ℕ) → Reads A → Reads (List A)
repeat zero item toks = Some ([], toks)
repeat (suc turns) item toks = or_else (item toks >>= λ x. repeat turns item x.1 >>= λ more. Some (x.0 ∷ more.0, more.1)) (Some ([], toks))

-- any number of parts, as many as stand there: no more than there are tokens, since each takes one at least
unfoldable pub many : {A : Type 0} → Reads A → Reads (List A)
many item toks = repeat (length toks) item toks

-- a token and a part behind it
unfoldable pub behind : {A : Type 0} → (Tok → Bool) → Reads A → Reads (Tok × A)
behind test item toks = do
  word ← token test toks
  x ← item word.1
  Some ((word.0, x.0), x.1)

-- one part or more, with this separator between two of them
unfoldable pub separated : {A : Type 0} → Op → Reads A → Reads (ManyTree A)
separated between item toks = do
  first ← item toks
  rest ← many (behind (is_op between) item) first.1
  Some (record { first = first.0; rest = rest.0 }, rest.1)

-- What goes on growing: with `x` in hand, each turn takes it and what follows into a greater one, as long as it can, but
-- no more than `turns` times.
unfoldable pub chain : {A : Type 0} → (turn : A → Reads A) → (turns : ℕ) → A → Reads A
chain turn zero x toks = Some (x, toks)
chain turn (suc turns) x toks = or_else (turn x toks >>= λ y. chain turn turns y.0 y.1) (Some (x, toks))
