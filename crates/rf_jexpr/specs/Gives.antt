-- What the code gives of what a reader reads: the tokens are those from a place on, and the rest those from the place
-- behind what was read.
use Rattle.std.specs.Prelude.{◌≡◌, ℕ, ◌≤◌, List, drop, length, Option, Some, None, Result, Ok, Err, Bool}
use Rattle.rf_jtree.specs.declared.exprs.Expr.{Expr}
use Rattle.rf_jtree.specs.declared.tokens.Tok.{Tok}
use Rattle.rf_jtree.specs.declared.operator_names.TheConstants.{ASSIGNMENTS, PREFIXES, SUFFIXES}
use Rattle.rf_jtree.specs.declared.keyword_names.TheConstants.{PRIMITIVES}
use Rattle.rf_jtree.specs.ExprShown.{expr_shown}
use Rattle.rf_jtree.specs.ExprTrees.{ExprTree, expr_depth}
use Rattle.rf_jtree.specs.Kinds.{is_key_of, is_literal, is_op_of}
use Rattle.rf_jexpr.specs.declared.cursor.Want.{Want}
use Rattle.rf_jexpr.specs.declared.cursor.Want.TheVariants as want
use Rattle.rf_jexpr.specs.declared.found.Found.{Found}
use Rattle.rf_jexpr.specs.declared.found.Taken.{Taken}
use Rattle.rf_jexpr.specs.declared.parse_err.ParseErr.{ParseErr}
use Rattle.rf_jexpr.specs.declared.parse_err.ParseErr.TheVariants.{NoTree, Memory}
use Rattle.rf_jexpr.specs.Reads.{is_ident, is_key, is_op}
use Rattle.rf_text.specs.declared.memory.Memory.{Memory as WantOfMemory}

-- what a token may be asked to be, as a test
abbrev pub passes : Want → Tok → Bool
passes (want.Op op) = is_op op
passes (want.Key word) = is_key word
passes want.Ident = is_ident
passes want.Literal = is_literal
passes want.Primitive = is_key_of PRIMITIVES
passes want.Prefix = is_op_of PREFIXES
passes want.Suffix = is_op_of SUFFIXES
passes want.Assignment = is_op_of ASSIGNMENTS

-- a result whose lack of a tree is no error
abbrev pub IsAttempt : {A : Type 0} → Result A ParseErr → Result (Option A) WantOfMemory → Type 0
IsAttempt tried (Ok (Some x)) = tried ≡ Ok x
IsAttempt tried (Ok None) = tried ≡ Err NoTree
IsAttempt tried (Err want) = tried ≡ Err Memory

-- the same result, as a pair with what stands before it
abbrev pub IsPair : {A B : Type 0} → A → Result (Taken B) ParseErr → Result (Taken (A × B)) ParseErr → Type 0
IsPair first next (Ok x) = (next ≡ Ok (record { item = x.item.1; end = x.end })) × (x.item.0 ≡ first)
IsPair first next (Err none) = next ≡ Err none

abbrev pub IsPairFound : {A B : Type 0} → A → Result (Found B) ParseErr → Result (Found (A × B)) ParseErr → Type 0
IsPairFound first next (Ok x) = (next ≡ Ok (record { tree = x.tree.1; end = x.end; depth = x.depth })) × (x.tree.0 ≡ first)
IsPairFound first next (Err none) = next ≡ Err none

-- It was read, and shows as what the reader reads.
abbrev pub IsTaken : {A B : Type 0} → (A → B) → List Tok → ℕ → Option (B × List Tok) → Taken A → Type 0
IsTaken shown toks at read x = (read ≡ Some (shown x.item, drop x.end toks)) × (at ≤ x.end) × (x.end ≤ length toks)

abbrev pub Gives : {A B : Type 0} → (A → B) → List Tok → ℕ → Result (Taken A) ParseErr → Option (B × List Tok) → Type 0
Gives shown toks at (Ok x) read = IsTaken shown toks at read x
Gives shown toks at (Err NoTree) read = read ≡ None
Gives shown toks at (Err Memory) read = Unit {0}

-- the same, with the depth of what was read
abbrev pub IsFound : {A B : Type 0} → (A → B) → (B → ℕ) → ℕ → List Tok → ℕ → Option (B × List Tok) → Found A → Type 0
IsFound shown depth room toks at read x =
    (read ≡ Some (shown x.tree, drop x.end toks)) × (at ≤ x.end) × (x.end ≤ length toks) × (x.depth ≡ depth (shown x.tree)) × (x.depth ≤ room)

abbrev pub GivesTree : {A B : Type 0} → (A → B) → (B → ℕ) → ℕ → List Tok → ℕ → Result (Found A) ParseErr → Option (B × List Tok) → Type 0
GivesTree shown depth room toks at (Ok x) read = IsFound shown depth room toks at read x
GivesTree shown depth room toks at (Err NoTree) read = read ≡ None
GivesTree shown depth room toks at (Err Memory) read = Unit {0}

-- an expression itself, no deeper than the room, and the number of the token behind it
abbrev pub GivesExpr : ℕ → List Tok → ℕ → Result (Expr × ℕ) ParseErr → Option (ExprTree × List Tok) → Type 0
GivesExpr room toks at (Ok x) read = (read ≡ Some (expr_shown x.0, drop x.1 toks)) × (at ≤ x.1) × (x.1 ≤ length toks) × (expr_depth (expr_shown x.0) ≤ room)
GivesExpr room toks at (Err NoTree) read = read ≡ None
GivesExpr room toks at (Err Memory) read = Unit {0}
