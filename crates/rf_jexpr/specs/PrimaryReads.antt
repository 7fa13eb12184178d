-- The readers of primary expressions (JLS 15.8): a first part, and what may follow it as long as it goes.
use Rattle.std.specs.Prelude.{ℕ, suc, nat_le, List, [], ◌∷◌, Some, None, Bool, true, false, if◌then◌else◌}
use Rattle.rf_jtree.specs.declared.names.Dims.{Dims}
use Rattle.rf_jtree.specs.declared.tokens.Tok.{Tok}
use Rattle.rf_jtree.specs.declared.operator_names.TheConstants.{LEFT_PAREN, DOT}
use Rattle.rf_jtree.specs.declared.keyword_names.TheConstants.{NEW, SUPER, THIS}
use Rattle.rf_jtree.specs.ExprShown.{sizes_tree, super_args_tree}
use Rattle.rf_jtree.specs.ExprTrees.{ExprTree, Lit, This, Name, Call, Field, Super, New, Index, NewArray, NewInit, On, expr_depth, on_depth}
use Rattle.rf_jtree.specs.Kinds.{is_literal}
use Rattle.rf_jtree.specs.NameTrees.{NameTree, TypeBaseTree, Prim, Named}
use Rattle.rf_jmake.specs.Called.{called_on, called_id}
use Rattle.rf_jexpr.specs.NameReads.{name, dims, type_base}
use Rattle.rf_jexpr.specs.PartReads.{Parsers, paren, args, sized, braces}
use Rattle.rf_jexpr.specs.Reads.{Reads, ◌>>=◌, or_else, when, is_op, is_key, is_ident, begins, token, optional, many, chain}

unfoldable pub literal : Reads ExprTree
literal toks = token is_literal toks >>= λ tok. Some (Lit tok.0, tok.1)

unfoldable pub this_word : Reads ExprTree
this_word toks = token (is_key THIS) toks >>= λ word. Some (This word.0, word.1)

-- `super.x` or `super.m(..)`; where the arguments fail, it is the field (JLS 15.11.2, 15.12)
unfoldable pub super_member : Parsers → Reads ExprTree
super_member p toks = do
  word ← token (is_key SUPER) toks
  dot ← token (is_op DOT) word.1
  id ← token is_ident dot.1
  list ← optional (args p) id.1
  Some (Super word.0 dot.0 id.0 (super_args_tree list.0), list.1)

-- `new C(..)` (JLS 15.9)
unfoldable pub new_class : Parsers → Tok → TypeBaseTree → Reads ExprTree
new_class p word (Prim tok) toks = None
new_class p word (Named class) toks = args p toks >>= λ list. Some (New word class list.0, list.1)

unfoldable pub has_brackets : Dims → Bool
has_brackets found = has_some found.list
  where
    has_some : List (Tok × Tok) → Bool
    has_some [] = false
    has_some (pair ∷ pairs) = true

-- `new T[]..{..}` (JLS 15.10)
unfoldable pub new_filled : Parsers → Tok → TypeBaseTree → Reads ExprTree
new_filled p word base toks = do
  bracket_pairs ← dims toks
  items ← when (has_brackets bracket_pairs.0) (braces p bracket_pairs.1)
  Some (NewInit word base bracket_pairs.0 items.0, items.1)

-- a new array, behind its sizes (JLS 15.10)
unfoldable pub new_array : Parsers → Tok → TypeBaseTree → List (Tok × ExprTree × Tok) → Reads ExprTree
new_array p word base [] toks = new_filled p word base toks
new_array p word base (size ∷ sizes) toks = dims toks >>= λ bracket_pairs. Some (NewArray word base (sizes_tree (size ∷ sizes)) bracket_pairs.0, bracket_pairs.1)

unfoldable pub creation : Parsers → Reads ExprTree
creation p toks = do
  word ← token (is_key NEW) toks
  base ← type_base word.1
  if begins (is_op LEFT_PAREN) base.1 then new_class p word.0 base.0 base.1
      else (many (sized p) base.1 >>= λ sizes. new_array p word.0 base.0 sizes.0 sizes.1)

-- In what follows `p` has the room `m`, and so the expression that is read has one more.

-- a call whose method, and what it is called on, are this name (JLS 15.12)
unfoldable pub named_call : ℕ → Parsers → NameTree → Reads ExprTree
named_call m p found toks =
    when (nat_le (on_depth (called_on found.ids.first found.ids.rest)) m)
    (args p toks >>= λ list. Some (Call (called_on found.ids.first found.ids.rest) (called_id found.ids.first found.ids.rest) list.0, list.1))

-- a name as long as it goes, and a call of it where arguments follow
unfoldable pub named : ℕ → Parsers → Reads ExprTree
named m p toks = name toks >>= λ found. or_else (named_call m p found.0 found.1) (Some (Name found.0, found.1))

-- the first part
unfoldable pub first_part : ℕ → Parsers → Reads ExprTree
first_part m p toks =
    if begins is_literal toks then literal toks
    else (if begins (is_key THIS) toks then this_word toks
    else (if begins (is_op LEFT_PAREN) toks then paren p toks
    else (if begins (is_key SUPER) toks then super_member p toks
    else (if begins (is_key NEW) toks then creation p toks
    else named m p toks))))

-- `.m(..)` behind an expression (JLS 15.12)
unfoldable pub member_call : Parsers → ExprTree → Tok → Tok → Reads ExprTree
member_call p on dot id toks = args p toks >>= λ list. Some (Call (On on dot) id list.0, list.1)

unfoldable pub is_no_name : ExprTree → Bool
is_no_name (Name found) = false
is_no_name expr = true

-- `.x` behind an expression, but for a name, which is as long as it goes (JLS 15.11)
unfoldable pub field : ExprTree → Tok → Tok → Reads ExprTree
field on dot id toks = when (is_no_name on) (Some (Field on dot id, toks))

unfoldable pub member : Parsers → ExprTree → Reads ExprTree
member p on toks = do
  dot ← token (is_op DOT) toks
  id ← token is_ident dot.1
  or_else (member_call p on dot.0 id.0 id.1) (field on dot.0 id.0 id.1)

unfoldable pub is_no_new_array : ExprTree → Bool
is_no_new_array (NewArray word base sizes bracket_pairs) = false
is_no_new_array expr = true

-- `[..]` behind an expression, but for a new array, to which they belong (JLS 15.10, 15.13)
unfoldable pub item : Parsers → ExprTree → Reads ExprTree
item p on toks = do
  index ← when (is_no_new_array on) (sized p toks)
  Some (Index on index.0.0 index.0.1 index.0.2, index.1)

-- what follows, where this room is left for the expression in hand
unfoldable pub suffix : ℕ → Parsers → ExprTree → Reads ExprTree
suffix m p on toks = when (nat_le (expr_depth on) m) (if begins (is_op DOT) toks then member p on toks else item p on toks)

unfoldable pub primary : ℕ → Parsers → Reads ExprTree
primary m p toks = first_part m p toks >>= λ first. chain (suffix m p) (suc m) first.0 first.1
