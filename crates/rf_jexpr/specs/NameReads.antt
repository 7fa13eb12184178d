-- The readers of names and of the uses of types. A name is as long as it goes, and so are brackets.
use Rattle.std.specs.Prelude.{Some, if◌then◌else◌}
use Rattle.rf_jtree.specs.declared.names.Dims.{Dims}
use Rattle.rf_jtree.specs.declared.tokens.Tok.{Tok}
use Rattle.rf_jtree.specs.declared.operator_names.TheConstants.{DOT, LEFT_BRACKET, RIGHT_BRACKET}
use Rattle.rf_jtree.specs.declared.keyword_names.TheConstants.{PRIMITIVES}
use Rattle.rf_jtree.specs.Kinds.{is_key_of}
use Rattle.rf_jtree.specs.NameTrees.{NameTree, TypeBaseTree, Prim, Named, TypeUseTree}
use Rattle.rf_jexpr.specs.Reads.{Reads, ◌>>=◌, is_op, is_ident, begins, token, many, separated}

-- identifiers with dots between them (JLS 6.2)
unfoldable pub name : Reads NameTree
name toks = separated DOT (token is_ident) toks >>= λ ids. Some (record { ids = ids.0 }, ids.1)

-- `[` and `]`
unfoldable pub brackets : Reads (Tok × Tok)
brackets toks = do
  left ← token (is_op LEFT_BRACKET) toks
  right ← token (is_op RIGHT_BRACKET) left.1
  Some ((left.0, right.0), right.1)

unfoldable pub dims : Reads Dims
dims toks = many brackets toks >>= λ pairs. Some (record { list = pairs.0 }, pairs.1)

-- a primitive type or a named one (JLS 4.2, 4.3)
unfoldable pub primitive : Reads TypeBaseTree
primitive toks = token (is_key_of PRIMITIVES) toks >>= λ word. Some (Prim word.0, word.1)

unfoldable pub named_type : Reads TypeBaseTree
named_type toks = name toks >>= λ found. Some (Named found.0, found.1)

unfoldable pub type_base : Reads TypeBaseTree
type_base toks = if begins (is_key_of PRIMITIVES) toks then primitive toks else named_type toks

-- the use of a type (JLS 4.1)
unfoldable pub type_use : Reads TypeUseTree
type_use toks = do
  base ← type_base toks
  bracket_pairs ← dims base.1
  Some (record { base = base.0; dims = bracket_pairs.0 }, bracket_pairs.1)
