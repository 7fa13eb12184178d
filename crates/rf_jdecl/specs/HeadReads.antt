-- The readers of what stands in the heads of members, types and files: modifiers, names behind a keyword, and parameters.
use Rattle.std.specs.Prelude.{List, Some, Bool, ◌&&◌}
use Rattle.rf_jtree.specs.declared.tokens.Tok.{Tok}
use Rattle.rf_jtree.specs.declared.words.Kw.{Kw}
use Rattle.rf_jtree.specs.declared.operator_names.TheConstants.{LEFT_PAREN, RIGHT_PAREN, COMMA}
use Rattle.rf_jtree.specs.DeclTrees.{ParamTree, ParamsTree}
use Rattle.rf_jtree.specs.NameTrees.{ManyTree, NameTree, ModTree}
use Rattle.rf_jexpr.specs.NameReads.{name, dims, type_use}
use Rattle.rf_jexpr.specs.Reads.{Reads, ◌>>=◌, when, is_op, is_key, is_ident, begins, token, optional, behind, separated}
use Rattle.rf_jmods.specs.ModReads.{mods, goes_on_with}
use Rattle.rf_jmods.specs.ModTests.{mods_fit}
use Rattle.rf_jmods.specs.ModReads.{variable_mods}

-- the modifiers of a member or a type (JLS 8.1.1, 8.3.1, 8.4.3)
unfoldable pub fitting_mods : Reads (List ModTree)
fitting_mods toks = mods toks >>= λ found. when (mods_fit found.0) (Some found)

-- names with commas between them behind this keyword (JLS 8.1.5, 8.4.6, 9.1.3)
unfoldable pub names_behind : Kw → Reads (Tok × ManyTree NameTree)
names_behind key = behind (is_key key) (separated COMMA name)

-- a parameter (JLS 8.4.1)
unfoldable pub param : Reads ParamTree
param toks = do
  found ← variable_mods toks
  used_type ← type_use found.1
  id ← token is_ident used_type.1
  bracket_pairs ← dims id.1
  Some (record { mods = found.0; used_type = used_type.0; id = id.0; dims = bracket_pairs.0 }, bracket_pairs.1)

-- parameters in parentheses (JLS 8.4.1)
unfoldable pub params : Reads ParamsTree
params toks = do
  left ← token (is_op LEFT_PAREN) toks
  list ← optional (separated COMMA param) left.1
  right ← token (is_op RIGHT_PAREN) list.1
  Some (record { left = left.0; list = list.0; right = right.0 }, right.1)

-- an identifier with `(` behind it, as the name of a constructor or a method
unfoldable pub begins_callable : List Tok → Bool
begins_callable toks = begins is_ident toks && goes_on_with (is_op LEFT_PAREN) toks
