-- No local declaration stands where there is no token.
use Rattle.std.proofs.Common.{◌≡◌, ℕ, ◌<◌, List, [], None, length, drop, refl, arith}
use Rattle.std.proofs.lemmas.List.{drop_all}
use Rattle.rf_jtree.specs.declared.tokens.Tok.{Tok}
use Rattle.rf_jexpr.specs.NameReads.{name, named_type, type_base, type_use}
use Rattle.rf_jexpr.specs.PartReads.{Parsers}
use Rattle.rf_jexpr.specs.Reads.{and_then, when, begins, token, repeat, many, separated}
use Rattle.rf_jmods.specs.ModReads.{mods}
use Rattle.rf_jstmt.specs.StmtReads.{local_stmt}
use Rattle.rf_jmods.specs.ModTests.{none_twice, one_access, mods_fit, variable_mods_fit}
use Rattle.rf_jmods.specs.ModReads.{variable_mods}
use Rattle.rf_jstmt.specs.VarReads.{local}

local-nothing : (p : Parsers) → local_stmt p [] ≡ None
unfolding local_stmt local variable_mods mods many repeat variable_mods_fit mods_fit none_twice one_access type_use type_base named_type name separated begins token when and_then
local-nothing p = refl

pub local-past : (p : Parsers) (toks : List Tok) (at : ℕ) → length toks < at → local_stmt p (drop at toks) ≡ None
local-past p toks at h = let e : drop at toks ≡ [] = drop_all at toks (omega arith) in rw e (local-nothing p)
