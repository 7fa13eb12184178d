-- What the code answers of all tokens is what a parser of files has to answer.
use Rattle.std.proofs.Common.{◌≡◌, ℕ, List, Option, Result, Ok, Err, refl, sym, subst}
use Rattle.std.specs.Result.{IsErr, IsErrAnd}
use Rattle.rf_jtree.specs.declared.decls.Unit.{Unit as File}
use Rattle.rf_jtree.specs.declared.tokens.Tok.{Tok}
use Rattle.rf_jtree.specs.DeclShown.{unit_shown}
use Rattle.rf_jexpr.specs.Gives.{Gives, GivesTree}
use Rattle.rf_jexpr.specs.Reads.{and_then}
use Rattle.rf_jexpr.specs.declared.found.Found.{Found}
use Rattle.rf_jexpr.specs.declared.parse_err.ParseErr.{ParseErr}
use Rattle.rf_jexpr.specs.declared.parse_err.ParseErr.TheVariants.{NoTree, Memory}
use Rattle.rf_jdecl.specs.DeclMade.{GivesUnit}
use Rattle.rf_jdecl.specs.Files.{IsFile}
use Rattle.rf_jdecl.specs.UnitReads.{ROOM, whole_unit, unit}
use Rattle.rf_jdecl.proofs.Final.{tree_of, no_other, no_tree}

pub file-of : (toks : List Tok) (result : Result File ParseErr) → GivesUnit result (whole_unit ROOM toks) → IsFile toks result
unfolding unit
file-of toks (Ok found) read = (tree_of toks (unit_shown found) read, no_other toks (unit_shown found) read)
file-of toks (Err NoTree) read = no_tree toks read
file-of toks (Err Memory) read = tt

-- where a part was not read, neither is what it is a part of
pub refused : {A B C D : Type 0} (shown : A → B) (depth : B → ℕ) (room : ℕ) (toks : List Tok) (at : ℕ) (shown_part : C → D) (part_at : ℕ) (error : ParseErr) (read : Option (D × List Tok)) (next : D × List Tok → Option (B × List Tok))
    → Gives shown_part toks part_at (Err error) read → GivesTree shown depth room toks at (Err error) (and_then read next)
unfolding and_then
refused shown depth room toks at shown_part part_at NoTree read next h = rw h refl
refused shown depth room toks at shown_part part_at Memory read next h = tt

-- where memory is wanted, nothing else is said
pub wanting : {A B : Type 0} (shown : A → B) (depth : B → ℕ) (room : ℕ) (toks : List Tok) (at : ℕ) (result : Result (Found A) ParseErr) (read : Option (B × List Tok)) → result ≡ Err Memory → GivesTree shown depth room toks at result read
wanting {A} {B} shown depth room toks at result read h = subst (λ (r : Result (Found A) ParseErr). GivesTree shown depth room toks at r read) (sym h) tt

-- the error that `?` hands on
pub handed : {A : Type 0} (result : Result A ParseErr) (error : ParseErr) → IsErr result × IsErrAnd result (λ e. e ≡ error) → result ≡ Err error
handed (Ok x) error h = absurd h.1
handed (Err e) error h = rw h.1 refl
