-- What the code gives is the longest tree, and none exactly where there is none.
use Rattle.std.proofs.Common.{◌≡◌, ℕ, ◌≤◌, List, Result, Ok, Err, drop, length, arith}
use Rattle.rf_jtree.specs.declared.exprs.Expr.{Expr}
use Rattle.rf_jtree.specs.declared.tokens.Tok.{Tok}
use Rattle.rf_jtree.specs.ExprFits.{ExprFits, InitFits, ArgsFit}
use Rattle.rf_jtree.specs.ExprShown.{expr_shown}
use Rattle.rf_jtree.specs.ExprTrees.{expr_yield, expr_depth, init_yield, init_depth, args_yield, args_depth}
use Rattle.rf_jtree.specs.NameFits.{NameFits, TypeFits}
use Rattle.rf_jtree.specs.NameTrees.{name_yield, type_yield}
use Rattle.rf_jexpr.specs.declared.found.Found.{Found}
use Rattle.rf_jexpr.specs.declared.found.Taken.{Taken}
use Rattle.rf_jexpr.specs.declared.parse_err.ParseErr.{ParseErr}
use Rattle.rf_jexpr.specs.declared.parse_err.ParseErr.TheVariants.{NoTree, Memory}
use Rattle.rf_jexpr.specs.Descent.{parsers}
use Rattle.rf_jexpr.specs.Gives.{Gives, GivesTree, GivesExpr}
use Rattle.rf_jexpr.specs.Longest.{IsLongest, IsLongestOf, not_deep, of_taken, of_found}
use Rattle.rf_jexpr.specs.NameReads.{name, type_use}
use Rattle.rf_jexpr.specs.PartReads.{args}
use Rattle.rf_jexpr.specs.Reads.{Reads}
use Rattle.rf_jexpr.proofs.CompleteNames.{name-far, type_use-far}
use Rattle.rf_jexpr.proofs.CompleteParts.{args-exact}
use Rattle.rf_jexpr.proofs.CompleteRooms.{parsers-complete}
use Rattle.rf_jexpr.proofs.Final.{good_in}
use Rattle.rf_jexpr.proofs.LongestLemmas.{ReadsLongest, is_longest, none_stands}
use Rattle.rf_jexpr.proofs.Sound.{parsers-sound}
use Rattle.rf_jexpr.proofs.SoundNames.{name-sound, type_use-sound}
use Rattle.rf_jexpr.proofs.SoundParts.{args-sound}
use Rattle.rf_jexpr.proofs.Within.{reaches-Some}

-- ---- the readers that do

pub names_longest : ReadsLongest NameFits name_yield not_deep 0 name
names_longest = record {
  sound = λ toks y h. let taken = name-sound toks y h in record { fits = record { fits = taken.fits; shallow = omega arith }; takes = taken.takes };
  far = λ x rest good. name-far x rest good.fits;
}

pub types_longest : ReadsLongest TypeFits type_yield not_deep 0 type_use
types_longest = record {
  sound = λ toks y h. let taken = type_use-sound toks y h in record { fits = record { fits = taken.fits; shallow = omega arith }; takes = taken.takes };
  far = λ x rest good. type_use-far x rest good.fits;
}

pub exprs_longest : (room : ℕ) → ReadsLongest ExprFits expr_yield expr_depth room (parsers room).expr
exprs_longest room = record {
  sound = λ toks y h. let taken = (parsers-sound room).expr toks y h in record { fits = record { fits = taken.fits.fits; shallow = taken.fits.shallow }; takes = taken.takes };
  far = λ x rest good. (parsers-complete room).expr.far x rest (good_in room x good.fits good.shallow);
}

pub inits_longest : (room : ℕ) → ReadsLongest InitFits init_yield init_depth room (parsers room).init
inits_longest room = record {
  sound = λ toks y h. let taken = (parsers-sound room).init toks y h in record { fits = record { fits = taken.fits.fits; shallow = taken.fits.shallow }; takes = taken.takes };
  far = λ x rest good. (parsers-complete room).init.far x rest (record { fits = good.fits; shallow = good.shallow });
}

pub args_longest : (room : ℕ) → ReadsLongest ArgsFit args_yield args_depth room (args (parsers room))
args_longest room = record {
  sound = λ toks y h. let taken = args-sound room (parsers room) (parsers-sound room) toks y h in record { fits = record { fits = taken.fits.fits; shallow = taken.fits.shallow }; takes = taken.takes };
  far = λ x rest good. reaches-Some (length rest) _ (x, rest) (args-exact room (parsers room) (parsers-complete room) x rest (record { fits = good.fits; shallow = good.shallow }) tt) (omega arith);
}

-- ---- what is answered

module _ {A B : Type 0} (Fits : A → Type 0) (yield : A → List Tok) (depth : A → ℕ) (room : ℕ) (read : Reads A) (l : ReadsLongest Fits yield depth room read) (toks : List Tok) (start : ℕ) (shown : B → A) where
  pub longest_taken : (result : Result (Taken B) ParseErr) → Gives shown toks start result (read (drop start toks)) → IsLongestOf Fits yield depth shown toks start room (of_taken result)
  longest_taken (Ok x) gives = is_longest Fits yield depth room read l toks start shown x.item x.end gives.0 gives.2
  longest_taken (Err NoTree) gives = none_stands Fits yield depth room read l toks start gives
  longest_taken (Err Memory) gives = tt

  pub longest_found : (result : Result (Found B) ParseErr) → GivesTree shown depth room toks start result (read (drop start toks)) → IsLongestOf Fits yield depth shown toks start room (of_found result)
  longest_found (Ok x) gives = is_longest Fits yield depth room read l toks start shown x.tree x.end gives.0 gives.2
  longest_found (Err NoTree) gives = none_stands Fits yield depth room read l toks start gives
  longest_found (Err Memory) gives = tt

pub longest-of : (toks : List Tok) (start room : ℕ) (result : Result (Expr × ℕ) ParseErr) → GivesExpr room toks start result ((parsers room).expr (drop start toks)) → IsLongest toks start room result
longest-of toks start room (Ok x) gives = is_longest ExprFits expr_yield expr_depth room (parsers room).expr (exprs_longest room) toks start expr_shown x.0 x.1 gives.0 gives.2
longest-of toks start room (Err NoTree) gives = none_stands ExprFits expr_yield expr_depth room (parsers room).expr (exprs_longest room) toks start gives
longest-of toks start room (Err Memory) gives = tt
