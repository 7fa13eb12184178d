-- What the readers of variables and local declarations read fits, and is no deeper than the room that is left.
use Rattle.std.proofs.Common.{◌≡◌, ℕ, ◌≤◌, List, [], ◌∷◌, ◌++◌, Option, Some, None, IfSome, arith}
use Rattle.rf_jtree.specs.declared.tokens.Tok.{Tok}
use Rattle.rf_jtree.specs.declared.operator_names.TheConstants.{COMMA, ASSIGN}
use Rattle.rf_jtree.specs.ExprTrees.{InitTree, init_yield, init_depth}
use Rattle.rf_jtree.specs.Kinds.{IsOp}
use Rattle.rf_jtree.specs.NameFits.{EachFits, ManyFit, TypeFits}
use Rattle.rf_jtree.specs.NameTrees.{ManyTree, ModTree, TypeUseTree, type_yield, mods_yield, many_yield, option_depth, many_depth, list_depth}
use Rattle.rf_jtree.specs.StmtFits.{VariableModsFit, BeginningFits, VarFits, LocalFits}
use Rattle.rf_jtree.specs.StmtTrees.{VarTree, LocalTree, var_yield, local_yield, var_depth, local_depth}
use Rattle.rf_jexpr.specs.NameReads.{dims, type_use}
use Rattle.rf_jexpr.specs.PartReads.{Parsers}
use Rattle.rf_jexpr.specs.Reads.{is_op, is_ident, optional, behind, separated}
use Rattle.rf_jexpr.proofs.LoopLemmas.{Read, IsSound, separated-sound, behind-sound}
use Rattle.rf_jexpr.proofs.SoundNames.{optional-sound, dims-sound, type_use-sound}
use Rattle.rf_jexpr.proofs.SoundParts.{AreSound, GoodInit}
use Rattle.rf_jexpr.proofs.Tools.{is_ident-IsIdent}
use Rattle.rf_jmods.specs.ModReads.{variable_mods}
use Rattle.rf_jstmt.specs.VarReads.{var, local_vars, local}
use Rattle.rf_jmods.proofs.SoundMods.{variable_mods-sound}
use Rattle.rf_jmods.proofs.Steps.{step_tok, step_part, done, tok_then, part_then, at_last, max_le}

pub record GoodVar (room : ℕ) (var : VarTree) : Type 0 where
  pub fits : VarFits var
  pub shallow : var_depth var ≤ room

pub record GoodLocal (room : ℕ) (local : LocalTree) : Type 0 where
  pub fits : LocalFits local
  pub shallow : local_depth local ≤ room

-- ---- what a variable begins with

abbrev pub GoodBeginning : ℕ → Tok × InitTree → Type 0
GoodBeginning room beginning = IsOp ASSIGN beginning.0 × GoodInit room beginning.1

beginning_fits : (room : ℕ) (found : Option (Tok × InitTree)) → IfSome found (GoodBeginning room) → IfSome found BeginningFits
beginning_fits room None good = tt
beginning_fits room (Some beginning) good = (good.0, good.1.fits)

beginning_shallow : (room : ℕ) (found : Option (Tok × InitTree)) → IfSome found (GoodBeginning room) → option_depth (λ (init : Tok × InitTree). init_depth init.1) found ≤ room
beginning_shallow room None good = omega arith
beginning_shallow room (Some beginning) good = good.1.shallow

-- ---- several variables

abbrev pub IsMoreVar : ℕ → Tok × VarTree → Type 0
IsMoreVar room part = IsOp COMMA part.0 × GoodVar room part.1

more_vars-fit : (room : ℕ) (rest : List (Tok × VarTree)) → EachFits (IsMoreVar room) rest → EachFits (λ (part : Tok × VarTree). IsOp COMMA part.0 × VarFits part.1) rest
more_vars-fit room [] each = tt
more_vars-fit room (part ∷ rest) each = ((each.0.0, each.0.1.fits), more_vars-fit room rest each.1)

more_vars-shallow : (room : ℕ) (rest : List (Tok × VarTree)) → EachFits (IsMoreVar room) rest → list_depth (λ (part : Tok × VarTree). var_depth part.1) rest ≤ room
more_vars-shallow room [] each = omega arith
more_vars-shallow room (part ∷ rest) each = max_le _ _ room each.0.1.shallow (more_vars-shallow room rest each.1)

pub vars-fit : (room : ℕ) (vars : ManyTree VarTree) → ManyFit (GoodVar room) COMMA vars → ManyFit VarFits COMMA vars
vars-fit room vars good = (good.0.fits, more_vars-fit room vars.rest good.1)

pub vars-shallow : (room : ℕ) (vars : ManyTree VarTree) → ManyFit (GoodVar room) COMMA vars → many_depth var_depth vars ≤ room
vars-shallow room vars good = max_le _ _ room good.0.shallow (more_vars-shallow room vars.rest good.1)

-- ---- the readers

module _ (m : ℕ) (p : Parsers) (s : AreSound m p) where
  pub var-sound : IsSound (GoodVar m) var_yield (var p)
  unfolding var
  var-sound toks y h =
      step_tok is_ident toks _ y h (λ id a k.
      step_part _ _ dims id.1 _ y dims-sound k (λ bracket_pairs b l.
      step_part _ _ (optional (behind (is_op ASSIGN) p.init)) bracket_pairs.1 _ y (optional-sound _ _ _ (behind-sound (GoodInit m) init_yield ASSIGN p.init s.init)) l (λ beginning c same.
      done (GoodVar m) var_yield toks (record { id = id.0; dims = bracket_pairs.0; init = beginning.0 }) beginning.1 y same
      (record {
        fits = record { id_is = is_ident-IsIdent id.0 a.is; dims_fit = b.fits; beginning_fits = beginning_fits m beginning.0 c.fits };
        shallow = beginning_shallow m beginning.0 c.fits;
      })
      (tok_then a.takes (part_then _ b.takes (at_last _ c.takes))))))

  pub vars-sound : IsSound (ManyFit (GoodVar m) COMMA) (many_yield var_yield) (separated COMMA (var p))
  vars-sound = separated-sound (GoodVar m) var_yield COMMA (var p) var-sound

  -- behind modifiers and a type that fit
  pub local_vars-sound : (found : List ModTree) (used_type : TypeUseTree) → VariableModsFit found → TypeFits used_type → (toks : List Tok) (y : LocalTree × List Tok) → local_vars p found used_type toks ≡ Some y
      → (whole behind : List Tok) → whole ≡ mods_yield found ++ behind → behind ≡ type_yield used_type ++ toks → Read (GoodLocal m) local_yield whole y.0 y.1
  unfolding local_vars
  local_vars-sound found used_type mods_fit used_type_fits toks y h whole behind takes_mods takes_used_type =
      step_part _ _ (separated COMMA (var p)) toks _ y vars-sound h (λ vars a same.
      done (GoodLocal m) local_yield whole (record { mods = found; used_type = used_type; vars = vars.0 }) vars.1 y same
      (record { fits = record { mods_fit = mods_fit; used_type_fits = used_type_fits; vars_fit = vars-fit m vars.0 a.fits }; shallow = vars-shallow m vars.0 a.fits })
      (part_then _ takes_mods (part_then _ takes_used_type (at_last _ a.takes))))

  pub local-sound : IsSound (GoodLocal m) local_yield (local p)
  unfolding local
  local-sound toks y h =
      step_part _ _ variable_mods toks _ y variable_mods-sound h (λ found a k.
      step_part _ _ type_use found.1 _ y type_use-sound k (λ used_type b l.
      local_vars-sound found.0 used_type.0 a.fits b.fits used_type.1 y l toks found.1 a.takes b.takes))
