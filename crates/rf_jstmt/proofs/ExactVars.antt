-- Variables and local declarations are read where they stand, and told from labels and from expressions.
use Rattle.std.proofs.Common.{◌≡◌, ℕ, ◌≤◌, List, [], ◌∷◌, ◌++◌, Option, Some, None, Bool, true, false, ◌&&◌, IsTrue, IfSome, refl, ◌∙◌, sym, subst, arith, append_assoc}
use Rattle.std.specs.List.{flat_map}
use Rattle.rf_jtree.specs.declared.tokens.Tok.{Tok}
use Rattle.rf_jtree.specs.declared.levels.TheConstants.{ASSIGNMENT_LEVEL}
use Rattle.rf_jtree.specs.declared.operator_names.TheConstants.{LEFT_BRACKET, SEMICOLON, COMMA, COLON, DOT, ASSIGN, AT}
use Rattle.rf_jtree.specs.declared.keyword_names.TheConstants.{FINAL}
use Rattle.rf_jtree.specs.ExprTrees.{InitTree, expr_yield, init_yield, init_depth}
use Rattle.rf_jtree.specs.Kinds.{IsOp, IsIdent}
use Rattle.rf_jtree.specs.NameFits.{EachFits, ManyFit, ModFits, BaseFits, BracketsFit, TypeFits}
use Rattle.rf_jtree.specs.NameTrees.{ManyTree, ModTree, Word, Mark, Suppress, TypeBaseTree, Prim, Named, TypeUseTree, base_yield, type_yield, dims_yield, pair_yield, mod_yield, mods_yield, option_yield, many_yield, behind_yield, option_depth, many_depth, list_depth}
use Rattle.rf_jtree.specs.StmtFits.{IsFinalOrAnnotation, VariableModsFit, BeginningFits, VarFits}
use Rattle.rf_jtree.specs.StmtTrees.{VarTree, LocalTree, var_yield, var_depth}
use Rattle.rf_jexpr.specs.Descent.{parsers}
use Rattle.rf_jexpr.specs.NameReads.{type_use}
use Rattle.rf_jexpr.specs.PartReads.{Parsers}
use Rattle.rf_jexpr.specs.Reads.{is_op, is_key, is_ident, begins, optional, behind, separated}
use Rattle.rf_jexpr.specs.Stops.{Stops}
use Rattle.rf_jexpr.proofs.CompleteNames.{dims-exact, type_use-exact, no_brackets}
use Rattle.rf_jexpr.proofs.CompleteRooms.{parsers-complete}
use Rattle.rf_jexpr.proofs.LoopLemmas.{IsExact, separated-exact, behind-exact}
use Rattle.rf_jexpr.proofs.SoundParts.{Good, GoodInit}
use Rattle.rf_jexpr.proofs.StopLemmas.{stops_comma, stops_semicolon}
use Rattle.rf_jexpr.proofs.Tools.{and_true, bind-Some, bind-None, token-at, token-other, optional-Some, optional-None, IsOp-is_op, IsKey-is_key, IsIdent-is_ident}
use Rattle.rf_jstmt.specs.VarReads.{var, local_vars, marks_local, ends_before, begins_local, begins_label}
use Rattle.rf_jstmt.proofs.SoundVars.{GoodVar, GoodLocal, IsMoreVar, GoodBeginning}
use Rattle.rf_jmods.proofs.ModTestLemmas.{first_true, second_true}

-- the readers of expressions of a room read each one that fits where it stands
pub record AreExact (room : ℕ) (p : Parsers) : Type 0 where
  pub expr : IsExact (Good ASSIGNMENT_LEVEL room) (Stops ASSIGNMENT_LEVEL) expr_yield p.expr
  pub init : IsExact (GoodInit room) (Stops ASSIGNMENT_LEVEL) init_yield p.init

pub parsers-exact : (room : ℕ) → AreExact room (parsers room)
parsers-exact room = let complete = parsers-complete room in record { expr = complete.expr.exact; init = complete.init.exact }

-- ---- a variable

-- what ends one
pub record EndsVar (rest : List Tok) : Type 0 where
  pub stop : Stops ASSIGNMENT_LEVEL rest
  pub no_bracket : begins (is_op LEFT_BRACKET) rest ≡ false
  pub no_assign : begins (is_op ASSIGN) rest ≡ false

pub comma_ends : (tok : Tok) (rest : List Tok) → IsOp COMMA tok → EndsVar (tok ∷ rest)
unfolding begins is_op
comma_ends tok rest h = record { stop = stops_comma tok rest h; no_bracket = rw h refl; no_assign = rw h refl }

pub semi_ends : (tok : Tok) (rest : List Tok) → IsOp SEMICOLON tok → EndsVar (tok ∷ rest)
unfolding begins is_op
semi_ends tok rest h = record { stop = stops_semicolon tok rest h; no_bracket = rw h refl; no_assign = rw h refl }

assign_no_bracket : (tok : Tok) (rest : List Tok) → IsOp ASSIGN tok → begins (is_op LEFT_BRACKET) (tok ∷ rest) ≡ false
unfolding begins is_op
assign_no_bracket tok rest h = rw h refl

beginning_no_bracket : (found : Option (Tok × InitTree)) (rest : List Tok) → IfSome found BeginningFits → EndsVar rest → begins (is_op LEFT_BRACKET) (option_yield (behind_yield init_yield) found ++ rest) ≡ false
beginning_no_bracket None rest fit stops = stops.no_bracket
beginning_no_bracket (Some beginning) rest fit stops = assign_no_bracket beginning.0 _ fit.0

pub var_good : (room : ℕ) (var : VarTree) → VarFits var → var_depth var ≤ room → IfSome var.init (GoodBeginning room)
var_good room var fit shallow = by_init var.init fit.beginning_fits shallow
  where
    by_init : (found : Option (Tok × InitTree)) → IfSome found BeginningFits → option_depth (λ (init : Tok × InitTree). init_depth init.1) found ≤ room → IfSome found (GoodBeginning room)
    by_init None fit shallow = tt
    by_init (Some beginning) fit shallow = (fit.0, record { fits = fit.1; shallow = shallow })

more_vars_good : (room : ℕ) (rest : List (Tok × VarTree)) → EachFits (λ (part : Tok × VarTree). IsOp COMMA part.0 × VarFits part.1) rest → list_depth (λ (part : Tok × VarTree). var_depth part.1) rest ≤ room → EachFits (IsMoreVar room) rest
more_vars_good room [] fit shallow = tt
more_vars_good room (part ∷ rest) fit shallow = ((fit.0.0, record { fits = fit.0.1; shallow = omega arith }), more_vars_good room rest fit.1 (omega arith))

pub vars_good : (room : ℕ) (vars : ManyTree VarTree) → ManyFit VarFits COMMA vars → many_depth var_depth vars ≤ room → ManyFit (GoodVar room) COMMA vars
vars_good room vars fit shallow = (record { fits = fit.0; shallow = omega arith }, more_vars_good room vars.rest fit.1 (omega arith))

-- ---- the readers

module _ (m : ℕ) (p : Parsers) (exact : AreExact m p) where
  beginning-exact : (found : Option (Tok × InitTree)) (rest : List Tok) → IfSome found (GoodBeginning m) → EndsVar rest → optional (behind (is_op ASSIGN) p.init) (option_yield (behind_yield init_yield) found ++ rest) ≡ Some (found, rest)
  unfolding behind
  beginning-exact None rest fit stops = optional-None _ rest (bind-None _ _ (token-other (is_op ASSIGN) rest stops.no_assign))
  beginning-exact (Some beginning) rest fit stops = optional-Some _ _ beginning rest (behind-exact (GoodInit m) (Stops ASSIGNMENT_LEVEL) init_yield ASSIGN p.init exact.init beginning rest fit stops.stop)

  pub var-exact : IsExact (GoodVar m) EndsVar var_yield (var p)
  unfolding var
  var-exact found rest good stops =
      rw append_assoc
      (bind-Some _ _ _ _ (token-at is_ident found.id _ (IsIdent-is_ident found.id good.fits.id_is))
      (bind-Some _ _ _ _ (dims-exact found.dims (option_yield (behind_yield init_yield) found.init ++ rest) good.fits.dims_fit (no_brackets _ (beginning_no_bracket found.init rest good.fits.beginning_fits stops)))
      (bind-Some _ _ _ _ (beginning-exact found.init rest (var_good m found good.fits good.shallow) stops) refl)))

  pub vars-exact : IsExact (ManyFit (GoodVar m) COMMA) (λ rest. EndsVar rest × (behind (is_op COMMA) (var p) rest ≡ None)) (many_yield var_yield) (separated COMMA (var p))
  vars-exact = separated-exact (GoodVar m) EndsVar var_yield COMMA (var p) var-exact comma_ends

  -- before a `;`
  pub vars_semi-exact : (vars : ManyTree VarTree) (semi : Tok) (rest : List Tok) → ManyFit (GoodVar m) COMMA vars → IsOp SEMICOLON semi → separated COMMA (var p) (many_yield var_yield vars ++ semi ∷ rest) ≡ Some (vars, semi ∷ rest)
  unfolding behind begins is_op
  vars_semi-exact vars semi rest good is =
      let none : behind (is_op COMMA) (var p) (semi ∷ rest) ≡ None = bind-None _ _ (token-other (is_op COMMA) (semi ∷ rest) (rw is refl)) in
      vars-exact vars (semi ∷ rest) good (semi_ends semi rest is, none)

  pub local_vars-exact : (found : LocalTree) (semi : Tok) (rest : List Tok) → GoodLocal m found → IsOp SEMICOLON semi → local_vars p found.mods found.used_type (many_yield var_yield found.vars ++ semi ∷ rest) ≡ Some (found, semi ∷ rest)
  unfolding local_vars
  local_vars-exact found semi rest good is = bind-Some _ _ _ _ (vars_semi-exact found.vars semi rest (vars_good m found.vars good.fits.vars_fit good.shallow) is) refl

-- a type before an identifier
ident_no_op : (tok : Tok) (rest : List Tok) → IsIdent tok → (begins (is_op DOT) (tok ∷ rest) ≡ false) × (begins (is_op LEFT_BRACKET) (tok ∷ rest) ≡ false)
unfolding begins is_op
ident_no_op tok rest h = (rw h refl, rw h refl)

pub type-exact : (used_type : TypeUseTree) (id : Tok) (rest : List Tok) → TypeFits used_type → IsIdent id → type_use (type_yield used_type ++ id ∷ rest) ≡ Some (used_type, id ∷ rest)
type-exact used_type id rest fit is = let stops = ident_no_op id rest is in type_use-exact used_type (id ∷ rest) fit (stops.0, no_brackets (id ∷ rest) stops.1)

-- ---- where a declaration begins

mod_begins_local : (one : ModTree) (rest : List Tok) → ModFits one → IsFinalOrAnnotation one → IsTrue (begins marks_local (mod_yield one ++ rest))
unfolding begins marks_local
mod_begins_local (Word tok) rest fit is = first_true (is_key FINAL tok) _ (IsKey-is_key FINAL tok is)
mod_begins_local (Mark at id pair) rest fit is = second_true (is_key FINAL at) _ (first_true (is_op AT at) _ (IsOp-is_op AT at fit.0))
mod_begins_local (Suppress at id left list right) rest fit is = second_true (is_key FINAL at) _ (first_true (is_op AT at) _ (IsOp-is_op AT at fit.0.at_is))

type_begins_local : (base : TypeBaseTree) (pairs : List (Tok × Tok)) (id : Tok) (rest : List Tok) → BaseFits base → EachFits BracketsFit pairs → IsIdent id → IsTrue (begins_local ((base_yield base ++ flat_map pair_yield pairs) ++ id ∷ rest))
unfolding begins_local begins marks_local ends_before
type_begins_local (Prim tok) pairs id rest fit each is = first_true _ _ (second_true (is_key FINAL tok) _ (second_true (is_op AT tok) _ fit))
type_begins_local (Named found) pairs id rest fit each is =
    let used_type : TypeUseTree = record { base = Named found; dims = record { list = pairs } } in
    second_true (begins marks_local (type_yield used_type ++ id ∷ rest)) _ (subst (λ read. IsTrue (ends_before is_ident read)) (sym (type-exact used_type id rest (fit, each) is)) (IsIdent-is_ident id is))

pub declaration_begins : (mods : List ModTree) (used_type : TypeUseTree) (id : Tok) (rest : List Tok) → VariableModsFit mods → TypeFits used_type → IsIdent id → IsTrue (begins_local (mods_yield mods ++ (type_yield used_type ++ id ∷ rest)))
unfolding begins_local
declaration_begins [] used_type id rest fit used_type_fits is = type_begins_local used_type.base used_type.dims.list id rest used_type_fits.0 used_type_fits.1 is
declaration_begins (one ∷ mods) used_type id rest fit used_type_fits is =
    let here = mod_begins_local one (mods_yield mods ++ (type_yield used_type ++ id ∷ rest)) fit.fit.each.0 fit.each.0 in
    first_true _ _ (subst (λ toks. IsTrue (begins marks_local toks)) (sym (append_assoc (mod_yield one) (mods_yield mods) (type_yield used_type ++ id ∷ rest))) here)

-- ---- no label stands where variables do

pub begins_no_label : (id : Tok) (rest : List Tok) → begins (is_op COLON) rest ≡ false → begins_label (id ∷ rest) ≡ false
unfolding begins_label
begins_no_label id rest h = rw h (and_false (is_ident id))
  where
    and_false : (one : Bool) → (one && false) ≡ false
    and_false true = refl
    and_false false = refl

pub is_label : (id colon : Tok) (rest : List Tok) → IsIdent id → IsOp COLON colon → IsTrue (begins_label (id ∷ colon ∷ rest))
unfolding begins_label begins
is_label id colon rest id_is colon_is = and_true (is_ident id) (is_op COLON colon) (IsIdent-is_ident id id_is) (IsOp-is_op COLON colon colon_is)

beginning_no_colon : (found : Option (Tok × InitTree)) (rest : List Tok) → IfSome found BeginningFits → begins (is_op COLON) rest ≡ false → begins (is_op COLON) (option_yield (behind_yield init_yield) found ++ rest) ≡ false
unfolding begins is_op
beginning_no_colon None rest fit h = h
beginning_no_colon (Some beginning) rest fit h = rw fit.0 refl

dims_no_colon : (pairs : List (Tok × Tok)) (rest : List Tok) → EachFits BracketsFit pairs → begins (is_op COLON) rest ≡ false → begins (is_op COLON) (flat_map pair_yield pairs ++ rest) ≡ false
unfolding begins is_op
dims_no_colon [] rest fit h = h
dims_no_colon (pair ∷ pairs) rest fit h = rw fit.0.0 refl

more_no_colon : (more : List (Tok × VarTree)) (rest : List Tok) → EachFits (λ (part : Tok × VarTree). IsOp COMMA part.0 × VarFits part.1) more → begins (is_op COLON) rest ≡ false → begins (is_op COLON) (flat_map (λ (part : Tok × VarTree). part.0 ∷ var_yield part.1) more ++ rest) ≡ false
unfolding begins is_op
more_no_colon [] rest fit h = h
more_no_colon (part ∷ more) rest fit h = rw fit.0.0 refl

pub vars_no_label : (vars : ManyTree VarTree) (rest : List Tok) → ManyFit VarFits COMMA vars → begins (is_op COLON) rest ≡ false → begins_label (many_yield var_yield vars ++ rest) ≡ false
vars_no_label vars rest fit h =
    let bracket_pairs : List Tok = dims_yield vars.first.dims in
    let beginning : List Tok = option_yield (behind_yield init_yield) vars.first.init in
    let more : List Tok = flat_map (λ (part : Tok × VarTree). part.0 ∷ var_yield part.1) vars.rest in
    let same : ((bracket_pairs ++ beginning) ++ more) ++ rest ≡ bracket_pairs ++ (beginning ++ (more ++ rest)) = append_assoc (bracket_pairs ++ beginning) more rest ∙ append_assoc bracket_pairs beginning (more ++ rest) in
    let none : begins (is_op COLON) (bracket_pairs ++ (beginning ++ (more ++ rest))) ≡ false =
    dims_no_colon vars.first.dims.list _ fit.0.dims_fit (beginning_no_colon vars.first.init _ fit.0.beginning_fits (more_no_colon vars.rest rest fit.1 h)) in
    begins_no_label vars.first.id (((bracket_pairs ++ beginning) ++ more) ++ rest) (subst (λ toks. begins (is_op COLON) toks ≡ false) (sym same) none)
