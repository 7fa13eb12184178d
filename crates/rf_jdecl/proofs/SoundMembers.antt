-- What the readers of members read fits, and is no deeper than the room.
use Rattle.std.proofs.Common.{◌≡◌, ℕ, ◌≤◌, List, ◌++◌, Option, Some, None, IfSome, arith}
use Rattle.std.specs.List.{list_all, flat_map}
use Rattle.rf_jtree.specs.declared.tokens.Tok.{Tok}
use Rattle.rf_jtree.specs.declared.operator_names.TheConstants.{LEFT_BRACE, RIGHT_BRACE, SEMICOLON, COMMA}
use Rattle.rf_jtree.specs.declared.keyword_names.TheConstants.{STATIC, THROWS, VOID}
use Rattle.rf_jtree.specs.DeclFits.{CtorCallFits, RetFits, BodyFits, MemberFits}
use Rattle.rf_jtree.specs.DeclTrees.{CtorCallTree, RetTree, Void, Typed, BodyTree, Block, MemberTree, Init, Ctor, Method, Field, names_yield, params_yield, ctor_call_yield, ret_yield, body_yield, member_yield, body_depth, member_depth}
use Rattle.rf_jtree.specs.ExprTrees.{args_depth}
use Rattle.rf_jtree.specs.Kinds.{IsKey}
use Rattle.rf_jtree.specs.NameFits.{EachFits, ModsFit, TypeFits}
use Rattle.rf_jtree.specs.NameTrees.{ModTree, TypeUseTree, mods_yield, many_yield, type_yield, tok_yield, option_depth}
use Rattle.rf_jtree.specs.StmtTrees.{var_yield}
use Rattle.rf_jexpr.specs.Descent.{parsers}
use Rattle.rf_jexpr.specs.NameReads.{type_use}
use Rattle.rf_jexpr.specs.PartReads.{args}
use Rattle.rf_jexpr.specs.Reads.{Reads, when, is_op, is_key, is_ident, begins, token, optional, separated}
use Rattle.rf_jexpr.proofs.LoopLemmas.{Read, IsSound, many-sound}
use Rattle.rf_jexpr.proofs.Sound.{parsers-sound}
use Rattle.rf_jexpr.proofs.SoundNames.{token-sound, optional-sound, type_use-sound}
use Rattle.rf_jexpr.proofs.SoundParts.{args-sound}
use Rattle.rf_jexpr.proofs.Tools.{either_way, bound, of_bind, token_takes, is_op-IsOp, is_key-IsKey, is_ident-IsIdent}
use Rattle.rf_jstmt.specs.StmtParts.{stmts, block}
use Rattle.rf_jstmt.specs.StmtReads.{stmt_parsers}
use Rattle.rf_jstmt.specs.VarReads.{var}
use Rattle.rf_jstmt.proofs.SoundParts.{AreSoundStmts, stmts-sound, block-sound}
use Rattle.rf_jstmt.proofs.SoundVars.{vars-sound, vars-fit, vars-shallow}
use Rattle.rf_jmods.proofs.Steps.{step_tok, step_part, step_when, done, tok_then, part_then, at_last, tok_last, max_le}
use Rattle.rf_jdecl.specs.HeadReads.{fitting_mods, names_behind, params, begins_callable}
use Rattle.rf_jdecl.specs.MemberReads.{stray, begins_initializer, initializer, calls_ctor, ctor_call, is_ctor_mod, ctor, block_body, no_body, body, method, void_method, field, typed, behind_mods, modified, member, members}
use Rattle.rf_jdecl.proofs.DeclTestLemmas.{calls_ctor-Is, ctor_mods-Fit}
use Rattle.rf_jdecl.proofs.SoundHeads.{fitting_mods-sound, optional_names-sound, params-sound}

pub record GoodCall (room : ℕ) (call : CtorCallTree) : Type 0 where
  pub fits : CtorCallFits call
  pub shallow : args_depth call.args ≤ room

pub record GoodBody (room : ℕ) (body : BodyTree) : Type 0 where
  pub fits : BodyFits body
  pub shallow : body_depth body ≤ room

pub record GoodMember (room : ℕ) (member : MemberTree) : Type 0 where
  pub fits : MemberFits member
  pub shallow : member_depth member ≤ room

call_fits : (room : ℕ) (call : Option CtorCallTree) → IfSome call (GoodCall room) → IfSome call CtorCallFits
call_fits room None good = tt
call_fits room (Some call) good = good.fits

call_shallow : (room : ℕ) (call : Option CtorCallTree) → IfSome call (GoodCall room) → option_depth (λ (call : CtorCallTree). args_depth call.args) call ≤ room
call_shallow room None good = omega arith
call_shallow room (Some call) good = good.shallow

module _ (m : ℕ) (s : AreSoundStmts m (stmt_parsers m)) where
  -- ---- without modifiers

  stray-sound : IsSound (GoodMember m) member_yield stray
  unfolding stray
  stray-sound toks y h =
      step_tok (is_op SEMICOLON) toks _ y h (λ semi a same.
      done (GoodMember m) member_yield toks (MemberTree.Semi semi.0) semi.1 y same (record { fits = is_op-IsOp SEMICOLON semi.0 a.is; shallow = omega arith }) (tok_last a.takes))

  initializer-sound : IsSound (GoodMember m) member_yield (initializer m)
  unfolding initializer
  initializer-sound toks y h =
      step_part _ _ (optional (token (is_key STATIC))) toks _ y (optional-sound (IsKey STATIC) tok_yield _ (token-sound (IsKey STATIC) (is_key STATIC) (is_key-IsKey STATIC))) h (λ word a k.
      step_part _ _ (block (stmt_parsers m)) word.1 _ y (block-sound m (stmt_parsers m) s) k (λ found b same.
      done (GoodMember m) member_yield toks (Init word.0 found.0) found.1 y same (record { fits = (a.fits, b.fits.fits); shallow = b.fits.shallow }) (part_then _ a.takes (at_last _ b.takes))))

  -- ---- constructors

  ctor_call-sound : IsSound (GoodCall m) ctor_call_yield (ctor_call m)
  unfolding ctor_call
  ctor_call-sound toks y h =
      step_tok calls_ctor toks _ y h (λ word a k.
      step_part _ _ (args (parsers m)) word.1 _ y (args-sound m (parsers m) (parsers-sound m)) k (λ list b l.
      step_tok (is_op SEMICOLON) list.1 _ y l (λ semi c same.
      done (GoodCall m) ctor_call_yield toks (record { word = word.0; args = list.0; semi = semi.0 }) semi.1 y same
      (record { fits = (calls_ctor-Is word.0 a.is, b.fits.fits, is_op-IsOp SEMICOLON semi.0 c.is); shallow = b.fits.shallow })
      (tok_then a.takes (part_then _ b.takes (tok_last c.takes))))))

  -- what is read behind these modifiers, with them
  abbrev IsSoundBehind : List ModTree → Reads MemberTree → Type 0
  IsSoundBehind found item = (whole toks : List Tok) (y : MemberTree × List Tok) → whole ≡ mods_yield found ++ toks → item toks ≡ Some y → Read (GoodMember m) member_yield whole y.0 y.1

  ctor-sound : (found : List ModTree) → ModsFit found → IsSoundBehind found (ctor m found)
  unfolding ctor
  ctor-sound found fit whole toks y before h = elim (of_bind (when (list_all is_ctor_mod found) (token is_ident toks)) _ _ h) [
    | bound id id_found k ↦ step_when (list_all is_ctor_mod found) _ id id_found (λ mods_are id_read.
        let a = token_takes is_ident toks id id_read in
        step_part _ _ params id.1 _ y params-sound k (λ list b l.
        step_part _ _ (optional (names_behind THROWS)) list.1 _ y (optional_names-sound THROWS) l (λ thrown c n.
        step_tok (is_op LEFT_BRACE) thrown.1 _ y n (λ left d o.
        step_part _ _ (optional (ctor_call m)) left.1 _ y (optional-sound (GoodCall m) ctor_call_yield (ctor_call m) ctor_call-sound) o (λ call e q.
        step_part _ _ (stmts (stmt_parsers m)) call.1 _ y (stmts-sound m (stmt_parsers m) s) q (λ list_of f r.
        step_tok (is_op RIGHT_BRACE) list_of.1 _ y r (λ right g same.
        done (GoodMember m) member_yield whole (Ctor found id.0 list.0 thrown.0 left.0 call.0 list_of.0 right.0) right.1 y same
        (record {
          fits = (
            ctor_mods-Fit found fit mods_are,
            record {
              callable = record { id_is = is_ident-IsIdent id.0 a.is; params_fit = b.fits; throws_fit = c.fits };
              braces = (is_op-IsOp LEFT_BRACE left.0 d.is, is_op-IsOp RIGHT_BRACE right.0 g.is);
              call_fits = call_fits m call.0 e.fits;
            },
            f.fits.fits,
          );
          shallow = max_le _ _ m (call_shallow m call.0 e.fits) f.fits.shallow;
        })
        (part_then _ before (tok_then a.takes (part_then (params_yield list.0) b.takes (part_then (names_yield thrown.0) c.takes (tok_then d.takes (part_then _ e.takes (part_then _ f.takes (tok_last g.takes)))))))))))))))
  ]

  -- ---- methods

  body-sound : IsSound (GoodBody m) body_yield (body m)
  unfolding body no_body block_body
  body-sound toks y =
      either_way (begins (is_op SEMICOLON) toks) _ _ y
      (λ h. step_tok (is_op SEMICOLON) toks _ y h (λ semi a same.
      done (GoodBody m) body_yield toks (BodyTree.Semi semi.0) semi.1 y same (record { fits = is_op-IsOp SEMICOLON semi.0 a.is; shallow = omega arith }) (tok_last a.takes)))
      (λ h. step_part _ _ (block (stmt_parsers m)) toks _ y (block-sound m (stmt_parsers m) s) h (λ found a same.
      done (GoodBody m) body_yield toks (Block found.0) found.1 y same (record { fits = a.fits.fits; shallow = a.fits.shallow }) (at_last _ a.takes)))

  method-sound : (found : List ModTree) (ret : RetTree) → ModsFit found → RetFits ret → (whole behind toks : List Tok) (y : MemberTree × List Tok) → whole ≡ mods_yield found ++ behind → behind ≡ ret_yield ret ++ toks
      → method m found ret toks ≡ Some y → Read (GoodMember m) member_yield whole y.0 y.1
  unfolding method
  method-sound found ret fit ret_fit whole behind toks y before before_name h =
      step_tok is_ident toks _ y h (λ id a k.
      step_part _ _ params id.1 _ y params-sound k (λ list b l.
      step_part _ _ (optional (names_behind THROWS)) list.1 _ y (optional_names-sound THROWS) l (λ thrown c n.
      step_part _ _ (body m) thrown.1 _ y body-sound n (λ end d same.
      done (GoodMember m) member_yield whole (Method found ret id.0 list.0 thrown.0 end.0) end.1 y same
      (record {
        fits = (fit, ret_fit, record { id_is = is_ident-IsIdent id.0 a.is; params_fit = b.fits; throws_fit = c.fits }, d.fits.fits);
        shallow = d.fits.shallow;
      })
      (part_then _ before (part_then (ret_yield ret) before_name (tok_then a.takes (part_then (params_yield list.0) b.takes (part_then (names_yield thrown.0) c.takes (at_last _ d.takes))))))))))

  void_method-sound : (found : List ModTree) → ModsFit found → IsSoundBehind found (void_method m found)
  unfolding void_method
  void_method-sound found fit whole toks y before h =
      step_tok (is_key VOID) toks _ y h (λ word a k. method-sound found (Void word.0) fit (is_key-IsKey VOID word.0 a.is) whole toks word.1 y before a.takes k)

  -- ---- fields

  field-sound : (found : List ModTree) (used_type : TypeUseTree) → ModsFit found → TypeFits used_type → (whole behind toks : List Tok) (y : MemberTree × List Tok) → whole ≡ mods_yield found ++ behind → behind ≡ type_yield used_type ++ toks
      → field m found used_type toks ≡ Some y → Read (GoodMember m) member_yield whole y.0 y.1
  unfolding field
  field-sound found used_type fit used_type_fit whole behind toks y before before_vars h =
      step_part _ _ (separated COMMA (var (parsers m))) toks _ y (vars-sound m (parsers m) (parsers-sound m)) h (λ vars a k.
      step_tok (is_op SEMICOLON) vars.1 _ y k (λ semi b same.
      done (GoodMember m) member_yield whole (Field found used_type vars.0 semi.0) semi.1 y same
      (record { fits = (fit, used_type_fit, vars-fit m vars.0 a.fits, is_op-IsOp SEMICOLON semi.0 b.is); shallow = vars-shallow m vars.0 a.fits })
      (part_then _ before (part_then _ before_vars (part_then (many_yield var_yield vars.0) a.takes (tok_last b.takes))))))

  -- ---- all of them

  typed-sound : (found : List ModTree) → ModsFit found → IsSoundBehind found (typed m found)
  unfolding typed
  typed-sound found fit whole toks y before h =
      step_part _ _ type_use toks _ y type_use-sound h (λ used_type a.
      either_way (begins_callable used_type.1) _ _ y
      (method-sound found (Typed used_type.0) fit a.fits whole toks used_type.1 y before a.takes)
      (field-sound found used_type.0 fit a.fits whole toks used_type.1 y before a.takes))

  behind_mods-sound : (found : List ModTree) → ModsFit found → IsSoundBehind found (behind_mods m found)
  unfolding behind_mods
  behind_mods-sound found fit whole toks y before =
      either_way (begins_callable toks) _ _ y (ctor-sound found fit whole toks y before)
      (either_way (begins (is_key VOID) toks) _ _ y (void_method-sound found fit whole toks y before) (typed-sound found fit whole toks y before))

  modified-sound : IsSound (GoodMember m) member_yield (modified m)
  unfolding modified
  modified-sound toks y h = step_part _ _ fitting_mods toks _ y fitting_mods-sound h (λ found a k. behind_mods-sound found.0 a.fits toks found.1 y a.takes k)

  pub member-sound : IsSound (GoodMember m) member_yield (member m)
  unfolding member
  member-sound toks y =
      either_way (begins (is_op SEMICOLON) toks) _ _ y (stray-sound toks y)
      (either_way (begins_initializer toks) _ _ y (initializer-sound toks y) (modified-sound toks y))

  pub members-sound : IsSound (EachFits (GoodMember m)) (flat_map member_yield) (members m)
  unfolding members
  members-sound = many-sound (GoodMember m) member_yield (member m) member-sound
