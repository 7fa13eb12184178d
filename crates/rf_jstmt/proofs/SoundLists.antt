-- What the readers of the statements with lists read fits and is no deeper than the room.
use Rattle.std.proofs.Common.{◌≡◌, ℕ, suc, ◌≤◌, List, [], ◌∷◌, ◌++◌, Some, None, refl, sym, ap, ◌∙◌, arith}
use Rattle.std.specs.List.{flat_map}
use Rattle.rf_jtree.specs.declared.tokens.Tok.{Tok}
use Rattle.rf_jtree.specs.declared.operator_names.TheConstants.{LEFT_PAREN, RIGHT_PAREN, LEFT_BRACE, RIGHT_BRACE, SEMICOLON, COLON}
use Rattle.rf_jtree.specs.declared.keyword_names.TheConstants.{CASE, CATCH, DEFAULT, FINAL, FINALLY, FOR, SWITCH, TRY}
use Rattle.rf_jtree.specs.Kinds.{IsOp, IsKey}
use Rattle.rf_jtree.specs.NameFits.{EachFits, TypeFits}
use Rattle.rf_jtree.specs.NameTrees.{ModTree, TypeUseTree, tok_yield, name_yield, type_yield, mods_yield}
use Rattle.rf_jtree.specs.StmtFits.{VariableModsFit, FirstFits, GroupFits, GroupsFit, CatchFits, CatchesFit, LastFits}
use Rattle.rf_jtree.specs.StmtShown.{groups_tree, catches_tree}
use Rattle.rf_jtree.specs.StmtTrees.{ForFirstTree, first_yield, first_depth, StmtTree, For, Each, Switch, Try}
use Rattle.rf_jtree.specs.StmtTrees.{GroupTree, Group, GroupsTree, CatchTree, Catch, CatchesTree, LastTree, NoLast, Last}
use Rattle.rf_jtree.specs.StmtTrees.{stmt_yield, group_yield, groups_yield, catch_yield, catches_yield, last_yield, group_depth, groups_depth, catch_depth, catches_depth, last_depth}
use Rattle.rf_jexpr.specs.NameReads.{name, type_use}
use Rattle.rf_jexpr.specs.PartReads.{Parsers}
use Rattle.rf_jexpr.specs.Reads.{is_op, is_key, is_ident, begins, token, optional, many, behind}
use Rattle.rf_jexpr.proofs.LoopLemmas.{Read, IsSound, many-sound}
use Rattle.rf_jexpr.proofs.SoundNames.{token-sound, optional-sound, name-sound, type_use-sound}
use Rattle.rf_jexpr.proofs.SoundParts.{AreSound}
use Rattle.rf_jexpr.proofs.Tools.{either_way, bound, of_bind, is_op-IsOp, is_key-IsKey, is_ident-IsIdent}
use Rattle.rf_jstmt.specs.StmtParts.{StmtParsers, stmts, block, optional_expr, statement_exprs}
use Rattle.rf_jstmt.specs.StmtReads.{basic_for, each_for, local_for, for_stmt, case_group, default_group, group, switch_stmt, catch_part, last_part, last, has_part, try_stmt}
use Rattle.rf_jmods.specs.ModReads.{variable_mods}
use Rattle.rf_jstmt.specs.VarReads.{local_vars, begins_local, begins_label}
use Rattle.rf_jstmt.proofs.WholeForms.{whole_basic, whole_each, whole_catch, basic_for-whole, each_for-whole, catch_part-whole}
use Rattle.rf_jmods.proofs.SoundMods.{variable_mods-sound}
use Rattle.rf_jstmt.proofs.SoundParts.{GoodPart, AreSoundStmts, stmts-sound, block-sound, head_then, step_head, optional_expr-sound, statement_exprs-sound}
use Rattle.rf_jstmt.proofs.SoundVars.{local_vars-sound}
use Rattle.rf_jmods.proofs.Steps.{step_tok, step_part, step_when, tok_then, part_then, at_last, tok_last, done, max_le, one_more}
use Rattle.rf_jstmt.proofs.TestLemmas.{has_part-Has}

-- ---- the lists

pub record GoodGroup (room : ℕ) (group : GroupTree) : Type 0 where
  pub fits : GroupFits group
  pub shallow : group_depth group ≤ room

pub record GoodGroups (room : ℕ) (groups : GroupsTree) : Type 0 where
  pub fits : GroupsFit groups
  pub shallow : groups_depth groups ≤ room

pub record GoodCatch (room : ℕ) (part : CatchTree) : Type 0 where
  pub fits : CatchFits part
  pub shallow : catch_depth part ≤ room

pub record GoodCatches (room : ℕ) (catches : CatchesTree) : Type 0 where
  pub fits : CatchesFit catches
  pub shallow : catches_depth catches ≤ room

pub record GoodLast (room : ℕ) (last : LastTree) : Type 0 where
  pub fits : LastFits last
  pub shallow : last_depth last ≤ room

pub record GoodFirst (room : ℕ) (first : ForFirstTree) : Type 0 where
  pub fits : FirstFits first
  pub shallow : first_depth first ≤ room

groups-good : (room : ℕ) (list : List GroupTree) → EachFits (GoodGroup room) list → GoodGroups room (groups_tree list)
groups-good room [] each = record { fits = tt; shallow = omega arith }
groups-good room (group ∷ rest) each =
    let more = groups-good room rest each.1 in
    record { fits = (each.0.fits, more.fits); shallow = max_le _ _ room each.0.shallow more.shallow }

groups_yield-tree : (list : List GroupTree) → flat_map group_yield list ≡ groups_yield (groups_tree list)
groups_yield-tree [] = refl
groups_yield-tree (group ∷ rest) = ap (λ others. group_yield group ++ others) (groups_yield-tree rest)

catches-good : (room : ℕ) (list : List CatchTree) → EachFits (GoodCatch room) list → GoodCatches room (catches_tree list)
catches-good room [] each = record { fits = tt; shallow = omega arith }
catches-good room (part ∷ rest) each =
    let more = catches-good room rest each.1 in
    record { fits = (each.0.fits, more.fits); shallow = max_le _ _ room each.0.shallow more.shallow }

catches_yield-tree : (list : List CatchTree) → flat_map catch_yield list ≡ catches_yield (catches_tree list)
catches_yield-tree [] = refl
catches_yield-tree (part ∷ rest) = ap (λ others. catch_yield part ++ others) (catches_yield-tree rest)

-- ---- one room from the room below it

module _ (m : ℕ) (p : Parsers) (s : StmtParsers) (sound : AreSound m p) (sounds : AreSoundStmts m s) where
  -- ---- `for`

  basic_for-sound : (word left : Tok) (first : ForFirstTree) → IsKey FOR word → IsOp LEFT_PAREN left → GoodFirst m first → (toks : List Tok) (y : StmtTree × List Tok) → basic_for p s word left first toks ≡ Some y
      → (whole mid : List Tok) → whole ≡ word ∷ left ∷ mid → mid ≡ first_yield first ++ toks → Read (GoodPart (suc m)) stmt_yield whole y.0 y.1
  unfolding whole_basic
  basic_for-sound word left first word_is left_is good toks y h whole mid takes_words takes_first =
      step_tok (is_op SEMICOLON) toks _ y (sym (basic_for-whole p s word left first toks) ∙ h) (λ semi1 a k.
      step_part _ _ (optional_expr p) semi1.1 _ y (optional_expr-sound m p sound) k (λ test b l.
      step_tok (is_op SEMICOLON) test.1 _ y l (λ semi2 c n.
      step_part _ _ (statement_exprs p) semi2.1 _ y (statement_exprs-sound m p sound) n (λ end d o.
      step_tok (is_op RIGHT_PAREN) end.1 _ y o (λ right e q.
      step_part _ _ s.stmt right.1 _ y sounds.stmt q (λ body f same.
      done (GoodPart (suc m)) stmt_yield whole (For word left first semi1.0 test.0 semi2.0 end.0 right.0 body.0) body.1 y same
      (record {
        fits = (
          record {
            head = record { word_is = word_is; parens = (left_is, is_op-IsOp RIGHT_PAREN right.0 e.is) };
            semi1_is = is_op-IsOp SEMICOLON semi1.0 a.is;
            semi2_is = is_op-IsOp SEMICOLON semi2.0 c.is;
            last_statements = d.fits.statements;
            no_local = f.fits.no_local;
          },
          good.fits,
          b.fits.fits,
          d.fits.fits,
          f.fits.fits,
        );
        no_local = tt;
        shallow = one_more _ m (max_le _ _ m good.shallow (max_le _ _ m b.fits.shallow (max_le _ _ m d.fits.shallow f.fits.shallow)));
      })
      (tok_then takes_words (tok_then refl (part_then _ takes_first (tok_then a.takes (part_then _ b.takes (tok_then c.takes (part_then _ d.takes (tok_then e.takes (at_last _ f.takes)))))))))))))))

  each_for-sound : (word left : Tok) (mods : List ModTree) (used_type : TypeUseTree) → IsKey FOR word → IsOp LEFT_PAREN left → VariableModsFit mods → TypeFits used_type → (toks : List Tok) (y : StmtTree × List Tok) → each_for p s word left mods used_type toks ≡ Some y
      → (whole mid behind : List Tok) → whole ≡ word ∷ left ∷ mid → mid ≡ mods_yield mods ++ behind → behind ≡ type_yield used_type ++ toks → Read (GoodPart (suc m)) stmt_yield whole y.0 y.1
  unfolding whole_each
  each_for-sound word left mods used_type word_is left_is mods_fit used_type_fits toks y h whole mid behind takes_words takes_mods takes_used_type =
      step_tok is_ident toks _ y (sym (each_for-whole p s word left mods used_type toks) ∙ h) (λ id a k.
      step_tok (is_op COLON) id.1 _ y k (λ colon b l.
      step_part _ _ p.expr colon.1 _ y sound.expr l (λ over c n.
      step_tok (is_op RIGHT_PAREN) over.1 _ y n (λ right d o.
      step_part _ _ s.stmt right.1 _ y sounds.stmt o (λ body e same.
      done (GoodPart (suc m)) stmt_yield whole (Each word left mods used_type id.0 colon.0 over.0 right.0 body.0) body.1 y same
      (record {
        fits = (
          record {
            head = record { word_is = word_is; parens = (left_is, is_op-IsOp RIGHT_PAREN right.0 d.is) };
            mods_fit = mods_fit;
            id_is = is_ident-IsIdent id.0 a.is;
            colon_is = is_op-IsOp COLON colon.0 b.is;
            no_local = e.fits.no_local;
          },
          used_type_fits,
          c.fits.fits,
          e.fits.fits,
        );
        no_local = tt;
        shallow = one_more _ m (max_le _ _ m c.fits.shallow e.fits.shallow);
      })
      (tok_then takes_words (tok_then refl (part_then _ takes_mods (part_then _ takes_used_type (tok_then a.takes (tok_then b.takes (part_then _ c.takes (tok_then d.takes (at_last _ e.takes))))))))))))))

  local_for-sound : (word left : Tok) → IsKey FOR word → IsOp LEFT_PAREN left → (toks : List Tok) (y : StmtTree × List Tok) → local_for p s word left toks ≡ Some y → (whole : List Tok) → whole ≡ word ∷ left ∷ toks → Read (GoodPart (suc m)) stmt_yield whole y.0 y.1
  unfolding local_for
  local_for-sound word left word_is left_is toks y h whole takes_words =
      step_part _ _ variable_mods toks _ y variable_mods-sound h (λ mods a k.
      step_part _ _ type_use mods.1 _ y type_use-sound k (λ used_type b l.
      either_way (begins_label used_type.1) _ _ y
      (λ e. each_for-sound word left mods.0 used_type.0 word_is left_is a.fits b.fits used_type.1 y e whole toks mods.1 takes_words a.takes b.takes)
      (λ e. elim (of_bind (local_vars p mods.0 used_type.0 used_type.1) _ y e) [
        | bound vars found after ↦
            let part = local_vars-sound m p sound mods.0 used_type.0 a.fits b.fits used_type.1 vars found toks mods.1 a.takes b.takes in
            basic_for-sound word left (ForFirstTree.Local vars.0) word_is left_is (record { fits = part.fits.fits; shallow = part.fits.shallow }) vars.1 y after whole toks takes_words part.takes
      ]) l))

  pub for_stmt-sound : IsSound (GoodPart (suc m)) stmt_yield (for_stmt p s)
  unfolding for_stmt
  for_stmt-sound toks y h =
      step_tok (is_key FOR) toks _ y h (λ word a k.
      step_tok (is_op LEFT_PAREN) word.1 _ y k (λ left b l.
      let words : toks ≡ word.0 ∷ left.0 ∷ left.1 = a.takes ∙ ap (λ others. word.0 ∷ others) b.takes in
      let word_is = is_key-IsKey FOR word.0 a.is in
      let left_is = is_op-IsOp LEFT_PAREN left.0 b.is in
      either_way (begins_local left.1) _ _ y
      (λ e. local_for-sound word.0 left.0 word_is left_is left.1 y e toks words)
      (λ e. step_part _ _ (statement_exprs p) left.1 _ y (statement_exprs-sound m p sound) e (λ first c after.
      basic_for-sound word.0 left.0 (ForFirstTree.Exprs first.0) word_is left_is (record { fits = (c.fits.statements, c.fits.fits); shallow = c.fits.shallow }) first.1 y after toks left.1 words c.takes)) l))

  -- ---- `switch`

  case_group-sound : IsSound (GoodGroup m) group_yield (case_group p s)
  unfolding case_group
  case_group-sound toks y h =
      step_tok (is_key CASE) toks _ y h (λ word a k.
      step_part _ _ p.expr word.1 _ y sound.expr k (λ label b l.
      step_tok (is_op COLON) label.1 _ y l (λ colon c n.
      step_part _ _ (stmts s) colon.1 _ y (stmts-sound m s sounds) n (λ body d same.
      done (GoodGroup m) group_yield toks (Group word.0 (Some label.0) colon.0 body.0) body.1 y same
      (record { fits = (is_key-IsKey CASE word.0 a.is, b.fits.fits, is_op-IsOp COLON colon.0 c.is, d.fits.fits); shallow = max_le _ _ m b.fits.shallow d.fits.shallow })
      (tok_then a.takes (part_then _ b.takes (tok_then c.takes (at_last _ d.takes))))))))

  default_group-sound : IsSound (GoodGroup m) group_yield (default_group s)
  unfolding default_group
  default_group-sound toks y h =
      step_tok (is_key DEFAULT) toks _ y h (λ word a k.
      step_tok (is_op COLON) word.1 _ y k (λ colon b l.
      step_part _ _ (stmts s) colon.1 _ y (stmts-sound m s sounds) l (λ body c same.
      done (GoodGroup m) group_yield toks (Group word.0 None colon.0 body.0) body.1 y same
      (record { fits = (is_key-IsKey DEFAULT word.0 a.is, tt, is_op-IsOp COLON colon.0 b.is, c.fits.fits); shallow = max_le _ _ m (omega arith) c.fits.shallow })
      (tok_then a.takes (tok_then b.takes (at_last _ c.takes))))))

  group-sound : IsSound (GoodGroup m) group_yield (group p s)
  unfolding group
  group-sound toks y = either_way (begins (is_key CASE) toks) _ _ y (case_group-sound toks y) (default_group-sound toks y)

  pub switch_stmt-sound : IsSound (GoodPart (suc m)) stmt_yield (switch_stmt p s)
  unfolding switch_stmt
  switch_stmt-sound toks y h =
      step_head m p sound SWITCH toks _ y h (λ on a k.
      step_tok (is_op LEFT_BRACE) on.1 _ y k (λ brace b l.
      step_part _ _ (many (group p s)) brace.1 _ y (many-sound (GoodGroup m) group_yield (group p s) group-sound) l (λ groups c n.
      step_tok (is_op RIGHT_BRACE) groups.1 _ y n (λ end d same.
      let good = groups-good m groups.0 c.fits in
      done (GoodPart (suc m)) stmt_yield toks (Switch on.0.word on.0.left on.0.expression on.0.right brace.0 (groups_tree groups.0) end.0) end.1 y same
      (record {
        fits = (record { head = a.head; braces = (is_op-IsOp LEFT_BRACE brace.0 b.is, is_op-IsOp RIGHT_BRACE end.0 d.is) }, a.fits, good.fits);
        no_local = tt;
        shallow = one_more _ m (max_le _ _ m a.shallow good.shallow);
      })
      (head_then _ _ on.0.expression _ a.takes (tok_then b.takes (part_then (groups_yield (groups_tree groups.0)) (c.takes ∙ ap (λ front. front ++ groups.1) (groups_yield-tree groups.0)) (tok_last d.takes))))))))

  -- ---- `try`

  catch_part-sound : IsSound (GoodCatch m) catch_yield (catch_part s)
  unfolding whole_catch
  catch_part-sound toks y h =
      step_tok (is_key CATCH) toks _ y (sym (catch_part-whole s toks) ∙ h) (λ word a k.
      step_tok (is_op LEFT_PAREN) word.1 _ y k (λ left b l.
      step_part _ _ (optional (token (is_key FINAL))) left.1 _ y (optional-sound (IsKey FINAL) tok_yield (token (is_key FINAL)) (token-sound (IsKey FINAL) (is_key FINAL) (is_key-IsKey FINAL))) l (λ fixed c n.
      step_part _ _ name fixed.1 _ y name-sound n (λ used_type d o.
      step_tok is_ident used_type.1 _ y o (λ id e q.
      step_tok (is_op RIGHT_PAREN) id.1 _ y q (λ right f r.
      step_part _ _ (block s) right.1 _ y (block-sound m s sounds) r (λ body g same.
      done (GoodCatch m) catch_yield toks (Catch word.0 left.0 fixed.0 used_type.0 id.0 right.0 body.0) body.1 y same
      (record {
        fits = (
          record {
            head = record { word_is = is_key-IsKey CATCH word.0 a.is; parens = (is_op-IsOp LEFT_PAREN left.0 b.is, is_op-IsOp RIGHT_PAREN right.0 f.is) };
            fixed_is = c.fits;
            id_is = is_ident-IsIdent id.0 e.is;
          },
          d.fits,
          g.fits.fits,
        );
        shallow = g.fits.shallow;
      })
      (tok_then a.takes (tok_then b.takes (part_then _ c.takes (part_then (name_yield used_type.0) d.takes (tok_then e.takes (tok_then f.takes (at_last _ g.takes))))))))))))))

  last-sound : IsSound (GoodLast m) last_yield (last s)
  unfolding last last_part
  last-sound toks y =
      either_way (begins (is_key FINALLY) toks) _ _ y
      (λ h. step_tok (is_key FINALLY) toks _ y h (λ word a k.
      step_part _ _ (block s) word.1 _ y (block-sound m s sounds) k (λ body b same.
      done (GoodLast m) last_yield toks (Last word.0 body.0) body.1 y same (record { fits = (is_key-IsKey FINALLY word.0 a.is, b.fits.fits); shallow = b.fits.shallow }) (tok_then a.takes (at_last _ b.takes)))))
      (λ same. done (GoodLast m) last_yield toks NoLast toks y same (record { fits = tt; shallow = omega arith }) (at_last [] refl))

  pub try_stmt-sound : IsSound (GoodPart (suc m)) stmt_yield (try_stmt s)
  unfolding try_stmt
  try_stmt-sound toks y h =
      step_tok (is_key TRY) toks _ y h (λ word a k.
      step_part _ _ (block s) word.1 _ y (block-sound m s sounds) k (λ body b l.
      step_part _ _ (many (catch_part s)) body.1 _ y (many-sound (GoodCatch m) catch_yield (catch_part s) catch_part-sound) l (λ catches c n.
      step_part _ _ (last s) catches.1 _ y last-sound n (λ end d o.
      step_when (has_part (catches_tree catches.0) end.0) _ y o (λ has same.
      let good = catches-good m catches.0 c.fits in
      done (GoodPart (suc m)) stmt_yield toks (Try word.0 body.0 (catches_tree catches.0) end.0) end.1 y same
      (record {
        fits = (record { word_is = is_key-IsKey TRY word.0 a.is; has_part = has_part-Has (catches_tree catches.0) end.0 has }, b.fits.fits, good.fits, d.fits.fits);
        no_local = tt;
        shallow = one_more _ m (max_le _ _ m b.fits.shallow (max_le _ _ m good.shallow d.fits.shallow));
      })
      (tok_then a.takes (part_then _ b.takes (part_then (catches_yield (catches_tree catches.0)) (c.takes ∙ ap (λ front. front ++ catches.1) (catches_yield-tree catches.0)) (at_last _ d.takes)))))))))
