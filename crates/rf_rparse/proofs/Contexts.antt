-- Ways with a gap: what stands before a place at which a part of a formula is to come, and how the least is put there.
use Rattle.std.proofs.Common.{◌≡◌, ◌∙◌, sym, List, [], ◌∷◌, ◌++◌, Bool, append_assoc, append-nil}
use Rattle.rf_rtree.specs.Grammar.{Whole, only, implies, Either, both, or, Both, tight, and, Tight, not, paren, quant, whole_yield, either_yield, both_yield, tight_yield, whole_tree, either_tree, both_tree, tight_tree, quant_token, vars_yield, asks_yield}
use Rattle.rf_rtree.specs.Tokens.{Tok}
use Rattle.rf_rtree.specs.Tokens as t
use Rattle.rf_rparse.specs.declared.frames.Frame.{Frame}
use Rattle.rf_rparse.specs.declared.frames.Frame.TheVariants as frame
use Rattle.rf_rparse.specs.Frames.{Waited, done, join_or, join_implies, either_of}
use Rattle.rf_rparse.proofs.HeadStands.{HeadWay, head_yield, head_tree}

-- around what `not` takes, an operand of `and`, and an operand of `or` or a side of `implies`
mutual
  pub data AroundTight : Type 0 where
    behind_not : AroundTight → AroundTight
    behind_and : Both → AroundBoth → AroundTight
    first_of_and : AroundBoth → AroundTight

  pub data AroundBoth : Type 0 where
    behind_or : Either → AroundWhole → AroundBoth
    first_of_or : AroundWhole → AroundBoth

  pub data AroundWhole : Type 0 where
    top : AroundWhole
    behind_implies : Either → AroundWhole → AroundWhole
    in_paren : AroundTight → AroundWhole
    in_quant : Bool → HeadWay → AroundTight → AroundWhole

abbrev mutual
  pub frames_tight : AroundTight → List Frame
  frames_tight (behind_not c) = frame.Not ∷ frames_tight c
  frames_tight (behind_and b c) = frame.And (both_tree b) ∷ frames_both c
  frames_tight (first_of_and c) = frames_both c

  pub frames_both : AroundBoth → List Frame
  frames_both (behind_or e c) = frame.Or (either_tree e) ∷ frames_whole c
  frames_both (first_of_or c) = frames_whole c

  pub frames_whole : AroundWhole → List Frame
  frames_whole top = []
  frames_whole (behind_implies e c) = frame.Implies (either_tree e) ∷ frames_whole c
  frames_whole (in_paren c) = frame.Paren ∷ frames_tight c
  frames_whole (in_quant every head c) = frame.Quant every (head_tree head) ∷ frames_tight c

-- a quantifier as far as its parenthesis
abbrev pub opening : Bool → HeadWay → List Tok
opening every head = quant_token every ∷ (head_yield head ++ (t.Colon ∷ t.Left ∷ []))

abbrev mutual
  pub before_tight : AroundTight → List Tok
  before_tight (behind_not c) = before_tight c ++ t.Not ∷ []
  before_tight (behind_and b c) = before_both c ++ (both_yield b ++ t.And ∷ [])
  before_tight (first_of_and c) = before_both c

  pub before_both : AroundBoth → List Tok
  before_both (behind_or e c) = before_whole c ++ (either_yield e ++ t.Or ∷ [])
  before_both (first_of_or c) = before_whole c

  pub before_whole : AroundWhole → List Tok
  before_whole top = []
  before_whole (behind_implies e c) = before_whole c ++ (either_yield e ++ t.Implies ∷ [])
  before_whole (in_paren c) = before_tight c ++ t.Left ∷ []
  before_whole (in_quant every head c) = before_tight c ++ opening every head

abbrev mutual
  pub after_tight : AroundTight → List Tok
  after_tight (behind_not c) = after_tight c
  after_tight (behind_and b c) = after_both c
  after_tight (first_of_and c) = after_both c

  pub after_both : AroundBoth → List Tok
  after_both (behind_or e c) = after_whole c
  after_both (first_of_or c) = after_whole c

  pub after_whole : AroundWhole → List Tok
  after_whole top = []
  after_whole (behind_implies e c) = after_whole c
  after_whole (in_paren c) = t.Right ∷ after_tight c
  after_whole (in_quant every head c) = t.Right ∷ after_tight c

abbrev pub quantified : Bool → HeadWay → Whole → Tight
quantified every head w = quant every head.vars head.few head.asks w

-- the whole formula with a part in the gap
abbrev mutual
  pub plug_tight : AroundTight → Tight → Whole
  plug_tight (behind_not c) x = plug_tight c (not x)
  plug_tight (behind_and b c) x = plug_both c (and b x)
  plug_tight (first_of_and c) x = plug_both c (tight x)

  pub plug_both : AroundBoth → Both → Whole
  plug_both (behind_or e c) b = plug_whole c (only (or e b))
  plug_both (first_of_or c) b = plug_whole c (only (both b))

  pub plug_whole : AroundWhole → Whole → Whole
  plug_whole top w = w
  plug_whole (behind_implies e c) w = plug_whole c (implies e w)
  plug_whole (in_paren c) w = plug_tight c (paren w)
  plug_whole (in_quant every head c) w = plug_tight c (quantified every head w)

-- `x y` and `z` in other brackets
turned : (x y z : List Tok) (tok : Tok) (after : List Tok) → x ++ ((y ++ tok ∷ z) ++ after) ≡ (x ++ (y ++ tok ∷ [])) ++ (z ++ after)
turned x y z tok after = simp append_assoc

quant_turned : (x vars asks body after : List Tok) (every : Tok) →
    x ++ (every ∷ ((vars ++ (asks ++ (t.Colon ∷ t.Left ∷ (body ++ t.Right ∷ [])))) ++ after))
    ≡ (x ++ (every ∷ ((vars ++ asks) ++ (t.Colon ∷ t.Left ∷ [])))) ++ (body ++ t.Right ∷ after)
quant_turned x vars asks body after every = simp append_assoc

paren_turned : (x body after : List Tok) →
    x ++ (t.Left ∷ ((body ++ t.Right ∷ []) ++ after)) ≡ (x ++ t.Left ∷ []) ++ (body ++ t.Right ∷ after)
paren_turned x body after = simp append_assoc

mutual
  pub plugged_tight : (c : AroundTight) (x : Tight) → whole_yield (plug_tight c x) ≡ before_tight c ++ (tight_yield x ++ after_tight c)
  plugged_tight (behind_not c) x = plugged_tight c (not x) ∙ sym (append_assoc (before_tight c) (t.Not ∷ []) (tight_yield x ++ after_tight c))
  plugged_tight (behind_and b c) x = plugged_both c (and b x)
      ∙ turned (before_both c) (both_yield b) (tight_yield x) t.And (after_both c)
  plugged_tight (first_of_and c) x = plugged_both c (tight x)

  pub plugged_both : (c : AroundBoth) (b : Both) → whole_yield (plug_both c b) ≡ before_both c ++ (both_yield b ++ after_both c)
  plugged_both (behind_or e c) b = plugged_whole c (only (or e b))
      ∙ turned (before_whole c) (either_yield e) (both_yield b) t.Or (after_whole c)
  plugged_both (first_of_or c) b = plugged_whole c (only (both b))

  pub plugged_whole : (c : AroundWhole) (w : Whole) → whole_yield (plug_whole c w) ≡ before_whole c ++ (whole_yield w ++ after_whole c)
  plugged_whole top w = sym (append-nil (whole_yield w))
  plugged_whole (behind_implies e c) w = plugged_whole c (implies e w)
      ∙ turned (before_whole c) (either_yield e) (whole_yield w) t.Implies (after_whole c)
  plugged_whole (in_paren c) w = plugged_tight c (paren w) ∙ paren_turned (before_tight c) (whole_yield w) (after_tight c)
  plugged_whole (in_quant every head c) w = plugged_tight c (quantified every head w)
      ∙ quant_turned (before_tight c) (vars_yield head.vars) (asks_yield head.asks) (whole_yield w) (after_tight c) (quant_token every)

joined : (x y z : List Tok) (tok : Tok) → (x ++ (y ++ tok ∷ [])) ++ z ≡ x ++ (y ++ tok ∷ z)
joined x y z tok = simp append_assoc

-- what is complete waits behind these tokens
pub data AtBoth : Waited → List Tok → Type 0 where
  at_both : (b : Both) (c : AroundBoth) (toks : List Tok) → toks ≡ before_both c ++ both_yield b → AtBoth (both_tree b, frames_both c) toks

pub data AtEither : Waited → List Tok → Type 0 where
  at_either : (e : Either) (c : AroundWhole) (toks : List Tok) → toks ≡ before_whole c ++ either_yield e →
      AtEither (either_tree e, frames_whole c) toks

pub data AtWhole : Waited → List Tok → Type 0 where
  at_top : (w : Whole) (toks : List Tok) → toks ≡ whole_yield w → AtWhole (whole_tree w, []) toks
  at_paren : (w : Whole) (c : AroundTight) (toks : List Tok) → toks ≡ (before_tight c ++ t.Left ∷ []) ++ whole_yield w →
      AtWhole (whole_tree w, frame.Paren ∷ frames_tight c) toks
  at_quant : (w : Whole) (every : Bool) (head : HeadWay) (c : AroundTight) (toks : List Tok) →
      toks ≡ (before_tight c ++ opening every head) ++ whole_yield w →
      AtWhole (whole_tree w, frame.Quant every (head_tree head) ∷ frames_tight c) toks

operand : (x : Tight) (c : AroundWhole) (toks : List Tok) → toks ≡ before_whole c ++ tight_yield x →
    AtBoth (done (tight_tree x) (frames_whole c)) toks
operand x top toks e = at_both (tight x) (first_of_or top) toks e
operand x (behind_implies f c) toks e = at_both (tight x) (first_of_or (behind_implies f c)) toks e
operand x (in_paren c) toks e = at_both (tight x) (first_of_or (in_paren c)) toks e
operand x (in_quant every head c) toks e = at_both (tight x) (first_of_or (in_quant every head c)) toks e

pub done_at : (x : Tight) (c : AroundTight) (toks : List Tok) → toks ≡ before_tight c ++ tight_yield x →
    AtBoth (done (tight_tree x) (frames_tight c)) toks
done_at x (behind_not c) toks e = done_at (not x) c toks (e ∙ append_assoc (before_tight c) (t.Not ∷ []) (tight_yield x))
done_at x (behind_and b c) toks e = at_both (and b x) c toks (e ∙ joined (before_both c) (both_yield b) (tight_yield x) t.And)
done_at x (first_of_and (behind_or f c)) toks e = at_both (tight x) (behind_or f c) toks e
done_at x (first_of_and (first_of_or c)) toks e = operand x c toks e

either_operand : (b : Both) (c : AroundWhole) (toks : List Tok) → toks ≡ before_whole c ++ both_yield b →
    AtEither (join_or (both_tree b) (frames_whole c)) toks
either_operand b top toks e = at_either (both b) top toks e
either_operand b (behind_implies f c) toks e = at_either (both b) (behind_implies f c) toks e
either_operand b (in_paren c) toks e = at_either (both b) (in_paren c) toks e
either_operand b (in_quant every head c) toks e = at_either (both b) (in_quant every head c) toks e

pub either_at : {p : Waited} {toks : List Tok} → AtBoth p toks → AtEither (either_of p) toks
either_at (at_both b (behind_or f c) toks e) = at_either (or f b) c toks (e ∙ joined (before_whole c) (either_yield f) (both_yield b) t.Or)
either_at (at_both b (first_of_or c) toks e) = either_operand b c toks e

pub whole_at : (w : Whole) (c : AroundWhole) (toks : List Tok) → toks ≡ before_whole c ++ whole_yield w →
    AtWhole (join_implies (whole_tree w) (frames_whole c)) toks
whole_at w top toks e = at_top w toks e
whole_at w (behind_implies f c) toks e = whole_at (implies f w) c toks (e ∙ joined (before_whole c) (either_yield f) (whole_yield w) t.Implies)
whole_at w (in_paren c) toks e = at_paren w c toks e
whole_at w (in_quant every head c) toks e = at_quant w every head c toks e
