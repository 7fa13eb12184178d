-- A `for` and a catch clause in one piece: the same is read where their heads have no readers of their own.
use Rattle.std.proofs.Common.{◌≡◌, List, Option, Some, None, refl, ap, ◌∙◌}
use Rattle.rf_jtree.specs.declared.tokens.Tok.{Tok}
use Rattle.rf_jtree.specs.declared.operator_names.TheConstants.{LEFT_PAREN, RIGHT_PAREN, SEMICOLON, COLON}
use Rattle.rf_jtree.specs.declared.keyword_names.TheConstants.{CATCH, FINAL}
use Rattle.rf_jtree.specs.NameTrees.{ModTree, TypeUseTree}
use Rattle.rf_jtree.specs.StmtTrees.{ForFirstTree, StmtTree, For, Each, CatchTree, Catch}
use Rattle.rf_jexpr.specs.NameReads.{name}
use Rattle.rf_jexpr.specs.PartReads.{Parsers}
use Rattle.rf_jexpr.specs.Reads.{Reads, and_then, ◌>>=◌, is_op, is_key, is_ident, token, optional}
use Rattle.rf_jstmt.specs.StmtParts.{StmtParsers, block, optional_expr, statement_exprs, for_head, for_rest, each_head, each_rest, catch_head}
use Rattle.rf_jstmt.specs.StmtReads.{basic_for, each_for, catch_part}

-- steps behind steps are steps in a row
in_a_row : {A B C : Type 0} (first : Option A) (next : A → Option B) (last : B → Option C) → and_then (and_then first next) last ≡ and_then first (λ x. and_then (next x) last)
unfolding and_then
in_a_row None next last = refl
in_a_row (Some x) next last = refl

same_next : {A B : Type 0} (first : Option A) (next other : A → Option B) → ((x : A) → next x ≡ other x) → and_then first next ≡ and_then first other
unfolding and_then
same_next None next other same = refl
same_next (Some x) next other same = same x

one_step : {A B C : Type 0} (first : Option A) (next : A → Option B) (last : B → Option C) (whole : A → Option C) → ((x : A) → and_then (next x) last ≡ whole x) → and_then (and_then first next) last ≡ and_then first whole
one_step first next last whole same = in_a_row first next last ∙ same_next first _ whole same

two_steps : {A B C D : Type 0} (first : Option A) (next : A → Option B) (then : B → Option C) (last : C → Option D) (whole : A → Option D)
    → ((x : A) → and_then (and_then (next x) then) last ≡ whole x) → and_then (and_then (and_then first next) then) last ≡ and_then first whole
two_steps first next then last whole same = ap (λ found. and_then found last) (in_a_row first next then) ∙ one_step first (λ x. and_then (next x) then) last whole same

unfoldable pub whole_basic : Parsers → StmtParsers → Tok → Tok → ForFirstTree → Reads StmtTree
whole_basic p s word left first toks = do
  semi1 ← token (is_op SEMICOLON) toks
  test ← optional_expr p semi1.1
  semi2 ← token (is_op SEMICOLON) test.1
  last ← statement_exprs p semi2.1
  right ← token (is_op RIGHT_PAREN) last.1
  body ← s.stmt right.1
  Some (For word left first semi1.0 test.0 semi2.0 last.0 right.0 body.0, body.1)

unfoldable pub whole_each : Parsers → StmtParsers → Tok → Tok → List ModTree → TypeUseTree → Reads StmtTree
whole_each p s word left mods used_type toks = do
  id ← token is_ident toks
  colon ← token (is_op COLON) id.1
  over ← p.expr colon.1
  right ← token (is_op RIGHT_PAREN) over.1
  body ← s.stmt right.1
  Some (Each word left mods used_type id.0 colon.0 over.0 right.0 body.0, body.1)

pub basic_for-whole : (p : Parsers) (s : StmtParsers) (word left : Tok) (first : ForFirstTree) (toks : List Tok) → basic_for p s word left first toks ≡ whole_basic p s word left first toks
unfolding basic_for for_head for_rest whole_basic and_then
basic_for-whole p s word left first toks =
    two_steps (token (is_op SEMICOLON) toks) _ _ _ _ (λ semi1.
    two_steps (optional_expr p semi1.1) _ _ _ _ (λ test.
    two_steps (token (is_op SEMICOLON) test.1) _ _ _ _ (λ semi2.
    two_steps (statement_exprs p semi2.1) _ _ _ _ (λ last.
    two_steps (token (is_op RIGHT_PAREN) last.1) _ _ _ _ (λ right. refl)))))

pub each_for-whole : (p : Parsers) (s : StmtParsers) (word left : Tok) (mods : List ModTree) (used_type : TypeUseTree) (toks : List Tok) → each_for p s word left mods used_type toks ≡ whole_each p s word left mods used_type toks
unfolding each_for each_head each_rest whole_each and_then
each_for-whole p s word left mods used_type toks =
    two_steps (token is_ident toks) _ _ _ _ (λ id.
    two_steps (token (is_op COLON) id.1) _ _ _ _ (λ colon.
    two_steps (p.expr colon.1) _ _ _ _ (λ over.
    two_steps (token (is_op RIGHT_PAREN) over.1) _ _ _ _ (λ right. refl))))

unfoldable pub whole_catch : StmtParsers → Reads CatchTree
whole_catch s toks = do
  word ← token (is_key CATCH) toks
  left ← token (is_op LEFT_PAREN) word.1
  fixed ← optional (token (is_key FINAL)) left.1
  used_type ← name fixed.1
  id ← token is_ident used_type.1
  right ← token (is_op RIGHT_PAREN) id.1
  body ← block s right.1
  Some (Catch word.0 left.0 fixed.0 used_type.0 id.0 right.0 body.0, body.1)

pub catch_part-whole : (s : StmtParsers) (toks : List Tok) → catch_part s toks ≡ whole_catch s toks
unfolding catch_part catch_head whole_catch and_then
catch_part-whole s toks =
    one_step (token (is_key CATCH) toks) _ _ _ (λ word.
    one_step (token (is_op LEFT_PAREN) word.1) _ _ _ (λ left.
    one_step (optional (token (is_key FINAL)) left.1) _ _ _ (λ fixed.
    one_step (name fixed.1) _ _ _ (λ used_type.
    one_step (token is_ident used_type.1) _ _ _ (λ id.
    one_step (token (is_op RIGHT_PAREN) id.1) _ _ _ (λ right. refl))))))
