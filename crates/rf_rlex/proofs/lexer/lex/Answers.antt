use Rattle.std.proofs.Common.{◌∙◌, ◌+◌, ◌≤◌, ◌++◌, ℕ, ap, sym, get_or, length, arith}
use Rattle.rf_rlex.specs.Lexed.{tokens_of, tokens_from}
use Rattle.rf_rlex.proofs.LexLemmas.{skipped, taken, refused, ended, line_fits}
use Rattle.rf_rlex.proofs.lexer.lex.Goals as goal

pub loop-rest-preserved-in-Skip : goal.loop-rest-preserved-in-Skip
loop-rest-preserved-in-Skip c =
    let some : 1 ≤ length c.loop-rest.rest.now = omega arith in
    let line = line_fits c.loop-rest.line (get_or c.loop-rest.rest.now 0 0) (c.loop-rest.line + 1) (omega arith) in
    record {
      line = omega (arith, c.line_behind-line.ensures, line);
      toks = ap (λ (at : ℕ). c.loop-rest.toks ++ tokens_from c.split_at.result.1.now 0 at) c.line_behind-line.ensures
          ∙ skipped c.loop-rest.toks _ c.loop-rest.rest.now c.split_at.result.1.now c.loop-rest.line c.in-Skip.length
          some c.split_at.ensures.back (sym c.in-Skip.is ∙ c.in_ok-length.ensures.value) c.loop-rest.invariant.toks;
    }

pub loop-rest-preserved : goal.loop-rest-preserved
loop-rest-preserved c =
    let some : 1 ≤ length c.loop-rest.rest.now = omega arith in
    record {
      line = omega arith;
      toks = taken c.loop-rest.toks c.push.new.self _ c.loop-rest.rest.now c.split_at-in-Token.result.1.now c.loop-rest.line
          c.in-Token.tok c.in-Token.length some c.split_at-in-Token.ensures.back
          (sym c.in-Token.is ∙ c.in_ok-length.ensures.value) c.in_ok-push-in-Token.ensures.ok c.loop-rest.invariant.toks;
    }

pub returns-in-Nothing : goal.returns-in-Nothing
unfolding tokens_of
returns-in-Nothing c =
    let some : 1 ≤ length c.loop-rest.rest.now = omega arith in
    refused c.loop-rest.toks c.push-in-Nothing.new.self _ c.loop-rest.rest.now c.loop-rest.line some
    (sym c.in-Nothing.is ∙ c.in_ok-length.ensures.value) c.in_ok-push-in-Nothing.ensures.ok c.loop-rest.invariant.toks

pub returns : goal.returns
unfolding tokens_of
returns c = ended c.loop-rest.toks _ c.loop-rest.rest.now c.loop-rest.line (omega arith) c.loop-rest.invariant.toks
