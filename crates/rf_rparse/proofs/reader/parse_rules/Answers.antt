use Rattle.std.proofs.Common.{◌∙◌, ap, sym, subst, map, List}
use Rattle.rf_rlex.specs.declared.tokens.Placed.{Placed}
use Rattle.rf_rparse.specs.Answers.{IsAnswer, line_of}
use Rattle.rf_rparse.specs.Words.{shown}
use Rattle.rf_rparse.proofs.AccessLemmas.{reading_words}
use Rattle.rf_rparse.proofs.ParseLemmas.{no_text, fault_on, reads_whole}
use Rattle.rf_rparse.proofs.reader.parse_rules.Goals as goal

pub returns-then-not-is_utf8 : goal.returns-then-not-is_utf8
returns-then-not-is_utf8 c = record {
  parsed = no_text c.args.bytes.now c.is_utf8.result c.is_utf8.ensures c.if-not-is_utf8.true;
  access_words = tt;
}

pub returns-in-Program : goal.returns-in-Program
returns-in-Program c =
    let answer = subst (IsAnswer (map shown c.as_slice.result.now)) c.in-Program.is c.in_ok-prog.ensures in
    let whole = reads_whole c.args.bytes.now c.as_slice.result.now c.in-Program.prog (c.is_utf8.ensures.0 c.if-not-is_utf8.false)
    (c.as_slice.ensures ∙ c.in_ok-toks.ensures) answer in
    record { parsed = whole; access_words = reading_words c.args.bytes.now c.in-Program.prog whole.1 }

pub returns-clause-parsed : goal.returns-clause-parsed
returns-clause-parsed c =
    let answer = subst (IsAnswer (map shown c.as_slice.result.now)) c.in-Fault.is c.in_ok-prog.ensures in
    fault_on c.args.bytes.now c.as_slice.result.now c.in-Fault.at c.line_of.result (c.is_utf8.ensures.0 c.if-not-is_utf8.false)
    (c.as_slice.ensures ∙ c.in_ok-toks.ensures) answer
    (c.line_of.ensures ∙ ap (λ (toks : List Placed). line_of toks c.in-Fault.at c.args.bytes.now) (c.as_slice-in-Fault.ensures ∙ sym c.as_slice.ensures))
