use Rattle.std.proofs.Common.{◌≡◌, ◌+◌, ◌<◌, length, subst, arith, length-append, ap}
use Rattle.rf_jlex.specs.Cuts.{IsNext}
use Rattle.rf_jlex.proofs.CutLemmas.{skip_parts, no_tokens}
use Rattle.rf_jlex.proofs.LexLemmas.{token_is_some, CutsTokens-next, AreTokens-end, is_nil, is_no_nil, rest_is_short, IsFault-here}
use Rattle.rf_jlex.proofs.lexer.lex.Goals as goal

pub loop-list-smaller : goal.loop-list-smaller
loop-list-smaller c =
    let front = c.cut_trivia-front.result in
    let is = subst (IsNext front.rest.now) c.in-Token.is c.cut_trivia-front.ensures.next in
    let some : 0 < c.in-Token.length = token_is_some front.rest.now c.in-Token.kind c.in-Token.length is in
    let left : length c.split_at.result.1.now + c.in-Token.length ≡ length front.rest.now = c.split_at.ensures.back_len in
    omega (arith, ap length (skip_parts c.loop-list.rest.now front.lead.now front.rest.now c.cut_trivia-front.ensures.skips), length-append front.lead.now front.rest.now)

pub loop-list-preserved : goal.loop-list-preserved
loop-list-preserved c =
    let front = c.cut_trivia-front.result in
    let is = subst (IsNext front.rest.now) c.in-Token.is c.cut_trivia-front.ensures.next in
    CutsTokens-next c.loop-list.list c.push.new.self
    record { kind = c.in-Token.kind; lead = c.in_ok-lead.lead; text = c.in_ok-text-in-Token.text }
    c.args.bytes.now c.loop-list.rest.now front.lead.now front.rest.now c.split_at.result.0.now c.split_at.result.1.now c.in-Token.length
    c.loop-list.invariant c.cut_trivia-front.ensures.skips is c.in_ok-lead.ensures c.in_ok-text-in-Token.ensures c.split_at.ensures.front c.split_at.ensures.back c.in_ok-push-in-Token.ensures.ok

pub returns-in-Nothing : goal.returns-in-Nothing
returns-in-Nothing c =
    let front = c.cut_trivia-front.result in
    AreTokens-end c.loop-list.list c.args.bytes.now c.loop-list.rest.now front.lead.now front.rest.now c.in_ok-lead.lead
    c.loop-list.invariant c.cut_trivia-front.ensures.skips (is_nil front.rest.now c.is_empty.result c.is_empty.ensures c.if-is_empty.true) c.in_ok-lead.ensures

pub overflow_sub-result : goal.overflow_sub-result
overflow_sub-result c =
    let front = c.cut_trivia-front.result in
    rest_is_short c.loop-list.list c.args.bytes.now c.loop-list.rest.now front.lead.now front.rest.now c.loop-list.invariant c.cut_trivia-front.ensures.skips

pub returns-in-Nothing-2 : goal.returns-in-Nothing-2
returns-in-Nothing-2 c =
    let front = c.cut_trivia-front.result in
    let none = subst (IsNext front.rest.now) c.in-Nothing-2.is c.cut_trivia-front.ensures.next in
    let fault = IsFault-here c.loop-list.list c.args.bytes.now c.loop-list.rest.now front.lead.now front.rest.now c.loop-list.invariant c.cut_trivia-front.ensures.skips none
    (is_no_nil front.rest.now c.is_empty.result c.is_empty.ensures c.if-is_empty.false) in
    (no_tokens c.args.bytes.now _ fault, fault)
