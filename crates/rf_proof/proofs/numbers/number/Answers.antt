use Rattle.std.proofs.Common.{◌≡◌, ◌<◌, ◌^◌, true, false, rules, arith, slice_index, sym, ◌∙◌, length, drop}
use Rattle.std.specs.Char.{is_ascii_digit}
use Rattle.rf_proof.proofs.Digits.{digits_end, digits_from, digits_next, digits_over, digits_stop, digits_zero, ended_reads, none_read}
use Rattle.rf_proof.proofs.numbers.number.Goals as goal

pub returns-then-not-is_ascii_digit : goal.returns-then-not-is_ascii_digit
returns-then-not-is_ascii_digit c =
    let fits : c.args.most < 2 ^ 64 = c.ranges.most.fits in
    let d : is_ascii_digit (slice_index c.args.text.now c.digits.at) ≡ false = search rules in
    ended_reads c.args.most c.args.text.now c.digits.value c.digits.at c.ended.result fits c.ended.ensures
    (c.digits.invariant ∙ digits_stop c.args.most c.digits.value c.digits.at c.args.text.now c.digits.at c.digits-test.true d)

pub returns-then-has_leading_zero : goal.returns-then-has_leading_zero
returns-then-has_leading_zero c =
    let fits : c.args.most < 2 ^ 64 = c.ranges.most.fits in
    let d : is_ascii_digit (slice_index c.args.text.now c.digits.at) ≡ true = sym c.if-not-is_ascii_digit.ensures.value in
    none_read c.args.most c.args.text.now fits
    (c.digits.invariant ∙ digits_zero c.args.most c.digits.value c.digits.at c.args.text.now c.digits.at c.digits-test.true d (sym c.if-has_leading_zero.ensures))

pub returns-in_err-value : goal.returns-in_err-value
returns-in_err-value c =
    let fits : c.args.most < 2 ^ 64 = c.ranges.most.fits in
    let d : is_ascii_digit (slice_index c.args.text.now c.digits.at) ≡ true = sym c.if-not-is_ascii_digit.ensures.value in
    rw c.from_residual.ensures (none_read c.args.most c.args.text.now fits
    (c.digits.invariant ∙ digits_over c.args.most c.digits.value c.digits.at c.args.text.now c.digits.at c.digits-test.true d (sym c.if-has_leading_zero.ensures) c.in_err-value.ensures))

pub digits-preserved : goal.digits-preserved
digits-preserved c =
    let d : is_ascii_digit (slice_index c.args.text.now c.digits.at) ≡ true = sym c.if-not-is_ascii_digit.ensures.value in
    let more = c.in_ok-value.ensures in
    rw more.0 (c.digits.invariant ∙ digits_next c.args.most c.digits.value c.digits.at c.args.text.now c.digits.at c.digits-test.true d (sym c.if-has_leading_zero.ensures) (rw more.0 at more.1))

pub returns : goal.returns
returns c =
    let fits : c.args.most < 2 ^ 64 = c.ranges.most.fits in
    let all : c.digits.at ≡ length c.args.text.now = omega arith in
    ended_reads c.args.most c.args.text.now c.digits.value (length c.args.text.now) c.ended-2.result fits c.ended-2.ensures ((rw all at c.digits.invariant) ∙ digits_end c.args.most c.digits.value (length c.args.text.now) c.args.text.now)
