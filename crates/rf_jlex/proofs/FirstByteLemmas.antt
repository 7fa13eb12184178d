-- The lengths of the parts of a number, by the first byte of the text and what follows it.
use Rattle.std.proofs.Common.{◌≡◌, ℕ, ◌+◌, ◌-◌, ◌<◌, Bool, ◌==◌, cond, List, [], ◌∷◌, length, take, drop, get_or, Some, None, ap, sym, ◌∙◌, arith}
use Rattle.std.proofs.lemmas.List.{at_drop_more, at_drop_all, take_rest}
use Rattle.rf_jtree.specs.declared.tokens.TokKind.TheVariants as kinds
use Rattle.rf_jtree.specs.Digits.{is_digit, is_octal_digit, is_binary_digit, is_hex_digit}
use Rattle.rf_jtree.specs.Numbers.{is_x, is_b, is_l, is_e, is_f, is_d, is_sign}
use Rattle.rf_jlex.specs.DigitRuns.{one_more, run_length, digits_length}
use Rattle.rf_jlex.specs.NumberLengths.{behind, unless_empty, after_zero_length, integer_length, integer_suffix, signed_length, exponent_length, suffix_of, ending_of, after_point, after_whole, fraction_of, whole_literal_of, floating_of}

-- what a function gives is what it gives of the first byte and the rest
at_first : {Y : Type 0} (f : List ℕ → Y) (text : List ℕ) → 0 < length text → f text ≡ f (get_or text 0 0 ∷ drop 1 text)
at_first f text some = at_drop_more f text 0 0 some

at_end : {Y : Type 0} (f : List ℕ → Y) (text : List ℕ) → length text < 1 → f text ≡ f []
at_end f text none = at_drop_all f text 0 (omega arith)

-- what a pattern has for the rest
pub rest_is : (text : List ℕ) → take (length text - 1) (drop 1 text) ≡ drop 1 text
rest_is text = take_rest text 1

pub digits_length-first : (p : ℕ → Bool) (text : List ℕ) → 0 < length text → digits_length p text ≡ cond (p (get_or text 0 0)) (run_length p text) 0
unfolding digits_length
digits_length-first p text some =
    at_first (digits_length p) text some ∙ ap (λ n. cond (p (get_or text 0 0)) n 0) (sym (at_first (run_length p) text some))

pub digits_length-end : (p : ℕ → Bool) (text : List ℕ) → length text < 1 → digits_length p text ≡ 0
unfolding digits_length
digits_length-end p text none = at_end (digits_length p) text none

pub ruleset digits_first = (digits_length-first, digits_length-end, rest_is)

pub after_zero_length-first : (text : List ℕ) → 0 < length text → after_zero_length text ≡ cond (is_x (get_or text 0 0)) (one_more (digits_length is_hex_digit (drop 1 text))) (cond (is_b (get_or text 0 0)) (one_more (digits_length is_binary_digit (drop 1 text))) (run_length is_octal_digit text))
unfolding after_zero_length
after_zero_length-first text some =
    let byte = get_or text 0 0 in
    let rest = drop 1 text in
    at_first after_zero_length text some
    ∙ ap (λ n. cond (is_x byte) (one_more (digits_length is_hex_digit rest)) (cond (is_b byte) (one_more (digits_length is_binary_digit rest)) n)) (sym (at_first (run_length is_octal_digit) text some))

pub after_zero_length-end : (text : List ℕ) → length text < 1 → after_zero_length text ≡ 0
unfolding after_zero_length
after_zero_length-end text none = at_end after_zero_length text none

pub ruleset after_zero_first = (after_zero_length-first, after_zero_length-end, rest_is)

pub integer_length-first : (text : List ℕ) → 0 < length text → integer_length text ≡ cond ((get_or text 0 0) == 48) (1 + after_zero_length (drop 1 text)) (digits_length is_digit text)
unfolding integer_length
integer_length-first text some =
    at_first integer_length text some ∙ ap (λ value. cond ((get_or text 0 0) == 48) (1 + after_zero_length (drop 1 text)) value) (sym (at_first (digits_length is_digit) text some))

pub integer_length-end : (text : List ℕ) → length text < 1 → integer_length text ≡ 0
unfolding integer_length
integer_length-end text none = at_end integer_length text none

pub ruleset integer_length_first = (integer_length-first, integer_length-end, rest_is)

pub integer_suffix-first : (text : List ℕ) → 0 < length text → integer_suffix text ≡ cond (is_l (get_or text 0 0)) (record { kind = kinds.Long; length = 1 }) (record { kind = kinds.Int; length = 0 })
unfolding integer_suffix
integer_suffix-first text some = at_first integer_suffix text some

pub integer_suffix-end : (text : List ℕ) → length text < 1 → integer_suffix text ≡ record { kind = kinds.Int; length = 0 }
unfolding integer_suffix
integer_suffix-end text none = at_end integer_suffix text none

pub ruleset integer_suffix_first = (integer_suffix-first, integer_suffix-end, rest_is)

pub signed_length-first : (text : List ℕ) → 0 < length text → signed_length text ≡ cond (is_sign (get_or text 0 0)) (one_more (digits_length is_digit (drop 1 text))) (digits_length is_digit text)
unfolding signed_length
signed_length-first text some =
    at_first signed_length text some ∙ ap (λ value. cond (is_sign (get_or text 0 0)) (one_more (digits_length is_digit (drop 1 text))) value) (sym (at_first (digits_length is_digit) text some))

pub signed_length-end : (text : List ℕ) → length text < 1 → signed_length text ≡ 0
unfolding signed_length
signed_length-end text none = at_end signed_length text none

pub ruleset signed_length_first = (signed_length-first, signed_length-end, rest_is)

pub exponent_length-first : (text : List ℕ) → 0 < length text → exponent_length text ≡ cond (is_e (get_or text 0 0)) (one_more (signed_length (drop 1 text))) 0
unfolding exponent_length
exponent_length-first text some = at_first exponent_length text some

pub exponent_length-end : (text : List ℕ) → length text < 1 → exponent_length text ≡ 0
unfolding exponent_length
exponent_length-end text none = at_end exponent_length text none

pub ruleset exponent_length_first = (exponent_length-first, exponent_length-end, rest_is)

pub suffix_of-first : (text : List ℕ) → 0 < length text → suffix_of text ≡ cond (is_f (get_or text 0 0)) (record { kind = kinds.Float; length = 1 }) (cond (is_d (get_or text 0 0)) (record { kind = kinds.Double; length = 1 }) (record { kind = kinds.Double; length = 0 }))
unfolding suffix_of
suffix_of-first text some = at_first suffix_of text some

pub suffix_of-end : (text : List ℕ) → length text < 1 → suffix_of text ≡ record { kind = kinds.Double; length = 0 }
unfolding suffix_of
suffix_of-end text none = at_end suffix_of text none

pub ruleset suffix_of_first = (suffix_of-first, suffix_of-end, rest_is)

pub after_whole-first : (text : List ℕ) → 0 < length text → after_whole text ≡ cond ((get_or text 0 0) == 46) (Some (behind 1 (after_point (drop 1 text)))) (unless_empty (ending_of text))
unfolding after_whole
after_whole-first text some =
    at_first after_whole text some ∙ ap (λ value. cond ((get_or text 0 0) == 46) (Some (behind 1 (after_point (drop 1 text)))) (unless_empty value)) (sym (at_first (ending_of) text some))

pub after_whole-end : (text : List ℕ) → length text < 1 → after_whole text ≡ None
unfolding after_whole
after_whole-end text none = at_end after_whole text none

pub ruleset after_whole_first = (after_whole-first, after_whole-end, rest_is)

pub floating_of-first : (text : List ℕ) → 0 < length text → floating_of text ≡ cond ((get_or text 0 0) == 46) (fraction_of (drop 1 text)) (whole_literal_of text)
unfolding floating_of
floating_of-first text some =
    at_first floating_of text some ∙ ap (λ value. cond ((get_or text 0 0) == 46) (fraction_of (drop 1 text)) value) (sym (at_first (whole_literal_of) text some))

pub floating_of-end : (text : List ℕ) → length text < 1 → floating_of text ≡ None
unfolding floating_of
floating_of-end text none = at_end floating_of text none

pub ruleset floating_of_first = (floating_of-first, floating_of-end, rest_is)
