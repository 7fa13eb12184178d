-- No part of a number is longer than the text that it begins.
use Rattle.std.proofs.Common.{◌≡◌, ℕ, ◌≤◌, Bool, List, length, Some, subst}
use Rattle.rf_jlex.specs.declared.numbers.Number.{Number}
use Rattle.rf_jlex.specs.DigitRuns.{digits_length}
use Rattle.rf_jlex.specs.NumberLengths.{after_zero_length, integer_length, integer_suffix, signed_length, exponent_length, suffix_of, ending_of, after_point, after_whole}
use Rattle.rf_jlex.proofs.DigitFrontLemmas.{digits_longest}
use Rattle.rf_jlex.proofs.IntegerFrontLemmas.{after_zero_longest, integer_longest}
use Rattle.rf_jlex.proofs.IntegerLemmas.{Finds, end_longest}
use Rattle.rf_jlex.proofs.ExponentLemmas.{signed_longest, exponent_longest, suffix_longest, ending_longest}
use Rattle.rf_jlex.proofs.FloatingLemmas.{IsAfterWhole, literal_more, after_point_longest, after_whole_longest}

pub digits_length-within : (p : ℕ → Bool) (text : List ℕ) → digits_length p text ≤ length text
digits_length-within p text = (digits_longest p text).within

pub after_zero_length-within : (text : List ℕ) → after_zero_length text ≤ length text
after_zero_length-within text = (after_zero_longest text).within

pub integer_length-within : (text : List ℕ) → integer_length text ≤ length text
integer_length-within text = (integer_longest text).within

pub integer_suffix-within : (text : List ℕ) → (integer_suffix text).length ≤ length text
integer_suffix-within text = (end_longest text).within

pub signed_length-within : (text : List ℕ) → signed_length text ≤ length text
signed_length-within text = (signed_longest text).within

pub exponent_length-within : (text : List ℕ) → exponent_length text ≤ length text
exponent_length-within text = (exponent_longest text).within

pub suffix_of-within : (text : List ℕ) → (suffix_of text).length ≤ length text
suffix_of-within text = (suffix_longest text).within

pub ending_of-within : (text : List ℕ) → (ending_of text).length ≤ length text
ending_of-within text = (ending_longest text).within

pub after_point-within : (text : List ℕ) → (after_point text).length ≤ length text
after_point-within text = (after_point_longest text).within

pub after_whole-within : (text : List ℕ) (number : Number) → after_whole text ≡ Some number → number.length ≤ length text
after_whole-within text number is =
    let longest : Finds IsAfterWhole literal_more text (Some number) = subst (Finds IsAfterWhole literal_more text) is (after_whole_longest text) in
    longest.within

pub ruleset bounds = (digits_length-within, after_zero_length-within, integer_length-within, integer_suffix-within, signed_length-within, exponent_length-within, suffix_of-within, ending_of-within, after_point-within, after_whole-within)
