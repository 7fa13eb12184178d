-- How far digits go at the front of a text, and that no front of digits is longer.
use Rattle.std.proofs.Common.{◌≡◌, ◌≢◌, ℕ, ◌+◌, ◌<◌, ◌≤◌, Bool, true, false, ◌==◌, cond, List, ◌∷◌, length, drop, get_or, ap, ◌∙◌, eq-eqb, ne_eqb, arith}
use Rattle.std.proofs.lemmas.Bool.Decides.{nat_tests}
use Rattle.std.proofs.lemmas.List.{at_drop_more, at_drop_all}
use Rattle.rf_jlex.specs.DigitRuns.{one_more, run_length}

-- a run that began before, from the end of what was read and the run that follows
abbrev pub run_from : ℕ → ℕ → ℕ → ℕ
run_from end i n = cond (n == 0) end (i + n)

pub run_length-digit : (p : ℕ → Bool) (byte : ℕ) (bytes : List ℕ) → p byte ≡ true → run_length p (byte ∷ bytes) ≡ 1 + run_length p bytes
unfolding run_length
run_length-digit p byte bytes passes = rw passes

pub run_length-underscore : (p : ℕ → Bool) (byte : ℕ) (bytes : List ℕ) → p byte ≡ false → (byte == 95) ≡ true → run_length p (byte ∷ bytes) ≡ one_more (run_length p bytes)
unfolding run_length
run_length-underscore p byte bytes fails is = rw (fails, is)

pub run_length-other : (p : ℕ → Bool) (byte : ℕ) (bytes : List ℕ) → p byte ≡ false → (byte == 95) ≡ false → run_length p (byte ∷ bytes) ≡ 0
unfolding run_length
run_length-other p byte bytes fails is = rw (fails, is)

pub run_from-digit : (end i n : ℕ) → run_from end i (1 + n) ≡ run_from (i + 1) (i + 1) n
run_from-digit end i n = grind (arith, nat_tests)

pub run_from-underscore : (end i n : ℕ) → run_from end i (one_more n) ≡ run_from end (i + 1) n
unfolding one_more
run_from-underscore end i n = grind (arith, nat_tests)

-- a turn of the loop: a digit, an underscore, or the end of the run
pub run-at_digit : (p : ℕ → Bool) (text : List ℕ) (end i : ℕ) → i < length text → p (get_or text i 0) ≡ true → run_from end i (run_length p (drop i text)) ≡ run_from (i + 1) (i + 1) (run_length p (drop (i + 1) text))
run-at_digit p text end i within passes =
    ap (run_from end i) (at_drop_more (run_length p) text i 0 within ∙ run_length-digit p (get_or text i 0) (drop (i + 1) text) passes)
    ∙ run_from-digit end i (run_length p (drop (i + 1) text))

pub run-at_underscore : (p : ℕ → Bool) (text : List ℕ) (end i : ℕ) → i < length text → p (get_or text i 0) ≡ false → get_or text i 0 ≡ 95 → run_from end i (run_length p (drop i text)) ≡ run_from end (i + 1) (run_length p (drop (i + 1) text))
run-at_underscore p text end i within fails is =
    ap (run_from end i) (at_drop_more (run_length p) text i 0 within ∙ run_length-underscore p (get_or text i 0) (drop (i + 1) text) fails (eq-eqb (get_or text i 0) 95 is))
    ∙ run_from-underscore end i (run_length p (drop (i + 1) text))

pub run-at_other : (p : ℕ → Bool) (text : List ℕ) (end i : ℕ) → i < length text → p (get_or text i 0) ≡ false → get_or text i 0 ≢ 95 → run_from end i (run_length p (drop i text)) ≡ end
run-at_other p text end i within fails differs =
    ap (run_from end i) (at_drop_more (run_length p) text i 0 within ∙ run_length-other p (get_or text i 0) (drop (i + 1) text) fails (ne_eqb (get_or text i 0) 95 differs))

pub run-at_end : (p : ℕ → Bool) (text : List ℕ) (end i : ℕ) → length text ≤ i → run_from end i (run_length p (drop i text)) ≡ end
unfolding run_length
run-at_end p text end i over = ap (run_from end i) (at_drop_all (run_length p) text i over)
