-- The last line of a text, byte by byte.
use Rattle.std.proofs.Common.{◌≡◌, ◌∙◌, ap, sym, refl, ℕ, ◌+◌, ◌-◌, ◌<◌, ◌≤◌, List, [], ◌∷◌, ◌==◌, length, take, drop, get_or, arith, if◌then◌else◌}
use Rattle.std.proofs.Math.Seq.{take-length}
use Rattle.rf_rparse.specs.Answers.{last_line}

more : (byte : ℕ) (bytes : List ℕ) → take (length (byte ∷ bytes) - 1) bytes ≡ bytes
more byte bytes =
    let all : length (byte ∷ bytes) - 1 ≡ length bytes = omega arith in
    ap (λ n. take n bytes) all ∙ take-length bytes

pub last_line_next : (text : List ℕ) → 1 ≤ length text →
    last_line text ≡ (if get_or text 0 0 == 10 then last_line (take (length text - 1) (drop 1 text)) + 1
    else last_line (take (length text - 1) (drop 1 text)))
last_line_next [] some = absurd (omega arith)
last_line_next (byte ∷ bytes) some =
    ap (λ (rest : List ℕ). if byte == 10 then last_line rest + 1 else last_line rest) (sym (more byte bytes))

pub last_line_end : (text : List ℕ) → length text < 1 → last_line text ≡ 1
last_line_end [] none = refl
last_line_end (byte ∷ bytes) none = absurd (omega arith)
