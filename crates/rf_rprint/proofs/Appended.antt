-- Texts that are put behind what is written, one after the other.
use Rattle.std.proofs.Common.{◌≡◌, ◌++◌, List, ℕ, append_assoc}

pub two_appended : (out x y a b whole : List ℕ) → whole ≡ a ++ b → x ≡ out ++ a → y ≡ x ++ b → y ≡ out ++ whole
two_appended out x y a b whole parts first second = rw (second, first, parts) (simp append_assoc)

pub three_appended : (out x y z a b c whole : List ℕ) → whole ≡ a ++ (b ++ c) →
    x ≡ out ++ a → y ≡ x ++ b → z ≡ y ++ c → z ≡ out ++ whole
three_appended out x y z a b c whole parts first second third =
    rw (third, second, first, parts) (simp append_assoc)
