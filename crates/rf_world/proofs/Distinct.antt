-- Texts that a set holds as distinct keys are distinct lists of bytes.
use Rattle.std.proofs.Common.{◌≡◌, ◌≢◌, ℕ, List, [], ◌∷◌, map, sym, ◌∙◌, Bool, false, true≢false, Vec, Global, arith}
use Rattle.std.specs.Prelude.{All, bytes_eq}
use Rattle.std.specs.List.{IsDistinct}
use Rattle.std.proofs.lemmas.List.Elements.{All-from_recursion, All-map}
use Rattle.std.proofs.lemmas.List.Kept.{AllPairs-cons}
use Rattle.std.proofs.lemmas.Map.Keys.{IsDistinct-head, IsDistinct-tail}
use Rattle.std.proofs.lemmas.Slice.Eq.{bytes_eq-Decides}
use Rattle.rf_world.specs.World.{AreDistinct}

-- keys that are pairwise not equal have pairwise different bytes
pub distinct_bytes : (keys : List (Vec ℕ Global)) → IsDistinct (λ key other. bytes_eq key.items other.items) keys
    → AreDistinct (map (λ key. key.items) keys)
distinct_bytes [] distinct = λ i j d below last. absurd (omega arith)
distinct_bytes (key ∷ keys) distinct =
    let eq : Vec ℕ Global → Vec ℕ Global → Bool = λ key other. bytes_eq key.items other.items in
    let apart : All (λ other. key.items ≢ other.items) keys = λ k d within same.
    true≢false (sym ((bytes_eq-Decides _ _).1 same) ∙ All-from_recursion (λ other. eq key other ≡ false) keys (IsDistinct-head eq key keys distinct) k d within) in
    AllPairs-cons (λ path other. path ≢ other) key.items (map (λ key. key.items) keys)
    (All-map (λ path. key.items ≢ path) (λ key. key.items) keys apart)
    (distinct_bytes keys (IsDistinct-tail eq key keys distinct))
