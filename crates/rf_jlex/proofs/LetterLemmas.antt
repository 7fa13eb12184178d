-- The character at the front of a text, as `decoded` reads it.
use Rattle.std.proofs.Common.{◌≡◌, ℕ, ◌<◌, Bool, false, List, Some, None, length, drop, sym, ap, ◌∙◌, arith, length-append}
use Rattle.std.specs.Char.{encode_utf8}
use Rattle.std.proofs.lemmas.Bool.{false≢true}
use Rattle.std.proofs.lemmas.Str.{encode_same, length-encode, len_utf8_bounds}
use Rattle.bstr.specs.Utf8.{decoded}
use Rattle.bstr.proofs.lemmas.EncodeLemmas.{decoded-encode}
use Rattle.bstr.proofs.lemmas.SoundLemmas.{SpellsChar-decoded}
use Rattle.rf_jlex.specs.Letters.{BeginsWithCharacter, BeginsWithPassing}

-- a character has at least one byte
pub length-encode-some : (character : ℕ) → 0 < length (encode_utf8 character)
length-encode-some character = omega (arith, length-encode character, (len_utf8_bounds character).0)

-- so the rest of a text behind its first character is shorter
pub rest_is_shorter : (text : List ℕ) (character : ℕ) (rest : List ℕ) → BeginsWithCharacter text character rest → length rest < length text
rest_is_shorter text character rest begins =
    omega (arith, ap length begins.parts, length-append (encode_utf8 character) rest, length-encode-some character)

-- what is read is a character that the text begins with
pub begins_with_decoded : (text : List ℕ) (character : ℕ) → (decoded text).char ≡ Some character → BeginsWithCharacter text character (drop (decoded text).size text)
begins_with_decoded text character found =
    let spelled = SpellsChar-decoded text character found in
    record { scalar = spelled.scalar; parts = spelled.bytes }

-- and where none is read, the text begins with none
pub decoded_begins : (text : List ℕ) (character : ℕ) (rest : List ℕ) → BeginsWithCharacter text character rest → (decoded text).char ≡ Some character
decoded_begins text character rest begins =
    ap (λ bytes. (decoded bytes).char) begins.parts ∙ ap (λ read. read.char) (decoded-encode character rest begins.scalar)

pub none_begins : (text : List ℕ) → (decoded text).char ≡ None → (character : ℕ) (rest : List ℕ) → BeginsWithCharacter text character rest → ⊥
none_begins text none character rest begins = let found = decoded_begins text character rest begins in cc

-- a text begins with one character alone
pub same_character : (text : List ℕ) (one : ℕ) (rest : List ℕ) (other : ℕ) (more : List ℕ) → BeginsWithCharacter text one rest → BeginsWithCharacter text other more → (one ≡ other) × (rest ≡ more)
same_character text one rest other more first second = encode_same one other rest more (sym first.parts ∙ second.parts)

-- so where that one fails the test, the text begins with none that passes
pub none_passes : (test : ℕ → Bool) (text : List ℕ) (character : ℕ) (rest : List ℕ) → BeginsWithCharacter text character rest → test character ≡ false → (more : List ℕ) → BeginsWithPassing test text more → ⊥
none_passes test text character rest begins fails more passing =
    let same = same_character text character rest passing.character more begins passing.begins in
    false≢true (sym fails ∙ ap test same.0 ∙ passing.passes)
