-- From tokens to files.
use Rattle.std.proofs.Common.{◌≡◌, ◌∙◌, ◌↔◌, ap, sym, refl, subst, ℕ, Bool, true, false, List, map, IsTrue}
use Rattle.std.specs.Str.{IsUtf8}
use Rattle.rf_rtree.specs.declared.items.RuleProg.{RuleProg}
use Rattle.rf_rtree.specs.Readings.{Reading, IsFault}
use Rattle.rf_rlex.specs.declared.tokens.Placed.{Placed}
use Rattle.rf_rlex.specs.Lexed.{tokens_of}
use Rattle.rf_rparse.specs.Answers.{IsSyntax, Reads, words_of, line_of}
use Rattle.rf_rparse.specs.Words.{shown}

pub not_so : (b : Bool) → b ≡ false → IsTrue b → ⊥
not_so b e is = let h : true ≡ false = sym is ∙ e in cc

pub no_text : (bytes : List ℕ) (test : Bool) → IsTrue test ↔ IsUtf8 bytes → test ≡ false → IsSyntax bytes 1
no_text bytes test means fails =
    let none : IsUtf8 bytes → ⊥ = λ utf8. not_so test fails (means.1 utf8) in
    record {
      unread = λ prog reads. none reads.0;
      no_text = λ never. refl;
      text = λ utf8. absurd (none utf8);
    }

pub fault_on : (bytes : List ℕ) (toks : List Placed) (at line : ℕ) → IsUtf8 bytes → toks ≡ tokens_of bytes →
    IsFault (map shown toks) at → line ≡ line_of toks at bytes → IsSyntax bytes line
fault_on bytes toks at line utf8 are fault is =
    let there : IsFault (words_of bytes) at = subst (λ (toks : List Placed). IsFault (map shown toks) at) are fault in
    record {
      unread = λ prog reads. there.unread prog reads.1;
      no_text = λ never. absurd (never utf8);
      text = λ utf8. (at, there, is ∙ ap (λ (toks : List Placed). line_of toks at bytes) are);
    }

pub reads_whole : (bytes : List ℕ) (toks : List Placed) (prog : RuleProg) → IsUtf8 bytes → toks ≡ tokens_of bytes →
    Reading (map shown toks) prog → Reads bytes prog
reads_whole bytes toks prog utf8 are reading =
    (utf8, subst (λ (toks : List Placed). Reading (map shown toks) prog) are reading)
