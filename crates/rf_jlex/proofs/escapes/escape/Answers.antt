use Rattle.std.proofs.Common.{◌∙◌, sym}
use Rattle.std.proofs.lemmas.Bool.{false≢true}
use Rattle.rf_jtree.specs.Quoted.{REFUSED_IN_LITERALS}
use Rattle.rf_jlex.proofs.EscapeLemmas.{no_escape, simple_longest, unicode_longest, octal_escape_longest}
use Rattle.rf_jlex.proofs.escapes.escape.Goals as goal

pub returns-then-first-ne92 : goal.returns-then-first-ne92
returns-then-first-ne92 c = no_escape REFUSED_IN_LITERALS c.args.text.now (λ first long. c.if-first-ne92.true first)

pub returns-then-is_simple_escape : goal.returns-then-is_simple_escape
returns-then-is_simple_escape c =
    simple_longest REFUSED_IN_LITERALS c.args.text.now c.if-first-ne92.false c.in-len2-up.len_at_least (c.is_simple_escape.ensures.0 c.if-is_simple_escape.true)

pub returns-then-second-eq117 : goal.returns-then-second-eq117
returns-then-second-eq117 c = unicode_longest REFUSED_IN_LITERALS c.args.text.now c.unicode_escape.result c.if-second-eq117.true c.unicode_escape.ensures

pub returns-else-second-eq117 : goal.returns-else-second-eq117
returns-else-second-eq117 c =
    octal_escape_longest REFUSED_IN_LITERALS c.args.text.now c.octal_escape.result
    (λ has. false≢true (sym c.if-is_simple_escape.false ∙ c.is_simple_escape.ensures.1 has))
    c.if-second-eq117.false
    c.octal_escape.ensures
