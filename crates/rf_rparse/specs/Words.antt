-- Tokens as the grammar sees them, and those that are words.
use Rattle.std.specs.Prelude.{ℕ, List, Bool, Option, Some, None, codes, if◌then◌else◌}
use Rattle.std.specs.Str.{bytes_eq}
use Rattle.rf_rlex.specs.declared.tokens.Placed.{Placed}
use Rattle.rf_rlex.specs.declared.tokens.Tok.{Tok as Lexed}
use Rattle.rf_rlex.specs.declared.tokens.Tok.TheVariants as c
use Rattle.rf_rtree.specs.declared.forms.Comp.{Comp}
use Rattle.rf_rtree.specs.declared.forms.Comp.TheVariants as comp
use Rattle.rf_rtree.specs.declared.words.Word.{Word}
use Rattle.rf_rtree.specs.Grammar.{word}
use Rattle.rf_rtree.specs.Tokens.{Tok}
use Rattle.rf_rtree.specs.Tokens as t

abbrev pub shown_at : ℕ → Lexed → Tok
shown_at line c.Rule = t.Rule
shown_at line c.Derive = t.Derive
shown_at line c.For = t.For
shown_at line c.If = t.If
shown_at line c.Then = t.Then
shown_at line c.Means = t.Means
shown_at line c.End = t.End
shown_at line c.Implies = t.Implies
shown_at line c.Or = t.Or
shown_at line c.And = t.And
shown_at line c.Not = t.Not
shown_at line c.All = t.All
shown_at line c.Some = t.Some
shown_at line c.True = t.True
shown_at line c.False = t.False
shown_at line c.Comma = t.Comma
shown_at line c.Colon = t.Colon
shown_at line c.Dot = t.Dot
shown_at line c.Left = t.Left
shown_at line c.Right = t.Right
shown_at line c.Equal = t.Equal
shown_at line c.Unequal = t.Unequal
shown_at line c.AtMost = t.AtMost
shown_at line c.Old = t.Old line
shown_at line (c.Name text) = t.Name text line
shown_at line (c.Access text) = t.Access text line
shown_at line (c.Text text) = t.Text text line
shown_at line c.Bad = t.Bad

-- a token as the grammar has it
abbrev pub shown : Placed → Tok
shown placed = shown_at placed.line placed.tok

abbrev pub name_in : Tok → Option Word
name_in (t.Name text line) = Some (word text line)
name_in tok = None

abbrev pub is_package : List ℕ → Bool
is_package text = bytes_eq text (codes "package")

-- a property is a name or `package`
abbrev pub prop_in : Tok → Option Word
prop_in (t.Name text line) = Some (word text line)
prop_in (t.Access text line) = if is_package text then Some (word text line) else None
prop_in tok = None

abbrev pub comp_in : Tok → Option Comp
comp_in t.Equal = Some comp.Equal
comp_in t.Unequal = Some comp.Unequal
comp_in t.AtMost = Some comp.AtMost
comp_in tok = None
