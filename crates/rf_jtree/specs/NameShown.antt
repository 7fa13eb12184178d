-- What names, types and modifiers show as trees: themselves without pointers.
use Rattle.std.specs.Prelude.{List, map, option_map}
use Rattle.rf_jtree.specs.declared.names.Dotted.{Dotted}
use Rattle.rf_jtree.specs.declared.names.Many.{Many}
use Rattle.rf_jtree.specs.declared.names.Mod.{Mod}
use Rattle.rf_jtree.specs.declared.names.Mod.TheVariants as m
use Rattle.rf_jtree.specs.declared.names.Name.{Name}
use Rattle.rf_jtree.specs.declared.names.Strs.{Strs}
use Rattle.rf_jtree.specs.declared.names.Strs.TheVariants as s
use Rattle.rf_jtree.specs.declared.names.TypeBase.{TypeBase}
use Rattle.rf_jtree.specs.declared.names.TypeBase.TheVariants as b
use Rattle.rf_jtree.specs.declared.names.TypeUse.{TypeUse}
use Rattle.rf_jtree.specs.declared.tokens.Tok.{Tok}
use Rattle.rf_jtree.specs.NameTrees.{ManyTree, NameTree, TypeBaseTree, TypeUseTree, StrsTree, ModTree}
use Rattle.rf_jtree.specs.NameTrees as t

abbrev pub many_shown : {A B : Type 0} → (A → B) → Many A → ManyTree B
many_shown shown many = record { first = shown many.first.value; rest = map (λ item. (item.0, shown item.1)) many.rest }

abbrev pub toks_shown : Many Tok → ManyTree Tok
toks_shown many = record { first = many.first.value; rest = many.rest }

abbrev pub ids_shown : Dotted → ManyTree Tok
ids_shown ids = record { first = ids.first; rest = ids.rest }

abbrev pub name_shown : Name → NameTree
name_shown name = record { ids = ids_shown name.ids }

abbrev pub base_shown : TypeBase → TypeBaseTree
base_shown (b.Prim tok) = t.Prim tok
base_shown (b.Named name) = t.Named (name_shown name)

abbrev pub type_shown : TypeUse → TypeUseTree
type_shown used_type = record { base = base_shown used_type.base; dims = used_type.dims }

abbrev pub strs_shown : Strs → StrsTree
strs_shown (s.One tok) = t.One tok
strs_shown (s.Braced left list right) = t.Braced left (option_map toks_shown list) right

abbrev pub mod_shown : Mod → ModTree
mod_shown (m.Word tok) = t.Word tok
mod_shown (m.Mark at id parens) = t.Mark at id parens
mod_shown (m.Suppress at id left strs right) = t.Suppress at id left (strs_shown strs) right

abbrev pub mods_shown : List Mod → List ModTree
mods_shown mods = map mod_shown mods
