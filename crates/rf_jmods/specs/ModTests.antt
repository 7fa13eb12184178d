-- The further conditions on modifiers, as tests of what was read (JLS 8.1.1, 8.3.1, 8.4.3, 9.7).
use Rattle.std.specs.Prelude.{List, [], ◌∷◌, Bool, true, not, ◌&&◌, ◌||◌}
use Rattle.std.specs.List.{list_all}
use Rattle.rf_jtree.specs.declared.keyword_names.TheConstants.{FINAL}
use Rattle.rf_jtree.specs.NameFits.{is_same_mod, is_access}
use Rattle.rf_jtree.specs.NameTrees.{ModTree, Word}
use Rattle.rf_jexpr.specs.Reads.{is_key}

-- no modifier stands twice
unfoldable pub none_twice : List ModTree → Bool
none_twice [] = true
none_twice (one ∷ mods) = list_all (λ other. not (is_same_mod one other)) mods && none_twice mods

-- at most one of `public`, `protected` and `private` stands
unfoldable pub one_access : List ModTree → Bool
one_access [] = true
one_access (one ∷ mods) = (not (is_access one) || list_all (λ other. not (is_access other)) mods) && one_access mods

unfoldable pub mods_fit : List ModTree → Bool
mods_fit mods = none_twice mods && one_access mods

-- `final` and annotations alone, as a local variable and a parameter have them (JLS 8.4.1, 14.4)
unfoldable pub is_variable_mod : ModTree → Bool
is_variable_mod (Word tok) = is_key FINAL tok
is_variable_mod annotation = true

unfoldable pub variable_mods_fit : List ModTree → Bool
variable_mods_fit mods = mods_fit mods && list_all is_variable_mod mods
