-- A file that fits does so where it is rewritten.
use Rattle.std.proofs.Common.{◌≡◌, ℕ, suc, List, [], ◌∷◌, inl, inr, Option, Some, None, IfSome, IsSome, IsNone, refl, ap, ◌∙◌}
use Rattle.rf_jtree.specs.declared.tokens.Tok.{Tok}
use Rattle.rf_jtree.specs.declared.words.Kw.{Kw}
use Rattle.rf_jtree.specs.declared.operator_names.TheConstants.{COMMA}
use Rattle.rf_jtree.specs.DeclFits.{NamesFit, ParamFits, ParamsFit, CtorCallFits, RetFits, BodyFits, IsCallable, MemberFits, is_semi, ClassTakes, InterfaceTakes, IsOneName, IsClass, IsInterface, DeclFits, NamesPackage, ImportFits, UnitFits}
use Rattle.rf_jtree.specs.DeclTrees.{ParamTree, ParamsTree, CtorCallTree, RetTree, Void, Typed, BodyTree, Block, MemberTree, Init, Ctor, Method, Field, TypeDeclTree, ImportTree, UnitTree}
use Rattle.rf_jtree.specs.DeclTrees.{param_yield, member_yield, import_yield}
use Rattle.rf_jtree.specs.NameFits.{EachFits, ManyFit, NameFits}
use Rattle.rf_jtree.specs.NameTrees.{ManyTree, NameTree, name_yield}
use Rattle.rf_jtree.specs.StmtTrees.{VarTree, var_yield}
use Rattle.rf_jview.specs.DeclWith.{names_with, param_with, params_with, ctor_call_with, ret_with, body_with, member_with, decl_with, import_name_with, import_with, unit_with}
use Rattle.rf_jview.specs.Rewritings.{Rewriting, WritesNames, behind, option_with, behind_with, rest_with, many_with}
use Rattle.rf_jtree.specs.ExprTrees.{InitTree}
use Rattle.rf_jview.specs.ExprWith.{init_with}
use Rattle.rf_jview.specs.StmtWith.{var_with}
use Rattle.rf_jview.proofs.ExprFitsWith.{each_fits-with, many_fits-with, optional_fits-with, type_fits-with, args_fits-with}
use Rattle.rf_jview.proofs.StmtFitsWith.{vars_fits-with, block_fits-with, stmts_fits-with}

names_fits-with : (g : Rewriting) → WritesNames g → (key : Kw) (n : ℕ) (names : Option (Tok × ManyTree NameTree)) → IfSome names (NamesFit key)
    → IfSome (names_with g n names) (NamesFit key)
names_fits-with g w key n None fit = tt
names_fits-with g w key n (Some names) fit = (fit.0, many_fits-with NameFits COMMA name_yield g.written w.names (suc n) names.1 fit.1)

-- methods and constructors
param_fits-with : (g : Rewriting) → WritesNames g → (n : ℕ) (param : ParamTree) → ParamFits param → ParamFits (param_with g n param)
param_fits-with g w n param fit =
    record { mods_fit = fit.mods_fit; used_type_fits = type_fits-with g w _ param.used_type fit.used_type_fits; id_is = fit.id_is; dims_fit = fit.dims_fit }

params_fits-with : (g : Rewriting) → WritesNames g → (n : ℕ) (params : ParamsTree) → ParamsFit params → ParamsFit (params_with g n params)
params_fits-with g w n params fit = (
  fit.0,
  optional_fits-with (ManyFit ParamFits COMMA) (many_with param_yield (param_with g))
      (many_fits-with ParamFits COMMA param_yield (param_with g) (param_fits-with g w)) (suc n) params.list fit.1,
)

ctor_call_fits-with : (g : Rewriting) → WritesNames g → (n : ℕ) (call : CtorCallTree) → CtorCallFits call → CtorCallFits (ctor_call_with g n call)
ctor_call_fits-with g w n call fit = (fit.0, args_fits-with g w (suc n) call.args fit.1, fit.2)

ret_fits-with : (g : Rewriting) → WritesNames g → (n : ℕ) (ret : RetTree) → RetFits ret → RetFits (ret_with g n ret)
ret_fits-with g w n (Void word) fit = fit
ret_fits-with g w n (Typed used_type) fit = type_fits-with g w n used_type fit

body_fits-with : (g : Rewriting) → WritesNames g → (n : ℕ) (body : BodyTree) → BodyFits body → BodyFits (body_with g n body)
body_fits-with g w n (Block block) fit = block_fits-with g w n block fit
body_fits-with g w n (BodyTree.Semi semi) fit = fit

callable-with : (g : Rewriting) → WritesNames g → (n : ℕ) (id other : Tok) (params : ParamsTree) (n2 : ℕ) (throws : Option (Tok × ManyTree NameTree)) → IsCallable id params throws
    → other.kind ≡ id.kind → IsCallable other (params_with g n params) (names_with g n2 throws)
callable-with g w n id other params n2 throws fit same = record {
  id_is = same ∙ fit.id_is;
  params_fit = params_fits-with g w n params fit.params_fit;
  throws_fit = names_fits-with g w _ n2 throws fit.throws_fit;
}

-- members
member_fits-with : (g : Rewriting) → WritesNames g → (n : ℕ) (member : MemberTree) → MemberFits member → MemberFits (member_with g n member)
member_fits-with g w n (MemberTree.Semi semi) fit = fit
member_fits-with g w n (Init word body) fit = (fit.0, block_fits-with g w _ body fit.1)
member_fits-with g w n (Ctor mods id params throws left call body right) fit = (
  fit.0,
  record {
    callable = callable-with g w _ id _ params _ throws fit.1.callable refl;
    braces = fit.1.braces;
    call_fits = optional_fits-with CtorCallFits (ctor_call_with g) (ctor_call_fits-with g w) _ call fit.1.call_fits;
  },
  stmts_fits-with g w _ body fit.2,
)
member_fits-with g w n (Method mods ret id params throws body) fit =
    (fit.0, ret_fits-with g w _ ret fit.1, callable-with g w _ id _ params _ throws fit.2 refl, body_fits-with g w _ body fit.3)
member_fits-with g w n (Field mods used_type vars semi) fit = (fit.0, type_fits-with g w _ used_type fit.1, vars_fits-with g w _ vars fit.2, fit.3)

is_semi-with : (g : Rewriting) (n : ℕ) (body : BodyTree) → is_semi (body_with g n body) ≡ is_semi body
is_semi-with g n (Block block) = refl
is_semi-with g n (BodyTree.Semi semi) = refl

class_takes-with : (g : Rewriting) (n : ℕ) (member : MemberTree) → ClassTakes member → ClassTakes (member_with g n member)
class_takes-with g n (MemberTree.Semi semi) takes = takes
class_takes-with g n (Init word body) takes = takes
class_takes-with g n (Ctor mods id params throws left call body right) takes = takes
class_takes-with g n (Method mods ret id params throws body) takes = is_semi-with g _ body ∙ takes
class_takes-with g n (Field mods used_type vars semi) takes = takes

begins-with : (g : Rewriting) (n : ℕ) (init : Option (Tok × InitTree)) → IsSome init → IsSome (option_with (behind_with (init_with g)) n init)
begins-with g n None begins = begins
begins-with g n (Some init) begins = begins

more_begin-with : (g : Rewriting) (n : ℕ) (rest : List (Tok × VarTree)) → EachFits (λ item. IsSome item.1.init) rest
    → EachFits (λ item. IsSome item.1.init) (rest_with var_yield (var_with g) n rest)
more_begin-with g n [] begin = tt
more_begin-with g n (item ∷ rest) begin = (begins-with g _ item.1.init begin.0, more_begin-with g (behind (suc n) (var_yield item.1)) rest begin.1)

interface_takes-with : (g : Rewriting) (n : ℕ) (member : MemberTree) → InterfaceTakes member → InterfaceTakes (member_with g n member)
interface_takes-with g n (MemberTree.Semi semi) takes = takes
interface_takes-with g n (Init word body) takes = takes
interface_takes-with g n (Ctor mods id params throws left call body right) takes = takes
interface_takes-with g n (Method mods ret id params throws (Block block)) takes = record { no_body = takes.no_body; not_static = takes.not_static; visible = takes.visible }
interface_takes-with g n (Method mods ret id params throws (BodyTree.Semi semi)) takes = record { no_body = takes.no_body; not_static = takes.not_static; visible = takes.visible }
interface_takes-with g n (Field mods used_type vars semi) takes = record {
  each_begins = (begins-with g _ vars.first.init takes.each_begins.0, more_begin-with g _ vars.rest takes.each_begins.1);
  visible = takes.visible;
}

-- types
one_name-with : (g : Rewriting) (n : ℕ) (names : Option (Tok × ManyTree NameTree)) → IfSome names IsOneName → IfSome (names_with g n names) IsOneName
one_name-with g n None one = tt
one_name-with g n (Some names) one = ap (λ rest. rest_with name_yield g.written (behind (suc n) (name_yield names.1.first)) rest) one

none-with : (g : Rewriting) (n : ℕ) (names : Option (Tok × ManyTree NameTree)) → IsNone names → IsNone (names_with g n names)
none-with g n None none = none
none-with g n (Some names) none = none

decl_fits-with : (g : Rewriting) → WritesNames g → (n : ℕ) (decl : TypeDeclTree) → DeclFits decl → DeclFits (decl_with g n decl)
decl_fits-with g w n decl fit = record {
  mods_fit = fit.mods_fit;
  visible = fit.visible;
  kind = elim fit.kind [ inl is ↦ inl (as_class is) | inr is ↦ inr (as_interface is) ];
  id_is = fit.id_is;
  extends_fits = names_fits-with g w _ _ decl.extends fit.extends_fits;
  implements_fits = names_fits-with g w _ _ decl.implements fit.implements_fits;
  braces = fit.braces;
  members_fit = each_fits-with MemberFits member_yield (member_with g) (member_fits-with g w) _ decl.members fit.members_fit;
}
  where
    as_class : IsClass decl → IsClass (decl_with g n decl)
    as_class is = record {
      word_is = is.word_is;
      extends_one = one_name-with g _ decl.extends is.extends_one;
      takes_each = each_fits-with ClassTakes member_yield (member_with g) (class_takes-with g) _ decl.members is.takes_each;
    }

    as_interface : IsInterface decl → IsInterface (decl_with g n decl)
    as_interface is = record {
      word_is = is.word_is;
      implements_none = none-with g _ decl.implements is.implements_none;
      takes_each = each_fits-with InterfaceTakes member_yield (member_with g) (interface_takes-with g) _ decl.members is.takes_each;
    }

-- files
import_name_fits-with : (g : Rewriting) → WritesNames g → (n : ℕ) (name : NameTree) (star : Option (Tok × Tok)) → NameFits name → NameFits (import_name_with g n name star)
import_name_fits-with g w n name None fit = w.names n name fit
import_name_fits-with g w n name (Some star) fit = fit

names_package-with : (g : Rewriting) → WritesNames g → (n : ℕ) (name : NameTree) (star : Option (Tok × Tok)) → NamesPackage name star → NamesPackage (import_name_with g n name star) star
names_package-with g w n name None names = w.packages n name names
names_package-with g w n name (Some star) names = tt

import_fits-with : (g : Rewriting) → WritesNames g → (n : ℕ) (import : ImportTree) → ImportFits import → ImportFits (import_with g n import)
import_fits-with g w n import fit = record {
  word_is = fit.word_is;
  name_fits = import_name_fits-with g w (suc n) import.name import.star fit.name_fits;
  names_package = names_package-with g w (suc n) import.name import.star fit.names_package;
  star_fits = fit.star_fits;
  semi_is = fit.semi_is;
}

pub unit_fits-with : (g : Rewriting) → WritesNames g → (n : ℕ) (unit : UnitTree) → UnitFits unit → UnitFits (unit_with g n unit)
unit_fits-with g w n unit fit = record {
  package_fits = fit.package_fits;
  imports_fit = each_fits-with ImportFits import_yield (import_with g) (import_fits-with g w) _ unit.imports fit.imports_fit;
  decl_fits = decl_fits-with g w _ unit.decl fit.decl_fits;
  semis_are = fit.semis_are;
}
