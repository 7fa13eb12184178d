-- As many marks as tokens: how lists of both go together.
use Rattle.std.proofs.Common.{◌≡◌, ℕ, suc, ◌+◌, List, [], ◌∷◌, ◌++◌, length, Option, Some, None, refl, sym, ap, ◌∙◌}
use Rattle.std.proofs.lemmas.List.{length-append, append_assoc}
use Rattle.std.specs.List.{flat_map}
use Rattle.rf_jtree.specs.declared.tokens.Tok.{Tok}
use Rattle.rf_jtree.specs.NameTrees.{ManyTree, NameTree, TypeBaseTree, Prim, Named, TypeUseTree, name_yield, base_yield, type_yield, dims_yield, option_yield, many_yield}
use Rattle.rf_jview.specs.declared.marks.Mark.{Mark}
use Rattle.rf_jview.specs.MarkWords.{plains}
use Rattle.rf_jview.specs.NameMarks.{type_rest_marks, type_name_marks, name_rest_marks, name_marks, base_marks, type_marks, option_marks, behind_marks, many_marks}

pub record AsMany (marks : List Mark) (toks : List Tok) : Type 0 where
  pub equal : length marks ≡ length toks

pub none : AsMany [] []
none = record { equal = refl }

pub one : {mark : Mark} {tok : Tok} {marks : List Mark} {toks : List Tok} → AsMany marks toks → AsMany (mark ∷ marks) (tok ∷ toks)
one same = record { equal = ap suc same.equal }

pub both : {marks more : List Mark} {toks others : List Tok} → AsMany marks toks → AsMany more others → AsMany (marks ++ more) (toks ++ others)
both {marks} {more} {toks} {others} one two =
    record { equal = length-append marks more ∙ (ap (λ n. n + length more) one.equal ∙ (ap (λ n. length toks + n) two.equal ∙ sym (length-append toks others))) }

pub regroup : (some more others : List Mark) {toks : List Tok} → AsMany (some ++ (more ++ others)) toks → AsMany ((some ++ more) ++ others) toks
regroup some more others same = record { equal = ap length (append_assoc some more others) ∙ same.equal }

pub regroup_toks : (some more others : List Tok) {marks : List Mark} → AsMany marks (some ++ (more ++ others)) → AsMany marks ((some ++ more) ++ others)
regroup_toks some more others same = record { equal = same.equal ∙ sym (ap length (append_assoc some more others)) }

pub each : (toks : List Tok) → AsMany (plains toks) toks
each [] = none
each (tok ∷ toks) = one (each toks)

pub optional : {A : Type 0} (marks : A → List Mark) (yield : A → List Tok) → ((part : A) → AsMany (marks part) (yield part)) → (part : Option A)
    → AsMany (option_marks marks part) (option_yield yield part)
optional marks yield same None = none
optional marks yield same (Some part) = same part

pub rests : {A : Type 0} (marks : A → List Mark) (yield : A → List Tok) → ((part : A) → AsMany (marks part) (yield part)) → (rest : List (Tok × A))
    → AsMany (flat_map (behind_marks marks) rest) (flat_map (λ item. item.0 ∷ yield item.1) rest)
rests marks yield same [] = none
rests marks yield same (item ∷ rest) = one (both (same item.1) (rests marks yield same rest))

pub manies : {A : Type 0} (marks : A → List Mark) (yield : A → List Tok) → ((part : A) → AsMany (marks part) (yield part)) → (many : ManyTree A)
    → AsMany (many_marks marks many) (many_yield yield many)
manies marks yield same many = both (same many.first) (rests marks yield same many.rest)

-- names and types
pub name_rest_as_many : (back : ℕ) (tok : Tok) (rest : List (Tok × Tok)) → AsMany (name_rest_marks back rest) (tok ∷ flat_map (λ item. item.0 ∷ item.1 ∷ []) rest)
name_rest_as_many back tok [] = one none
name_rest_as_many back tok (item ∷ rest) = one (one (name_rest_as_many (back + 2) item.1 rest))

pub name_as_many : (name : NameTree) → AsMany (name_marks name) (name_yield name)
name_as_many name = name_rest_as_many 0 name.ids.first name.ids.rest

pub tname_rest_as_many : (tok : Tok) (rest : List (Tok × Tok)) → AsMany (type_rest_marks rest) (tok ∷ flat_map (λ item. item.0 ∷ item.1 ∷ []) rest)
tname_rest_as_many tok [] = one none
tname_rest_as_many tok (item ∷ rest) = one (one (tname_rest_as_many item.1 rest))

pub tname_as_many : (name : NameTree) → AsMany (type_name_marks name) (name_yield name)
tname_as_many name = tname_rest_as_many name.ids.first name.ids.rest

pub base_as_many : (base : TypeBaseTree) → AsMany (base_marks base) (base_yield base)
base_as_many (Prim tok) = one none
base_as_many (Named name) = tname_as_many name

pub type_as_many : (used_type : TypeUseTree) → AsMany (type_marks used_type) (type_yield used_type)
type_as_many used_type = both (base_as_many used_type.base) (each (dims_yield used_type.dims))
