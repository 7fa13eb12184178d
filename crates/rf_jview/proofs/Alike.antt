-- Lists of marks that are the same but for those before the last identifier of a type's name.
use Rattle.std.proofs.Common.{◌≡◌, ℕ, suc, ◌+◌, List, [], ◌∷◌, ◌++◌, length, Option, Some, None, refl, sym, ap, ◌∙◌}
use Rattle.std.specs.List.{flat_map}
use Rattle.rf_jtree.specs.declared.tokens.Tok.{Tok}
use Rattle.rf_jtree.specs.NameTrees.{ManyTree, NameTree, TypeBaseTree, Prim, Named, TypeUseTree, tok_yield}
use Rattle.rf_jview.specs.declared.marks.Invocation.{Invocation}
use Rattle.rf_jview.specs.declared.marks.Mark.{Mark}
use Rattle.rf_jview.specs.declared.marks.Mark.TheVariants as m
use Rattle.rf_jview.specs.declared.marks.Opening.{Opening}
use Rattle.rf_jview.specs.MarkWords.{steady, counted, after, opens}
use Rattle.rf_jview.specs.NameMarks.{type_rest_marks, type_name_marks, name_rest_marks, name_marks, base_marks, dims_marks, type_marks, option_marks, behind_marks, many_marks}
use Rattle.rf_jview.specs.Rewritings.{Rewriting, behind, retext, option_with, behind_with, list_with, rest_with, many_with, name_with, base_with, type_with}

pub record Alike (news olds : List Mark) : Type 0 where
  pub equal : steady news ≡ steady olds

pub alike : (marks : List Mark) → Alike marks marks
alike marks = record { equal = refl }

pub steady-append : (marks more : List Mark) → steady (marks ++ more) ≡ steady marks ++ steady more
steady-append [] more = refl
steady-append (m.Front ∷ marks) more = steady-append marks more
steady-append (m.Plain ∷ marks) more = ap (λ rest. m.Plain ∷ rest) (steady-append marks more)
steady-append (m.TypeName ∷ marks) more = ap (λ rest. m.TypeName ∷ rest) (steady-append marks more)
steady-append ((m.Part back) ∷ marks) more = ap (λ rest. (m.Part back) ∷ rest) (steady-append marks more)
steady-append ((m.Name back) ∷ marks) more = ap (λ rest. (m.Name back) ∷ rest) (steady-append marks more)
steady-append (m.FieldAccess ∷ marks) more = ap (λ rest. m.FieldAccess ∷ rest) (steady-append marks more)
steady-append ((m.Invokes invocation back) ∷ marks) more = ap (λ rest. (m.Invokes invocation back) ∷ rest) (steady-append marks more)
steady-append (m.Type ∷ marks) more = ap (λ rest. m.Type ∷ rest) (steady-append marks more)
steady-append (m.Field ∷ marks) more = ap (λ rest. m.Field ∷ rest) (steady-append marks more)
steady-append (m.NextField ∷ marks) more = ap (λ rest. m.NextField ∷ rest) (steady-append marks more)
steady-append (m.Method ∷ marks) more = ap (λ rest. m.Method ∷ rest) (steady-append marks more)
steady-append (m.Ctor ∷ marks) more = ap (λ rest. m.Ctor ∷ rest) (steady-append marks more)
steady-append (m.DefaultCtor ∷ marks) more = ap (λ rest. m.DefaultCtor ∷ rest) (steady-append marks more)
steady-append ((m.Opens opening width) ∷ marks) more = ap (λ rest. (m.Opens opening width) ∷ rest) (steady-append marks more)
steady-append ((m.Local back) ∷ marks) more = ap (λ rest. (m.Local back) ∷ rest) (steady-append marks more)
steady-append ((m.Ahead ahead) ∷ marks) more = ap (λ rest. (m.Ahead ahead) ∷ rest) (steady-append marks more)

pub both : {news olds more_news more_olds : List Mark} → Alike news olds → Alike more_news more_olds → Alike (news ++ more_news) (olds ++ more_olds)
both {news} {olds} {more_news} {more_olds} one two = record {
  equal = steady-append news more_news
      ∙ (ap (λ marks. marks ++ steady more_news) one.equal ∙ (ap (λ marks. steady olds ++ marks) two.equal ∙ sym (steady-append olds more_olds)));
}

pub plain : {news olds : List Mark} → Alike news olds → Alike (m.Plain ∷ news) (m.Plain ∷ olds)
plain same = record { equal = ap (λ marks. m.Plain ∷ marks) same.equal }

-- marks that are told how far off their block begins, behind others
pub thens : {news olds : List Mark} (more_news more_olds : ℕ → List Mark) (back : ℕ) → Alike news olds → ((back : ℕ) → Alike (more_news back) (more_olds back))
    → Alike (news ++ more_news (after back news)) (olds ++ more_olds (after back olds))
thens {news} {olds} more_news more_olds back same rest = record {
  equal = ap (λ width. steady (news ++ more_news (back + width))) (ap length same.equal) ∙ (both same (rest (after back olds))).equal;
}

pub invoked : {news olds : List Mark} (invocation : Invocation) (back : ℕ) → Alike news olds
    → Alike (news ++ m.Invokes invocation (back + 1 + counted news) ∷ []) (olds ++ m.Invokes invocation (back + 1 + counted olds) ∷ [])
invoked {news} {olds} invocation back same =
    thens (λ width. m.Invokes invocation width ∷ []) (λ width. m.Invokes invocation width ∷ []) (back + 1) same (λ width. alike (m.Invokes invocation width ∷ []))

pub opened_alike : {news olds : List Mark} (opening : Opening) → Alike news olds → Alike (opens opening news) (opens opening olds)
opened_alike opening same = record { equal = ap (λ marks. m.Opens opening (length marks) ∷ marks) same.equal }

-- parts that may be left out, parts behind a token, and lists of parts
pub optional_alike : {A : Type 0} (marks : A → List Mark) (change : ℕ → A → A) → ((n : ℕ) (part : A) → Alike (marks (change n part)) (marks part))
    → (n : ℕ) (part : Option A) → Alike (option_marks marks (option_with change n part)) (option_marks marks part)
optional_alike marks change each n None = alike []
optional_alike marks change each n (Some part) = each n part

pub behind_alike : {A : Type 0} (marks : A → List Mark) (change : ℕ → A → A) → ((n : ℕ) (part : A) → Alike (marks (change n part)) (marks part))
    → (n : ℕ) (part : Tok × A) → Alike (behind_marks marks (behind_with change n part)) (behind_marks marks part)
behind_alike marks change each n part = plain (each (suc n) part.1)

pub list_alike : {A : Type 0} (yield : A → List Tok) (marks : A → List Mark) (change : ℕ → A → A) → ((n : ℕ) (part : A) → Alike (marks (change n part)) (marks part))
    → (n : ℕ) (parts : List A) → Alike (flat_map marks (list_with yield change n parts)) (flat_map marks parts)
list_alike yield marks change each n [] = alike []
list_alike yield marks change each n (part ∷ parts) = both (each n part) (list_alike yield marks change each (behind n (yield part)) parts)

pub rest_alike : {A : Type 0} (yield : A → List Tok) (marks : A → List Mark) (change : ℕ → A → A) → ((n : ℕ) (part : A) → Alike (marks (change n part)) (marks part))
    → (n : ℕ) (rest : List (Tok × A)) → Alike (flat_map (behind_marks marks) (rest_with yield change n rest)) (flat_map (behind_marks marks) rest)
rest_alike yield marks change each n [] = alike []
rest_alike yield marks change each n (item ∷ rest) =
    plain (both (each (suc n) item.1) (rest_alike yield marks change each (behind (suc n) (yield item.1)) rest))

pub many_alike : {A : Type 0} (yield : A → List Tok) (marks : A → List Mark) (change : ℕ → A → A) → ((n : ℕ) (part : A) → Alike (marks (change n part)) (marks part))
    → (n : ℕ) (many : ManyTree A) → Alike (many_marks marks (many_with yield change n many)) (many_marks marks many)
many_alike yield marks change each n many = both (each n many.first) (rest_alike yield marks change each (behind n (yield many.first)) many.rest)

-- names and types: a type's name is one mark, whatever its package is
type_rest_steady : (rest : List (Tok × Tok)) → steady (type_rest_marks rest) ≡ m.TypeName ∷ []
type_rest_steady [] = refl
type_rest_steady (item ∷ rest) = type_rest_steady rest

pub type_name_steady : (name : NameTree) → steady (type_name_marks name) ≡ m.TypeName ∷ []
type_name_steady name = type_rest_steady name.ids.rest

pub tname_alike : (g : Rewriting) (n : ℕ) (name : NameTree) → Alike (type_name_marks (g.written n name)) (type_name_marks name)
tname_alike g n name = record { equal = type_name_steady (g.written n name) ∙ sym (type_name_steady name) }

name_rest_marks-with : (g : Rewriting) (n back : ℕ) (rest : List (Tok × Tok)) → name_rest_marks back (rest_with tok_yield (retext g) n rest) ≡ name_rest_marks back rest
name_rest_marks-with g n back [] = refl
name_rest_marks-with g n back (item ∷ rest) = ap (λ marks. m.Part back ∷ m.Plain ∷ marks) (name_rest_marks-with g (suc (suc n)) (back + 2) rest)

pub name_alike : (g : Rewriting) (n : ℕ) (name : NameTree) → Alike (name_marks (name_with g n name)) (name_marks name)
name_alike g n name = record { equal = ap steady (name_rest_marks-with g (suc n) 0 name.ids.rest) }

pub base_alike : (g : Rewriting) (n : ℕ) (base : TypeBaseTree) → Alike (base_marks (base_with g n base)) (base_marks base)
base_alike g n (Prim tok) = alike (m.Plain ∷ [])
base_alike g n (Named name) = tname_alike g n name

pub type_alike : (g : Rewriting) (n : ℕ) (used_type : TypeUseTree) → Alike (type_marks (type_with g n used_type)) (type_marks used_type)
type_alike g n used_type = both (base_alike g n used_type.base) (alike (dims_marks used_type.dims))
