-- The name of a called method, with what it is called on before it.
use Rattle.std.proofs.Common.{◌≡◌, List, [], ◌∷◌, ◌++◌, refl, ap, ◌∙◌, sym, append_assoc}
use Rattle.std.specs.List.{flat_map}
use Rattle.rf_jtree.specs.declared.tokens.Tok.{Tok}
use Rattle.rf_jtree.specs.declared.operator_names.TheConstants.{DOT}
use Rattle.rf_jtree.specs.ExprTrees.{On, Name}
use Rattle.rf_jtree.specs.Kinds.{IsOp, IsIdent}
use Rattle.rf_jtree.specs.NameFits.{EachFits, NameFits}
use Rattle.rf_jtree.specs.NameTrees.{NameTree, name_yield}
use Rattle.rf_jmake.specs.Called.{front, last, called_on, called_id}

-- a name, and one of the identifier alone
unfoldable pub with_member : NameTree → Tok → Tok → NameTree
with_member name dot id = record { ids = record { first = name.ids.first; rest = name.ids.rest ++ ((dot, id) ∷ []) } }

unfoldable pub alone : Tok → NameTree
alone id = record { ids = record { first = id; rest = [] } }

members_yield : List (Tok × Tok) → List Tok
members_yield parts = flat_map (λ (part : Tok × Tok). part.0 ∷ part.1 ∷ []) parts

members-yield : (parts : List (Tok × Tok)) (dot id : Tok) → members_yield (parts ++ ((dot, id) ∷ [])) ≡ members_yield parts ++ (dot ∷ id ∷ [])
unfolding members_yield
members-yield [] dot id = refl
members-yield (part ∷ parts) dot id = ap (λ others. part.0 ∷ part.1 ∷ others) (members-yield parts dot id)

pub member-yield : (name : NameTree) (dot id : Tok) → name_yield (with_member name dot id) ≡ name_yield name ++ (dot ∷ id ∷ [])
unfolding with_member members_yield
member-yield name dot id = ap (λ others. name.ids.first ∷ others) (members-yield name.ids.rest dot id)

members-fit : (parts : List (Tok × Tok)) (dot id : Tok) → EachFits (λ (part : Tok × Tok). IsOp DOT part.0 × IsIdent part.1) parts → IsOp DOT dot → IsIdent id → EachFits (λ (part : Tok × Tok). IsOp DOT part.0 × IsIdent part.1) (parts ++ ((dot, id) ∷ []))
members-fit [] dot id each dot_is id_is = ((dot_is, id_is), tt)
members-fit (part ∷ parts) dot id each dot_is id_is = (each.0, members-fit parts dot id each.1 dot_is id_is)

pub member-fits : (name : NameTree) (dot id : Tok) → NameFits name → IsOp DOT dot → IsIdent id → NameFits (with_member name dot id)
unfolding with_member
member-fits name dot id fit dot_is id_is = (fit.0, members-fit name.ids.rest dot id fit.1 dot_is id_is)

last-added : {A : Type 0} (item : A) (items : List A) (added : A) → last item (items ++ (added ∷ [])) ≡ added
unfolding last
last-added item [] added = refl
last-added item (next ∷ items) added = last-added next items added

front-added : {A : Type 0} (item : A) (items : List A) (added : A) → front item (items ++ (added ∷ [])) ≡ item ∷ items
unfolding front
front-added item [] added = refl
front-added item (next ∷ items) added = ap (λ others. item ∷ others) (front-added next items added)

on-added : (first : Tok) (parts : List (Tok × Tok)) (dot id : Tok) → called_on first (parts ++ ((dot, id) ∷ [])) ≡ On (Name (record { ids = record { first = first; rest = parts } })) dot
unfolding called_on front last
on-added first [] dot id = refl
on-added first (part ∷ parts) dot id = rw (front-added part parts (dot, id), last-added part parts (dot, id)) refl

id-added : (first : Tok) (parts : List (Tok × Tok)) (dot id : Tok) → called_id first (parts ++ ((dot, id) ∷ [])) ≡ id
unfolding called_id last
id-added first [] dot id = refl
id-added first (part ∷ parts) dot id = ap (λ (added : Tok × Tok). added.1) (last-added part parts (dot, id))

pub called_on-member : (name : NameTree) (dot id : Tok) → called_on (with_member name dot id).ids.first (with_member name dot id).ids.rest ≡ On (Name name) dot
unfolding with_member
called_on-member name dot id = on-added name.ids.first name.ids.rest dot id

pub called_id-member : (name : NameTree) (dot id : Tok) → called_id (with_member name dot id).ids.first (with_member name dot id).ids.rest ≡ id
unfolding with_member
called_id-member name dot id = id-added name.ids.first name.ids.rest dot id

pub alone-fits : (id : Tok) → IsIdent id → NameFits (alone id)
unfolding alone
alone-fits id is = (is, tt)

-- the tokens of a call of a named method
pub member-tokens : (name : NameTree) (dot id : Tok) (more rest : List Tok) → ((name_yield name ++ (dot ∷ [])) ++ (id ∷ more)) ++ rest ≡ name_yield (with_member name dot id) ++ (more ++ rest)
member-tokens name dot id more rest =
    append_assoc (name_yield name ++ (dot ∷ [])) (id ∷ more) rest ∙ append_assoc (name_yield name) (dot ∷ []) (id ∷ (more ++ rest)) ∙
    sym (append_assoc (name_yield name) (dot ∷ id ∷ []) (more ++ rest)) ∙ ap (λ front. front ++ (more ++ rest)) (sym (member-yield name dot id))

-- those of a call of a method of another expression
pub dotted-tokens : (operand : List Tok) (dot id : Tok) (more rest : List Tok) → ((operand ++ (dot ∷ [])) ++ (id ∷ more)) ++ rest ≡ operand ++ (dot ∷ id ∷ (more ++ rest))
dotted-tokens operand dot id more rest = append_assoc (operand ++ (dot ∷ [])) (id ∷ more) rest ∙ append_assoc operand (dot ∷ []) (id ∷ (more ++ rest))

-- those of an item
pub item-tokens : (operand : List Tok) (left : Tok) (index : List Tok) (right : Tok) (rest : List Tok) → (operand ++ left ∷ (index ++ right ∷ [])) ++ rest ≡ operand ++ left ∷ (index ++ right ∷ rest)
item-tokens operand left index right rest = append_assoc operand (left ∷ (index ++ right ∷ [])) rest ∙ ap (λ others. operand ++ left ∷ others) (append_assoc index (right ∷ []) rest)
