-- Names and uses of types are read where they stand.
use Rattle.std.proofs.Common.{◌≡◌, ℕ, ◌-◌, ◌≤◌, List, [], ◌∷◌, ◌++◌, Option, Some, None, false, length, refl, ◌∙◌, arith, append_assoc, length-append}
use Rattle.std.specs.List.{flat_map}
use Rattle.rf_jtree.specs.declared.names.Dims.{Dims}
use Rattle.rf_jtree.specs.declared.tokens.Tok.{Tok}
use Rattle.rf_jtree.specs.declared.operator_names.TheConstants.{DOT, LEFT_BRACKET, RIGHT_BRACKET}
use Rattle.rf_jtree.specs.declared.keyword_names.TheConstants.{PRIMITIVES}
use Rattle.rf_jtree.specs.Kinds.{IsOp, IsIdent, is_key_of}
use Rattle.rf_jtree.specs.NameFits.{EachFits, NameFits, BracketsFit, DimsFit, BaseFits, TypeFits}
use Rattle.rf_jtree.specs.NameTrees.{TypeBaseTree, Prim, Named, tok_yield, pair_yield, name_yield, dims_yield, base_yield, type_yield}
use Rattle.rf_jexpr.specs.NameReads.{name, brackets, dims, primitive, named_type, type_base, type_use}
use Rattle.rf_jexpr.specs.Reads.{Reads, is_op, is_ident, begins, token, many, behind, separated}
use Rattle.rf_jexpr.proofs.Bounded.{brackets-bounded}
use Rattle.rf_jexpr.proofs.LoopLemmas.{IsExact, answers, repeat-answers, many-exact, many-answers, repeat-front, behind-exact, separated-exact}
use Rattle.rf_jexpr.proofs.Tools.{bind-Some, bind-None, if-true, if-false, token-at, token-other, IsOp-is_op, IsIdent-is_ident}
use Rattle.rf_jexpr.proofs.Within.{Reaches, IsBounded, IsFar, reaches-Some, reaches-bind, within-token, within-repeat, within-many, within-behind}

-- whatever follows
abbrev pub Anything : List Tok → Type 0
Anything rest = Unit {0}

-- ---- any number of parts that are read whatever follows

few_parts : {A : Type 0} (Fits : A → Type 0) (yield : A → List Tok) → ((x : A) → Fits x → 1 ≤ length (yield x)) → (xs : List A) → EachFits Fits xs → length xs ≤ length (flat_map yield xs)
few_parts Fits yield some [] fit = omega arith
few_parts Fits yield some (x ∷ xs) fit =
    let here : 1 ≤ length (yield x) = some x fit.0 in
    let further = few_parts Fits yield some xs fit.1 in
    omega (arith, length-append (yield x) (flat_map yield xs))

-- These are read, and more perhaps.
pub record Front {A : Type 0} (xs : List A) (n : ℕ) (result : Option (List A × List Tok)) : Type 0 where
  pub more : List A × List Tok
  pub reads : result ≡ Some (xs ++ more.0, more.1)
  pub left : length more.1 ≤ n

pub many-front : {A : Type 0} (Fits : A → Type 0) (yield : A → List Tok) (item : Reads A) → IsExact Fits Anything yield item → IsBounded item → ((x : A) → Fits x → 1 ≤ length (yield x))
    → (xs : List A) (rest : List Tok) → EachFits Fits xs → Front xs (length rest) (many item (flat_map yield xs ++ rest))
unfolding many
many-front Fits yield item exact bounded some xs rest fit =
    let few = few_parts Fits yield some xs fit in
    let n : ℕ = length (flat_map yield xs ++ rest) in
    let room : length xs ≤ n = omega (arith, length-append (flat_map yield xs) rest) in
    elim (repeat-answers (n - length xs) item rest) [
      | answers more found ↦ record {
        more = more;
        reads = repeat-front Fits yield item exact n (n - length xs) xs rest more (omega arith) fit found;
        left = (within-repeat item bounded (n - length xs) (length rest) rest (omega arith)).left more found;
      }
    ]

-- ---- names

ident-exact : IsExact IsIdent Anything tok_yield (token is_ident)
ident-exact tok rest fit stops = token-at is_ident tok rest (IsIdent-is_ident tok fit)

pub name-exact : IsExact NameFits (λ rest. begins (is_op DOT) rest ≡ false) name_yield name
unfolding name behind
name-exact found rest fit stops =
    let none : behind (is_op DOT) (token is_ident) rest ≡ None = bind-None _ _ (token-other (is_op DOT) rest stops) in
    bind-Some _ _ _ _ (separated-exact IsIdent Anything tok_yield DOT (token is_ident) ident-exact (λ tok others is. tt) found.ids rest fit (tt, none)) refl

pub name-far : IsFar NameFits name_yield name
unfolding name separated
name-far found rest fit =
    let front = many-front (λ (part : Tok × Tok). IsOp DOT part.0 × IsIdent part.1) (λ part. part.0 ∷ tok_yield part.1) (behind (is_op DOT) (token is_ident))
    (behind-exact IsIdent Anything tok_yield DOT (token is_ident) ident-exact) (within-behind (is_op DOT) (token is_ident) (within-token is_ident)) (λ part is. omega arith) found.ids.rest rest fit.1 in
    reaches-Some (length rest) _ _ (bind-Some _ _ _ _ (bind-Some _ _ _ _ (ident-exact found.ids.first _ fit.0 tt) (bind-Some _ _ _ _ front.reads refl)) refl) front.left

-- ---- brackets

pub brackets-exact : IsExact BracketsFit Anything pair_yield brackets
unfolding brackets
brackets-exact pair rest fit stops =
    bind-Some _ _ _ _ (token-at (is_op LEFT_BRACKET) pair.0 (pair.1 ∷ rest) (IsOp-is_op LEFT_BRACKET pair.0 fit.0))
    (bind-Some _ _ _ _ (token-at (is_op RIGHT_BRACKET) pair.1 rest (IsOp-is_op RIGHT_BRACKET pair.1 fit.1)) refl)

pub no_brackets : (rest : List Tok) → begins (is_op LEFT_BRACKET) rest ≡ false → brackets rest ≡ None
unfolding brackets
no_brackets rest h = bind-None _ _ (token-other (is_op LEFT_BRACKET) rest h)

pub dims-exact : IsExact DimsFit (λ rest. brackets rest ≡ None) dims_yield dims
unfolding dims
dims-exact bracket_pairs rest fit stops =
    bind-Some _ _ _ _ (many-exact BracketsFit Anything pair_yield brackets brackets-exact (λ pair others is. tt) (λ pair is. omega arith) bracket_pairs.list rest fit (tt, stops)) refl

pub dims-far : IsFar DimsFit dims_yield dims
unfolding dims
dims-far bracket_pairs rest fit =
    let front = many-front BracketsFit pair_yield brackets brackets-exact brackets-bounded (λ pair is. omega arith) bracket_pairs.list rest fit in
    reaches-Some (length rest) _ _ (bind-Some _ _ _ _ front.reads refl) front.left

-- ---- types

ident_no_primitive : (tok : Tok) → IsIdent tok → is_key_of PRIMITIVES tok ≡ false
ident_no_primitive tok h = rw h refl

pub type_base-exact : IsExact BaseFits (λ rest. begins (is_op DOT) rest ≡ false) base_yield type_base
unfolding type_base primitive named_type begins
type_base-exact (Prim tok) rest fit stops = if-true _ _ _ fit ∙ bind-Some _ _ _ _ (token-at (is_key_of PRIMITIVES) tok rest fit) refl
type_base-exact (Named found) rest fit stops = if-false _ _ _ (ident_no_primitive found.ids.first fit.0) ∙ bind-Some _ _ _ _ (name-exact found rest fit stops) refl

pub type_base-far : IsFar BaseFits base_yield type_base
unfolding type_base primitive named_type begins
type_base-far (Prim tok) rest fit = reaches-Some (length rest) _ (Prim tok, rest) (if-true _ _ _ fit ∙ bind-Some _ _ _ _ (token-at (is_key_of PRIMITIVES) tok rest fit) refl) (omega arith)
type_base-far (Named found) rest fit =
    let reached = name-far found rest fit in
    reaches-Some (length rest) _ (Named reached.to.0, reached.to.1) (if-false _ _ _ (ident_no_primitive found.ids.first fit.0) ∙ bind-Some _ _ _ _ reached.reads refl) reached.left

-- no `.` stands where brackets do
pub dims_no_dot : (pairs : List (Tok × Tok)) (rest : List Tok) → EachFits BracketsFit pairs → begins (is_op DOT) rest ≡ false → begins (is_op DOT) (flat_map pair_yield pairs ++ rest) ≡ false
unfolding begins is_op
dims_no_dot [] rest fit stops = stops
dims_no_dot (pair ∷ pairs) rest fit stops = rw fit.0.0 refl

pub type_use-exact : IsExact TypeFits (λ rest. (begins (is_op DOT) rest ≡ false) × (brackets rest ≡ None)) type_yield type_use
unfolding type_use
type_use-exact used_type rest fit stops = rw append_assoc
    (bind-Some _ _ _ _ (type_base-exact used_type.base (dims_yield used_type.dims ++ rest) fit.0 (dims_no_dot used_type.dims.list rest fit.1 stops.0))
    (bind-Some _ _ _ _ (dims-exact used_type.dims rest fit.1 stops.1) refl))

pub reaches-dims : (n : ℕ) (toks : List Tok) → length toks ≤ n → Reaches n (dims toks)
unfolding dims
reaches-dims n toks h = elim (many-answers brackets toks) [
  | answers more found ↦ reaches-Some n _ (record { list = more.0 }, more.1) (bind-Some _ _ _ _ found refl) ((within-many brackets brackets-bounded n toks h).left more found)
]

bracket_no_dot : (pair : Tok × Tok) (rest : List Tok) → BracketsFit pair → begins (is_op DOT) (pair.0 ∷ rest) ≡ false
unfolding begins is_op
bracket_no_dot pair rest fit = rw fit.0 refl

far_by_dims : (base : TypeBaseTree) (pairs : List (Tok × Tok)) (rest : List Tok) → BaseFits base → EachFits BracketsFit pairs → Reaches (length rest) (type_use (base_yield base ++ (flat_map pair_yield pairs ++ rest)))
unfolding type_use
far_by_dims base [] rest fit each =
    reaches-bind (length rest) _ _ (type_base-far base rest fit) (λ found k. reaches-bind (length rest) _ _ (reaches-dims (length rest) found.1 k) (λ bracket_pairs l. reaches-Some (length rest) _ _ refl l))
far_by_dims base (pair ∷ pairs) rest fit each =
    let bracket_pairs : Dims = record { list = pair ∷ pairs } in
    let reached = dims-far bracket_pairs rest each in
    reaches-Some (length rest) _ (record { base = base; dims = reached.to.0 }, reached.to.1)
    (bind-Some _ _ _ _ (type_base-exact base (dims_yield bracket_pairs ++ rest) fit (bracket_no_dot pair _ each.0)) (bind-Some _ _ _ _ reached.reads refl)) reached.left

pub type_use-far : IsFar TypeFits type_yield type_use
type_use-far used_type rest fit = rw append_assoc (far_by_dims used_type.base used_type.dims.list rest fit.0 fit.1)
