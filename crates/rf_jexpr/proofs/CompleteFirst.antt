-- The first parts of primary expressions are read where they stand.
use Rattle.std.proofs.Common.{◌≡◌, ◌≢◌, ℕ, ◌≤◌, List, [], ◌∷◌, ◌++◌, Option, Some, None, Bool, true, false, IsTrue, if◌then◌else◌, length, refl, ap, ap₂, ◌∙◌, sym, arith, append_assoc, le_refl}
use Rattle.std.specs.List.{flat_map}
use Rattle.std.proofs.lemmas.Bool.{le-leb}
use Rattle.rf_jtree.specs.declared.names.Dims.{Dims}
use Rattle.rf_jtree.specs.declared.tokens.Tok.{Tok}
use Rattle.rf_jtree.specs.declared.operator_names.TheConstants.{LEFT_PAREN, LEFT_BRACKET, DOT}
use Rattle.rf_jtree.specs.declared.levels.TheConstants.{ASSIGNMENT_LEVEL}
use Rattle.rf_jtree.specs.declared.keyword_names.TheConstants.{NEW, SUPER, THIS}
use Rattle.rf_jtree.specs.ExprFits.{ArgsFit, BracesFit, HasSize, HasBrackets, SizesFit, IsSuper}
use Rattle.rf_jtree.specs.ExprShown.{sizes_tree, super_args_tree}
use Rattle.rf_jtree.specs.ExprTrees.{ExprTree, Lit, This, Paren, Name, Call, Super, New, NewArray, NewInit, NoOn, On, ArgsTree, Args, NoArgs, SuperArgs, SizesTree, NoSizes, Sizes, BracesTree, Braces}
use Rattle.rf_jtree.specs.ExprTrees.{expr_yield, args_yield, sizes_yield, braces_yield, on_depth, sizes_depth}
use Rattle.rf_jtree.specs.Kinds.{IsOp, IsKey, IsIdent, AreParens, is_literal}
use Rattle.rf_jtree.specs.NameFits.{EachFits, NameFits, BaseFits, DimsFit, BracketsFit}
use Rattle.rf_jtree.specs.NameTrees.{NameTree, TypeBaseTree, Named, name_yield, base_yield, dims_yield, pair_yield}
use Rattle.rf_jexpr.specs.NameReads.{dims}
use Rattle.rf_jexpr.specs.PartReads.{Parsers, paren, args, sized}
use Rattle.rf_jmake.specs.Called.{called_on, called_id}
use Rattle.rf_jexpr.specs.PrimaryReads.{literal, this_word, super_member, new_class, has_brackets, new_filled, new_array, creation, named_call, named, first_part}
use Rattle.rf_jexpr.specs.Reads.{and_then, when, ◌>>=◌, is_op, is_key, is_ident, begins, optional, many}
use Rattle.rf_jexpr.proofs.Bounded.{args-bounded, sized-bounded}
use Rattle.rf_jexpr.proofs.CallNames.{with_member, alone, alone-fits, member-fits, called_on-member, called_id-member}
use Rattle.rf_jexpr.proofs.CompleteNames.{Anything, many-front, name-exact, name-far, no_brackets, dims-exact, dims-far, reaches-dims, type_base-exact}
use Rattle.rf_jexpr.proofs.CompleteParts.{AreComplete, paren-exact, args-exact, sized-exact, braces-exact, no_size, no_size-brackets, sizes_list, sizes-same, sizes_yield-list, sizes-good, reads-same}
use Rattle.rf_jexpr.proofs.LoopLemmas.{many-exact, many-none}
use Rattle.rf_jexpr.proofs.SoundParts.{Good, GoodArgs, GoodBraces, GoodSize, size_yield}
use Rattle.rf_jexpr.proofs.Tools.{bind-Some, bind-None, else-Some, else-None, when-true, if-true, if-false, token-at, token-other, optional-Some, optional-None, IsOp-is_op, IsKey-is_key, IsIdent-is_ident}
use Rattle.rf_jexpr.proofs.Within.{Reaches, reaches-Some, reaches-bind, reaches-else, reaches-optional, within-Some, within-bind, within-when}

-- ---- which first part it is

module _ (m : ℕ) (p : Parsers) where
  to_literal : (tok : Tok) (rest : List Tok) → IsTrue (is_literal tok) → first_part m p (tok ∷ rest) ≡ Some (Lit tok, rest)
  unfolding first_part begins literal
  to_literal tok rest h = if-true _ _ _ h ∙ bind-Some _ _ _ _ (token-at is_literal tok rest h) refl

  to_this : (tok : Tok) (rest : List Tok) → IsKey THIS tok → first_part m p (tok ∷ rest) ≡ Some (This tok, rest)
  unfolding first_part begins is_key this_word
  to_this tok rest h = first ∙ bind-Some _ _ _ _ (token-at (is_key THIS) tok rest (IsKey-is_key THIS tok h)) refl
    where
      first : first_part m p (tok ∷ rest) ≡ this_word (tok ∷ rest)
      first = rw h refl

  to_paren : (tok : Tok) (rest : List Tok) → IsOp LEFT_PAREN tok → first_part m p (tok ∷ rest) ≡ paren p (tok ∷ rest)
  unfolding first_part begins is_key is_op
  to_paren tok rest h = rw h refl

  to_super : (tok : Tok) (rest : List Tok) → IsKey SUPER tok → first_part m p (tok ∷ rest) ≡ super_member p (tok ∷ rest)
  unfolding first_part begins is_key is_op
  to_super tok rest h = rw h refl

  pub to_new : (tok : Tok) (rest : List Tok) → IsKey NEW tok → first_part m p (tok ∷ rest) ≡ creation p (tok ∷ rest)
  unfolding first_part begins is_key is_op
  to_new tok rest h = rw h refl

  to_named : (tok : Tok) (rest : List Tok) → IsIdent tok → first_part m p (tok ∷ rest) ≡ named m p (tok ∷ rest)
  unfolding first_part begins is_key is_op
  to_named tok rest h = rw h refl

-- ---- names, and calls of named methods

pub when-None : {A : Type 0} (test : Bool) (result : Option A) → result ≡ None → when test result ≡ None
unfolding when
when-None true result h = h
when-None false result h = refl

module _ (m : ℕ) (p : Parsers) (c : AreComplete m p) where
  pub no_args : (rest : List Tok) → begins (is_op LEFT_PAREN) rest ≡ false → args p rest ≡ None
  unfolding args
  no_args rest h = bind-None _ _ (token-other (is_op LEFT_PAREN) rest h)

  args_no_dot : (list : ArgsTree) (rest : List Tok) → ArgsFit list → begins (is_op DOT) (args_yield list ++ rest) ≡ false
  unfolding begins is_op
  args_no_dot (Args left list right) rest fit = rw fit.0.0 refl

  args_open : (list : ArgsTree) (rest : List Tok) → ArgsFit list → IsTrue (begins (is_op LEFT_PAREN) (args_yield list ++ rest))
  unfolding begins is_op
  args_open (Args left list right) rest fit = rw fit.0.0 refl

  pub named-exact : (found : NameTree) (rest : List Tok) → NameFits found → begins (is_op DOT) rest ≡ false → begins (is_op LEFT_PAREN) rest ≡ false → first_part m p (name_yield found ++ rest) ≡ Some (Name found, rest)
  unfolding named named_call
  named-exact found rest fit no_dot no_paren =
      to_named m p found.ids.first _ fit.0 ∙
      bind-Some _ _ _ _ (name-exact found rest fit no_dot) (else-None _ _ (when-None _ _ (bind-None _ _ (no_args rest no_paren))))

  -- a call whose name this is
  called-exact : (found : NameTree) (list : ArgsTree) (rest : List Tok) → NameFits found → GoodArgs m list → on_depth (called_on found.ids.first found.ids.rest) ≤ m
      → first_part m p (name_yield found ++ (args_yield list ++ rest)) ≡ Some (Call (called_on found.ids.first found.ids.rest) (called_id found.ids.first found.ids.rest) list, rest)
  unfolding named named_call
  called-exact found list rest fit good shallow =
      to_named m p found.ids.first _ fit.0 ∙
      bind-Some _ _ _ _ (name-exact found (args_yield list ++ rest) fit (args_no_dot list rest good.fits))
      (else-Some _ _ _ (when-true _ _ (le-leb _ m shallow) ∙ bind-Some _ _ _ _ (args-exact m p c list rest good tt) refl))

  pub method-exact : (id : Tok) (list : ArgsTree) (rest : List Tok) → IsIdent id → GoodArgs m list → first_part m p (id ∷ (args_yield list ++ rest)) ≡ Some (Call NoOn id list, rest)
  unfolding alone called_on called_id
  method-exact id list rest is good = called-exact (alone id) list rest (alone-fits id is) good (omega arith)

  pub member-exact : (found : NameTree) (dot id : Tok) (list : ArgsTree) (rest : List Tok) → NameFits found → IsOp DOT dot → IsIdent id → GoodArgs m list → 1 ≤ m
      → first_part m p (name_yield (with_member found dot id) ++ (args_yield list ++ rest)) ≡ Some (Call (On (Name found) dot) id list, rest)
  member-exact found dot id list rest fit dot_is id_is good some =
      let on = called_on-member found dot id in
      let depth : on_depth (called_on (with_member found dot id).ids.first (with_member found dot id).ids.rest) ≤ m = rw on some in
      called-exact (with_member found dot id) list rest (member-fits found dot id fit dot_is id_is) good depth ∙
      ap₂ (λ on id. Some (Call on id list, rest)) on (called_id-member found dot id)

  pub named-far : (found : NameTree) (rest : List Tok) → NameFits found → Reaches (length rest) (first_part m p (name_yield found ++ rest))
  unfolding named named_call
  named-far found rest fit =
      let n = length rest in
      let reached : Reaches n (named m p (name_yield found ++ rest)) =
      reaches-bind n _ _ (name-far found rest fit) (λ read k.
      reaches-else n _ _ (within-when n _ _ (within-bind n _ _ (args-bounded p c.bounded n read.1 k) (λ list l. within-Some n _ l))) (reaches-Some n _ _ refl k)) in
      reaches-Some n _ reached.to (to_named m p found.ids.first _ fit.0 ∙ reached.reads) reached.left

  -- ---- `super`

  super-read : (word dot id : Tok) (rest : List Tok) → IsSuper word dot id → (z : Option (ExprTree × List Tok))
      → and_then (optional (args p) rest) (λ list. Some (Super word dot id (super_args_tree list.0), list.1)) ≡ z → first_part m p (word ∷ dot ∷ id ∷ rest) ≡ z
  unfolding super_member
  super-read word dot id rest is z h =
      to_super m p word _ is.word_is ∙
      bind-Some _ _ _ _ (token-at (is_key SUPER) word _ (IsKey-is_key SUPER word is.word_is))
      (bind-Some _ _ _ _ (token-at (is_op DOT) dot _ (IsOp-is_op DOT dot is.dot_is))
      (bind-Some _ _ _ _ (token-at is_ident id rest (IsIdent-is_ident id is.id_is)) h))

  pub super_call-exact : (word dot id : Tok) (list : ArgsTree) (rest : List Tok) → IsSuper word dot id → GoodArgs m list → first_part m p (word ∷ dot ∷ id ∷ (args_yield list ++ rest)) ≡ Some (Super word dot id (SuperArgs list), rest)
  super_call-exact word dot id list rest is good = super-read word dot id _ is _ (bind-Some _ _ _ _ (optional-Some _ _ list rest (args-exact m p c list rest good tt)) refl)

  pub super_field-exact : (word dot id : Tok) (rest : List Tok) → IsSuper word dot id → begins (is_op LEFT_PAREN) rest ≡ false → first_part m p (word ∷ dot ∷ id ∷ rest) ≡ Some (Super word dot id NoArgs, rest)
  super_field-exact word dot id rest is no_paren = super-read word dot id _ is _ (bind-Some _ _ _ _ (optional-None _ rest (no_args rest no_paren)) refl)

  pub super_field-far : (word dot id : Tok) (rest : List Tok) → IsSuper word dot id → Reaches (length rest) (first_part m p (word ∷ dot ∷ id ∷ rest))
  super_field-far word dot id rest is =
      let n = length rest in
      let reached = reaches-bind n _ (λ list. Some (Super word dot id (super_args_tree list.0), list.1)) (reaches-optional (args p) (args-bounded p c.bounded) n rest (le_refl n)) (λ list k. reaches-Some n _ _ refl k) in
      reaches-Some n _ reached.to (super-read word dot id rest is _ reached.reads) reached.left

  -- ---- `new`

  -- behind its type
  new-read : (word : Tok) (base : TypeBaseTree) (rest : List Tok) → IsKey NEW word → BaseFits base → begins (is_op DOT) rest ≡ false → (z : Option (ExprTree × List Tok))
      → (if begins (is_op LEFT_PAREN) rest then new_class p word base rest else (many (sized p) rest >>= λ sizes. new_array p word base sizes.0 sizes.1)) ≡ z → first_part m p (word ∷ (base_yield base ++ rest)) ≡ z
  unfolding creation
  new-read word base rest is fit no_dot z h =
      to_new m p word _ is ∙
      bind-Some _ _ _ _ (token-at (is_key NEW) word _ (IsKey-is_key NEW word is))
      (bind-Some _ _ _ _ (type_base-exact base rest fit no_dot) h)

  pub new-exact : (word : Tok) (class : NameTree) (list : ArgsTree) (rest : List Tok) → IsKey NEW word → NameFits class → GoodArgs m list → first_part m p (word ∷ (name_yield class ++ (args_yield list ++ rest))) ≡ Some (New word class list, rest)
  unfolding new_class
  new-exact word class list rest is fit good =
      new-read word (Named class) (args_yield list ++ rest) is fit (args_no_dot list rest good.fits) _
      (if-true _ _ _ (args_open list rest good.fits) ∙ bind-Some _ _ _ _ (args-exact m p c list rest good tt) refl)

  -- a `[` is neither a `.` nor a `(`
  bracket_no_dot : (left : Tok) (rest : List Tok) → IsOp LEFT_BRACKET left → begins (is_op DOT) (left ∷ rest) ≡ false
  unfolding begins is_op
  bracket_no_dot left rest is = rw is refl

  bracket_no_paren : (left : Tok) (rest : List Tok) → IsOp LEFT_BRACKET left → begins (is_op LEFT_PAREN) (left ∷ rest) ≡ false
  unfolding begins is_op
  bracket_no_paren left rest is = rw is refl

  filled-read : (word : Tok) (base : TypeBaseTree) (pair : Tok × Tok) (pairs : List (Tok × Tok)) (items : BracesTree) (rest : List Tok) → IsKey NEW word → BaseFits base → EachFits BracketsFit (pair ∷ pairs) → GoodBraces m items
      → begins (is_op LEFT_BRACKET) (braces_yield items ++ rest) ≡ false
      → first_part m p (word ∷ (base_yield base ++ (flat_map pair_yield (pair ∷ pairs) ++ (braces_yield items ++ rest)))) ≡ Some (NewInit word base (record { list = pair ∷ pairs }) items, rest)
  unfolding new_array new_filled has_brackets
  filled-read word base pair pairs items rest is fit each good no_bracket =
      new-read word base _ is fit (bracket_no_dot pair.0 _ each.0.0) _
      (if-false _ _ _ (bracket_no_paren pair.0 _ each.0.0) ∙
      bind-Some _ _ _ _ (many-none _ _ (no_size-brackets m p c pair.0 pair.1 _ each.0))
      (bind-Some _ _ _ _ (dims-exact (record { list = pair ∷ pairs }) (braces_yield items ++ rest) each (no_brackets _ no_bracket))
      (bind-Some _ _ _ _ (when-true _ _ refl ∙ braces-exact m p c items rest good tt) refl)))

  braces_no_bracket : (items : BracesTree) (rest : List Tok) → BracesFit items → begins (is_op LEFT_BRACKET) (braces_yield items ++ rest) ≡ false
  unfolding begins is_op
  braces_no_bracket (Braces left items comma right) rest fit = rw fit.0.0 refl

  pub filled-exact : (word : Tok) (base : TypeBaseTree) (bracket_pairs : Dims) (items : BracesTree) (rest : List Tok) → IsKey NEW word → BaseFits base → HasBrackets bracket_pairs → DimsFit bracket_pairs → GoodBraces m items
      → first_part m p (word ∷ (base_yield base ++ (dims_yield bracket_pairs ++ (braces_yield items ++ rest)))) ≡ Some (NewInit word base bracket_pairs items, rest)
  filled-exact word base bracket_pairs items rest is fit some each good = by_pairs bracket_pairs.list some each
    where
      by_pairs : (pairs : List (Tok × Tok)) → pairs ≢ [] → EachFits BracketsFit pairs
          → first_part m p (word ∷ (base_yield base ++ (flat_map pair_yield pairs ++ (braces_yield items ++ rest)))) ≡ Some (NewInit word base (record { list = pairs }) items, rest)
      by_pairs [] some each = absurd (some refl)
      by_pairs (pair ∷ pairs) some each = filled-read word base pair pairs items rest is fit each good (braces_no_bracket items rest good.fits)

  -- sizes, of which there is one at least
  sized-read : (word : Tok) (base : TypeBaseTree) (size : Tok × ExprTree × Tok) (rest : List Tok) → IsKey NEW word → BaseFits base → GoodSize m size → (z : Option (ExprTree × List Tok))
      → (many (sized p) (size_yield size ++ rest) >>= λ sizes. new_array p word base sizes.0 sizes.1) ≡ z → first_part m p (word ∷ (base_yield base ++ (size_yield size ++ rest))) ≡ z
  sized-read word base size rest is fit good z h =
      new-read word base _ is fit (bracket_no_dot size.0 _ good.are_brackets.0) _ (if-false _ _ _ (bracket_no_paren size.0 _ good.are_brackets.0) ∙ h)

  -- no more sizes stand where empty brackets do, or no bracket
  no_more_sizes : (bracket_pairs : List (Tok × Tok)) (rest : List Tok) → EachFits BracketsFit bracket_pairs → begins (is_op LEFT_BRACKET) rest ≡ false → sized p (flat_map pair_yield bracket_pairs ++ rest) ≡ None
  no_more_sizes [] rest each none = no_size m p c rest none
  no_more_sizes (pair ∷ pairs) rest each none = no_size-brackets m p c pair.0 pair.1 _ each.0

  some_tokens : (size : Tok × ExprTree × Tok) → 1 ≤ length (size_yield size)
  some_tokens size = omega arith

  -- the sizes as a list
  array-read : (word : Tok) (base : TypeBaseTree) (size : Tok × ExprTree × Tok) (sizes : List (Tok × ExprTree × Tok)) (bracket_pairs : Dims) (rest : List Tok) → IsKey NEW word → BaseFits base
      → EachFits (GoodSize m) (size ∷ sizes) → DimsFit bracket_pairs → begins (is_op LEFT_BRACKET) rest ≡ false
      → first_part m p (word ∷ (base_yield base ++ (flat_map size_yield (size ∷ sizes) ++ (dims_yield bracket_pairs ++ rest)))) ≡ Some (NewArray word base (sizes_tree (size ∷ sizes)) bracket_pairs, rest)
  unfolding new_array
  array-read word base size sizes bracket_pairs rest is fit each ends_fit none =
      let all = many-exact (GoodSize m) Anything size_yield (sized p) (sized-exact m p c) (λ one others good. tt) (λ one good. some_tokens one) (size ∷ sizes) (dims_yield bracket_pairs ++ rest) each (tt, no_more_sizes bracket_pairs.list rest ends_fit none) in
      reads-same (first_part m p) (ap (λ others. word ∷ (base_yield base ++ others)) (append_assoc (size_yield size) (flat_map size_yield sizes) (dims_yield bracket_pairs ++ rest)))
      (sized-read word base size _ is fit each.0 _
      (reads-same (λ toks. many (sized p) toks >>= λ found. new_array p word base found.0 found.1) (sym (append_assoc (size_yield size) (flat_map size_yield sizes) (dims_yield bracket_pairs ++ rest)))
      (bind-Some _ _ _ _ all (bind-Some _ _ _ _ (dims-exact bracket_pairs rest ends_fit (no_brackets rest none)) refl))))

  pub array-exact : (word : Tok) (base : TypeBaseTree) (sizes : SizesTree) (bracket_pairs : Dims) (rest : List Tok) → IsKey NEW word → BaseFits base → HasSize sizes → SizesFit sizes → sizes_depth sizes ≤ m
      → DimsFit bracket_pairs → begins (is_op LEFT_BRACKET) rest ≡ false → first_part m p (word ∷ (base_yield base ++ (sizes_yield sizes ++ (dims_yield bracket_pairs ++ rest)))) ≡ Some (NewArray word base sizes bracket_pairs, rest)
  unfolding sizes_list
  array-exact word base NoSizes bracket_pairs rest is fit some sizes_fit shallow ends_fit none = absurd some
  array-exact word base (Sizes left size right more) bracket_pairs rest is fit some sizes_fit shallow ends_fit none =
      let sizes : SizesTree = Sizes left size right more in
      reads-same (first_part m p) (ap (λ front. word ∷ (base_yield base ++ (front ++ (dims_yield bracket_pairs ++ rest)))) (sizes_yield-list sizes))
      (array-read word base (left, size, right) (sizes_list more) bracket_pairs rest is fit (sizes-good m sizes sizes_fit shallow) ends_fit none ∙
      ap (λ found. Some (NewArray word base found bracket_pairs, rest)) (sizes-same sizes))

  -- whatever follows
  array-reach : (word : Tok) (base : TypeBaseTree) (size : Tok × ExprTree × Tok) (sizes : List (Tok × ExprTree × Tok)) (bracket_pairs : List (Tok × Tok)) (rest : List Tok) → EachFits (GoodSize m) (size ∷ sizes) → EachFits BracketsFit bracket_pairs
      → Reaches (length rest) (many (sized p) (flat_map size_yield (size ∷ sizes) ++ (flat_map pair_yield bracket_pairs ++ rest)) >>= λ found. new_array p word base found.0 found.1)
  unfolding new_array
  array-reach word base size sizes [] rest each ends_fit =
      let n = length rest in
      let front = many-front (GoodSize m) size_yield (sized p) (sized-exact m p c) (sized-bounded p c.bounded) (λ one good. some_tokens one) (size ∷ sizes) rest each in
      let behind = reaches-bind n (dims front.more.1) (λ found. Some (NewArray word base (sizes_tree (size ∷ (sizes ++ front.more.0))) found.0, found.1)) (reaches-dims n front.more.1 front.left) (λ found k. reaches-Some n _ _ refl k) in
      reaches-Some n _ behind.to (bind-Some _ _ _ _ front.reads behind.reads) behind.left
  array-reach word base size sizes (pair ∷ pairs) rest each ends_fit =
      let n = length rest in
      let all = many-exact (GoodSize m) Anything size_yield (sized p) (sized-exact m p c) (λ one others good. tt) (λ one good. some_tokens one) (size ∷ sizes) (flat_map pair_yield (pair ∷ pairs) ++ rest) each (tt, no_size-brackets m p c pair.0 pair.1 _ ends_fit.0) in
      let behind = reaches-bind n (dims (flat_map pair_yield (pair ∷ pairs) ++ rest)) (λ found. Some (NewArray word base (sizes_tree (size ∷ sizes)) found.0, found.1)) (dims-far (record { list = pair ∷ pairs }) rest ends_fit) (λ found k. reaches-Some n _ _ refl k) in
      reaches-Some n _ behind.to (bind-Some _ _ _ _ all behind.reads) behind.left

  pub array-far : (word : Tok) (base : TypeBaseTree) (sizes : SizesTree) (bracket_pairs : Dims) (rest : List Tok) → IsKey NEW word → BaseFits base → HasSize sizes → SizesFit sizes → sizes_depth sizes ≤ m
      → DimsFit bracket_pairs → Reaches (length rest) (first_part m p (word ∷ (base_yield base ++ (sizes_yield sizes ++ (dims_yield bracket_pairs ++ rest)))))
  unfolding sizes_list
  array-far word base NoSizes bracket_pairs rest is fit some sizes_fit shallow ends_fit = absurd some
  array-far word base (Sizes left size right more) bracket_pairs rest is fit some sizes_fit shallow ends_fit =
      let sizes : SizesTree = Sizes left size right more in
      let each = sizes-good m sizes sizes_fit shallow in
      let first : Tok × ExprTree × Tok = (left, size, right) in
      let others = flat_map size_yield (sizes_list more) in
      let same = append_assoc (size_yield first) others (dims_yield bracket_pairs ++ rest) in
      let reached = array-reach word base first (sizes_list more) bracket_pairs.list rest each ends_fit in
      reaches-Some (length rest) _ reached.to
      (reads-same (first_part m p) (ap (λ front. word ∷ (base_yield base ++ (front ++ (dims_yield bracket_pairs ++ rest)))) (sizes_yield-list sizes) ∙ ap (λ toks. word ∷ (base_yield base ++ toks)) same)
      (sized-read word base first _ is fit each.0 _ (reads-same (λ toks. many (sized p) toks >>= λ found. new_array p word base found.0 found.1) (sym same) reached.reads))) reached.left

  -- ---- and the small ones

  pub literal-exact : (tok : Tok) (rest : List Tok) → IsTrue (is_literal tok) → first_part m p (tok ∷ rest) ≡ Some (Lit tok, rest)
  literal-exact = to_literal m p

  pub this-exact : (tok : Tok) (rest : List Tok) → IsKey THIS tok → first_part m p (tok ∷ rest) ≡ Some (This tok, rest)
  this-exact = to_this m p

  pub paren_first-exact : (left : Tok) (operand : ExprTree) (right : Tok) (rest : List Tok) → AreParens left right → Good ASSIGNMENT_LEVEL m operand → first_part m p (left ∷ (expr_yield operand ++ right ∷ rest)) ≡ Some (Paren left operand right, rest)
  paren_first-exact left operand right rest parens good = to_paren m p left _ parens.0 ∙ paren-exact m p c left operand right rest parens good
