-- An expression isn't taken for the head of a declaration or for a label, unless it is a name alone.
use Rattle.std.proofs.Common.{◌≡◌, ◌≤◌, ◌||◌, List, ◌++◌, Bool, false, refl}
use Rattle.rf_jtree.specs.declared.tokens.Tok.{Tok}
use Rattle.rf_jtree.specs.declared.levels.TheConstants.{OR_OR_LEVEL}
use Rattle.rf_jtree.specs.declared.operator_names.TheConstants.{COLON, ASSIGNMENTS, SUFFIXES}
use Rattle.rf_jtree.specs.ExprFits.{ExprFits, IsNoName}
use Rattle.rf_jtree.specs.ExprTrees.{ExprTree, expr_yield}
use Rattle.rf_jtree.specs.Levels.{binary_level}
use Rattle.rf_jexpr.specs.Reads.{is_op, is_ident}
use Rattle.rf_jexpr.proofs.NoTypeLemmas.{NoTypeBefore, PassedByNone, no_type_before}
use Rattle.rf_jexpr.proofs.StopLemmas.{an_op, binary_is_op, no_op, apart_tok, of_kind, false_or}

-- An identifier or a `:` behind a type makes a declaration or a label of it.
unfoldable pub ends_type : Tok → Bool
ends_type tok = is_ident tok || is_op COLON tok

binary_no_ident : (tok : Tok) → OR_OR_LEVEL ≤ binary_level tok → is_ident tok ≡ false
unfolding is_ident
binary_no_ident tok h = elim (binary_is_op tok h) [ an_op op e ↦ rw e refl ]

ends_passed : PassedByNone ends_type
unfolding ends_type is_ident is_op of_kind
ends_passed = record {
  binary = λ tok h. false_or _ _ (binary_no_ident tok h) (no_op COLON refl tok h);
  assignment = λ tok h. apart_tok (λ k. ends_type (of_kind k)) ASSIGNMENTS refl tok h;
  suffix = λ tok h. apart_tok (λ k. ends_type (of_kind k)) SUFFIXES refl tok h;
  instance = λ tok h. rw h refl;
  question = λ tok h. rw h refl;
  left_paren = λ tok h. rw h refl;
  left_bracket = λ tok h. rw h refl;
}

-- none stands there
abbrev pub NoDeclaration : List Tok → Type 0
NoDeclaration toks = NoTypeBefore ends_type toks

pub no_declaration : (expr : ExprTree) (rest : List Tok) → ExprFits expr → IsNoName expr → NoDeclaration (expr_yield expr ++ rest)
no_declaration expr rest fit not_name = no_type_before ends_type ends_passed expr rest fit not_name
