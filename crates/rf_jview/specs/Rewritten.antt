-- What becomes of the tokens of a tree that is rewritten: each stays as it is, or is an identifier that keeps its place, its
-- kind and its lead, or is one of a type's name, which is written anew as a whole.
use Rattle.std.specs.Prelude.{ℕ, List, [], ◌∷◌, ◌++◌}
use Rattle.rf_jtree.specs.declared.tokens.Tok.{Tok}
use Rattle.rf_jtree.specs.NameTrees.{NameTree, name_yield}
use Rattle.rf_jview.specs.Rewritings.{Rewriting, behind, retext}

-- the old tokens, which have numbers from n on, become these
pub data Rewritten (g : Rewriting) : ℕ → List Tok → List Tok → Type 0 where
  none : (n : ℕ) → Rewritten g n [] []
  kept : (n : ℕ) (tok : Tok) → Rewritten g n (tok ∷ []) (tok ∷ [])
  text : (n : ℕ) (tok : Tok) → Rewritten g n (tok ∷ []) (retext g n tok ∷ [])
  type_name : (n : ℕ) (name : NameTree) → Rewritten g n (name_yield name) (name_yield (g.written n name))
  join : (n : ℕ) (olds news more_olds more_news : List Tok) → Rewritten g n olds news → Rewritten g (behind n olds) more_olds more_news
      → Rewritten g n (olds ++ more_olds) (news ++ more_news)
