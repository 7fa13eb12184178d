-- What the nodes behind a place tell of all of them.
use Rattle.std.proofs.Common.{◌≡◌, ◌⊎◌, ℕ, zero, suc, ◌+◌, ◌<◌, ◌≤◌, List, [], ◌∷◌, ◌++◌, length, map, get_or, drop, refl, sym, ap, ◌∙◌, subst, inl, inr, arith, zero-add}
use Rattle.rf_form.specs.Families.{Family}
use Rattle.rf_cons.specs.Systems.{System}
use Rattle.rf_refute.specs.Trees.{Node}
use Rattle.rf_refute.specs.Good.{Fits, below, Refute, FirstBad}
use Rattle.rf_refute.specs.Shown.{shown}
use Rattle.rf_refute.specs.declared.nodes.Node.{Node as Coded}
use Rattle.std.proofs.lemmas.List.{drop-map, drop_more, drop_all}

-- where the nodes from k on refute the families, the whole is refuted, and where one of them is the first bad one, it is
pub record Leads (s : System) (whole : Family) (nodes : List Node) (k : ℕ) (todo : List Family) : Type 0 where
  pub good : Refute s todo (drop k nodes) → Refute s (whole ∷ []) nodes
  pub bad : (j : ℕ) → FirstBad s todo (drop k nodes) j → FirstBad s (whole ∷ []) nodes (k + j)

pub leads_start : (s : System) (whole : Family) (nodes : List Node) → Leads s whole nodes 0 (whole ∷ [])
leads_start s whole nodes = record {
  good = λ h. h;
  bad = λ j h. subst (λ (k : ℕ). FirstBad s (whole ∷ []) nodes k) (sym (zero-add j)) h;
}

module _ (s : System) (whole : Family) (nodes : List Node) (k : ℕ) where
  bad_at : (todo : List Family) (j m : ℕ) → Leads s whole nodes k todo → FirstBad s todo (drop k nodes) j → k + j ≡ m → FirstBad s (whole ∷ []) nodes m
  bad_at todo j m leads h e = subst (λ (i : ℕ). FirstBad s (whole ∷ []) nodes i) e (leads.bad j h)

  module _ (n : Node) (more : drop k nodes ≡ n ∷ drop (k + 1) nodes) where
    pub leads_step : (δ : Family) (rest : List Family) → Fits s δ n → Leads s whole nodes k (δ ∷ rest) → Leads s whole nodes (k + 1) (below δ n ++ rest)
    leads_step δ rest fits leads = record {
      good = λ h. leads.good (subst (λ (l : List Node). Refute s (δ ∷ rest) l) (sym more) (fits, h));
      bad = λ j h. bad_at (δ ∷ rest) (suc j) (k + 1 + j) leads
          (subst (λ (l : List Node). FirstBad s (δ ∷ rest) l (suc j)) (sym more) (inr (fits, (j, (h, refl))))) (omega arith);
    }

    pub leads_bad : (δ : Family) (rest : List Family) → (Fits s δ n → ⊥) → Leads s whole nodes k (δ ∷ rest) → FirstBad s (whole ∷ []) nodes (k + 1)
    leads_bad δ rest never leads = bad_at (δ ∷ rest) 1 (k + 1) leads
        (subst (λ (l : List Node). FirstBad s (δ ∷ rest) l 1) (sym more) (inl (never, refl))) refl

    pub leads_over : (todo : List Family) → todo ≡ [] → Leads s whole nodes k todo → FirstBad s (whole ∷ []) nodes (k + 1)
    leads_over todo none leads = bad_at todo 1 (k + 1) leads
        (subst (λ (l : List Node). FirstBad s todo l 1) (sym more) (subst (λ (l : List Family). FirstBad s l (n ∷ drop (k + 1) nodes) 1) (sym none) refl)) refl

  module _ (end : drop k nodes ≡ []) where
    pub leads_missing : (δ : Family) (rest : List Family) → Leads s whole nodes k (δ ∷ rest) → FirstBad s (whole ∷ []) nodes (k + 1)
    leads_missing δ rest leads = bad_at (δ ∷ rest) 1 (k + 1) leads (subst (λ (l : List Node). FirstBad s (δ ∷ rest) l 1) (sym end) refl) refl

    pub leads_done : (todo : List Family) → todo ≡ [] → Leads s whole nodes k todo → Refute s (whole ∷ []) nodes
    leads_done todo none leads = leads.good (subst (λ (l : List Node). Refute s todo l) (sym end)
        (subst (λ (l : List Family). Refute s l []) (sym none) tt))

-- the node at a place of the code's list
pub node_at : (nodes : List Coded) (k : ℕ) (d : Coded) → k < length nodes → drop k (map shown nodes) ≡ shown (get_or nodes k d) ∷ drop (k + 1) (map shown nodes)
node_at nodes k d lt = drop-map shown k nodes ∙ (ap (map shown) (drop_more nodes k d lt)
    ∙ ap (λ (l : List Node). shown (get_or nodes k d) ∷ l) (sym (drop-map shown (k + 1) nodes)))

pub node_read : (nodes : List Coded) (k : ℕ) (n : Coded) → k < length nodes → n ≡ get_or nodes k n → drop k (map shown nodes) ≡ shown n ∷ drop (k + 1) (map shown nodes)
node_read nodes k n lt e = node_at nodes k n lt ∙ ap (λ (m : Coded). shown m ∷ drop (k + 1) (map shown nodes)) (sym e)

pub nodes_past : (nodes : List Coded) (k : ℕ) → length nodes ≤ k → drop k (map shown nodes) ≡ []
nodes_past nodes k end = drop-map shown k nodes ∙ ap (map shown) (drop_all k nodes end)

pub first_bad_at : (s : System) (whole : Family) (nodes : List Node) (k m : ℕ) → k ≡ m → FirstBad s (whole ∷ []) nodes k → FirstBad s (whole ∷ []) nodes m
first_bad_at s whole nodes k m e h = subst (λ (i : ℕ). FirstBad s (whole ∷ []) nodes i) e h
