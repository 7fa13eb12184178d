-- What the reader's run tells of readings and of the first token that can't go on.
use Rattle.std.proofs.Common.{◌≡◌, ◌∙◌, ap, sym, refl, subst, ℕ, zero, suc, get_or, map, ◌+◌, ◌<◌, ◌≤◌, List, [], ◌∷◌, ◌++◌, Option, Some, None, length, take, drop, arith, append_assoc, append-nil}
use Rattle.std.proofs.Math.Seq.{take-length}
use Rattle.std.proofs.lemmas.List.{length-map, take-append-drop, take_all}
use Rattle.std.specs.Option.{option_map}
use Rattle.rf_rlex.specs.declared.tokens.Placed.{Placed}
use Rattle.rf_rtree.specs.declared.items.Item.{Item}
use Rattle.rf_rtree.specs.declared.items.RuleProg.{RuleProg}
use Rattle.rf_rtree.specs.Grammar.{items_tree}
use Rattle.rf_rtree.specs.Readings.{Reading, Viable, IsFault}
use Rattle.rf_rtree.specs.Tokens.{Tok}
use Rattle.rf_rparse.specs.declared.programs.Stage.{Stage}
use Rattle.rf_rparse.specs.declared.programs.Stage.TheVariants.{Top}
use Rattle.rf_rparse.specs.Programs.{State}
use Rattle.rf_rparse.specs.Words.{shown}
use Rattle.rf_rparse.proofs.ProgramRuns.{program_step, program_run, start, reading_runs}
use Rattle.rf_rparse.proofs.ProgramStands.{ProgramStands, between, OnProgram, program_steps, program_begins}
use Rattle.rf_rparse.proofs.Runs.{on, run_from}

viable : {stage : Stage} {items : List Item} (pre : List Tok) → ProgramStands stage items pre → Viable pre
viable pre stands =
    let begins = program_begins stands in
    record {
      more = begins.more;
      prog = record { items = items_tree begins.way };
      reading = record { way = begins.way; yields = begins.yields; tree = refl };
    }

after_step : (o : Option State) (toks pre : List Tok) (s : State) → OnProgram o pre → on o (program_run toks) ≡ Some s →
    ((next : State) → ProgramStands next.0 next.1 pre → program_run toks next ≡ Some s → ProgramStands s.0 s.1 (pre ++ toks)) →
    ProgramStands s.0 s.1 (pre ++ toks)
after_step None toks pre s stands e later = let h : None ≡ Some s = e in cc
after_step (Some next) toks pre s stands e later = later next stands e

stands_behind : (toks pre : List Tok) (from s : State) → ProgramStands from.0 from.1 pre → program_run toks from ≡ Some s →
    ProgramStands s.0 s.1 (pre ++ toks)
stands_behind [] pre from s stands e =
    let same : from ≡ s = (let h : Some from ≡ Some s = e in cc) in
    subst (λ (s : State). ProgramStands s.0 s.1 (pre ++ [])) same (subst (ProgramStands from.0 from.1) (sym (append-nil pre)) stands)
stands_behind (tok ∷ toks) pre from s stands e =
    subst (ProgramStands s.0 s.1) (append_assoc pre (tok ∷ []) toks)
    (after_step (program_step tok from) toks (pre ++ tok ∷ []) s (program_steps stands tok) e
    (λ next there run. stands_behind toks (pre ++ tok ∷ []) next s there run))

pub run_stands : (toks : List Tok) (s : State) → program_run toks start ≡ Some s → ProgramStands s.0 s.1 toks
run_stands toks s e = stands_behind toks [] start s (between [] [] refl) e

top_reads : {items : List Item} {toks : List Tok} → ProgramStands Top items toks → Reading toks (record { items = items })
top_reads (between ways toks e) = record { way = ways; yields = sym e; tree = refl }

pub run_reads : (toks : List Tok) (items : List Item) → program_run toks start ≡ Some (Top, items) → Reading toks (record { items = items })
run_reads toks items e = top_reads (run_stands toks (Top, items) e)

refused : (front more : List Tok) (tok : Tok) (s : State) → program_run front start ≡ Some s → program_step tok s ≡ None →
    (prog : RuleProg) → Reading ((front ++ tok ∷ []) ++ more) prog → ⊥
refused front more tok s e none prog reading =
    let found : program_run ((front ++ tok ∷ []) ++ more) start ≡ Some (Top, prog.items) = reading_runs ((front ++ tok ∷ []) ++ more) prog reading in
    let turned : program_run (front ++ (tok ∷ more)) start ≡ Some (Top, prog.items)
    = ap (λ (toks : List Tok). program_run toks start) (sym (append_assoc front (tok ∷ []) more)) ∙ found in
    let stopped : program_run (front ++ (tok ∷ more)) start ≡ None
    = run_from program_step front (tok ∷ more) start s e ∙ ap (λ o. on o (program_run more)) none in
    let never : ◌≡◌ {A = Option State} None (Some (Top, prog.items)) = sym stopped ∙ turned in
    cc

-- the run stops before the token at place k
pub fault_here : (toks : List Tok) (k : ℕ) (tok : Tok) (s : State) → k < length toks → take (k + 1) toks ≡ take k toks ++ tok ∷ [] →
    take (k + 1) toks ++ drop (k + 1) toks ≡ toks →
    program_run (take k toks) start ≡ Some s → program_step tok s ≡ None → IsFault toks k
fault_here toks k tok s below split whole e none = record {
  within = omega arith;
  before = viable (take k toks) (run_stands (take k toks) s e);
  behind = λ short can. refused (take k toks) can.more tok s e none can.prog
      (subst (λ (toks : List Tok). Reading (toks ++ can.more) can.prog) split can.reading);
  unread = λ prog reading. refused (take k toks) (drop (k + 1) toks) tok s e none prog
      (subst (λ (toks : List Tok). Reading toks prog) (sym whole ∙ ap (λ (front : List Tok). front ++ drop (k + 1) toks) split) reading);
}

-- the tokens end too early
pub fault_at_end : (toks : List Tok) (s : State) → program_run toks start ≡ Some s → (s.0 ≡ Top → ⊥) → IsFault toks (length toks)
fault_at_end toks s e open_item = record {
  within = omega arith;
  before = subst Viable (sym (take-length toks)) (viable toks (run_stands toks s e));
  behind = λ short can. absurd (omega arith);
  unread = λ prog reading.
      let found : Some s ≡ Some (Top, prog.items) = sym e ∙ reading_runs toks prog reading in
      let same : s ≡ (Top, prog.items) = cc in
      open_item (ap (λ (s : State). s.0) same);
}

-- the next token of a list of tokens that are shown
next_token : (toks : List Placed) (at : ℕ) (tok : Placed) → at < length toks → tok ≡ get_or toks at tok →
    take (at + 1) (map shown toks) ≡ take at (map shown toks) ++ shown tok ∷ []
next_token [] at tok below is = absurd (omega arith)
next_token (x ∷ xs) zero tok below is = ap (λ (tok : Placed). shown tok ∷ []) (sym is)
next_token (x ∷ xs) (suc at) tok below is =
    let one : suc at + 1 ≡ suc (at + 1) = omega arith in
    let fewer : at < length xs = omega arith in
    ap (λ (n : ℕ). take n (map shown (x ∷ xs))) one
    ∙ ap (λ (toks : List Tok). shown x ∷ toks) (next_token xs at tok fewer is)

all_taken : (k : ℕ) (toks : List Placed) → length toks ≤ k → take k (map shown toks) ≡ map shown toks
all_taken k toks long = take_all k (map shown toks) (omega (arith, length-map toks shown))

-- the run goes on with the next token
pub run_next : (toks : List Placed) (at : ℕ) (tok : Placed) (s next : State) → at < length toks → tok ≡ get_or toks at tok →
    program_run (take at (map shown toks)) start ≡ Some s → program_step (shown tok) s ≡ Some next →
    program_run (take (at + 1) (map shown toks)) start ≡ Some next
run_next toks at tok s next below is before steps =
    ap (λ (toks : List Tok). program_run toks start) (next_token toks at tok below is)
    ∙ run_from program_step (take at (map shown toks)) (shown tok ∷ []) start s before
    ∙ ap (λ o. on o (program_run [])) steps

pub run_stops : (toks : List Placed) (at : ℕ) (tok : Placed) (s : State) → at < length toks → tok ≡ get_or toks at tok →
    program_run (take at (map shown toks)) start ≡ Some s → program_step (shown tok) s ≡ None → IsFault (map shown toks) at
run_stops toks at tok s below is before none =
    let short : at < length (map shown toks) = omega (arith, length-map toks shown) in
    fault_here (map shown toks) at (shown tok) s short (next_token toks at tok below is)
    (take-append-drop (at + 1) (map shown toks)) before none

pub ends_within : (toks : List Placed) (at : ℕ) (s : State) → length toks ≤ at →
    program_run (take at (map shown toks)) start ≡ Some s → (s.0 ≡ Top → ⊥) → IsFault (map shown toks) (length toks)
ends_within toks at s long before within =
    subst (IsFault (map shown toks)) (length-map toks shown)
    (fault_at_end (map shown toks) s (ap (λ (toks : List Tok). program_run toks start) (sym (all_taken at toks long)) ∙ before) within)

pub ends_whole : (toks : List Placed) (at : ℕ) (stage : Stage) (items : List Item) → length toks ≤ at →
    program_run (take at (map shown toks)) start ≡ Some (stage, items) → stage ≡ Top → Reading (map shown toks) (record { items = items })
ends_whole toks at stage items long before whole =
    run_reads (map shown toks) items (ap (λ (toks : List Tok). program_run toks start) (sym (all_taken at toks long)) ∙ before
    ∙ ap (λ (stage : Stage). Some (stage, items)) whole)

-- what a step is told to give
pub told_none : {A B : Type 0} (f : A → B) (o : Option A) (x : Option B) → option_map f o ≡ x → o ≡ None → x ≡ None
told_none f o x e is = sym e ∙ ap (option_map f) is

pub told_some : {A B : Type 0} (f : A → B) (o : Option A) (x : Option B) (a : A) → option_map f o ≡ x → o ≡ Some a → x ≡ Some (f a)
told_some f o x a e is = sym e ∙ ap (option_map f) is
