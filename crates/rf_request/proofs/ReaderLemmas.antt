-- What is answered of a text, from what its lines are read as.
use Rattle.std.proofs.Common.{◌≡◌, ◌≢◌, ◌∙◌, ap, sym, refl, subst, ℕ, Bool, true, false, List, [], ◌∷◌, ◌++◌, map, All, inl, inr, Result, Ok, Err, if◌then◌else◌}
use Rattle.std.specs.Result.{IsErrAnd}
use Rattle.std.specs.Str.{IsUtf8}
use Rattle.std.proofs.lemmas.List.Elements.{All-head, All-tail, All-nil, All-push}
use Rattle.rf_jtree.specs.declared.tokens.TokKind.TheVariants as kind
use Rattle.rf_jtree.specs.Tokens.{IsToken}
use Rattle.rf_request.specs.declared.choices.Choice.{Choice}
use Rattle.rf_request.specs.declared.choices.Choice.TheVariants.{Allow, Spare, Decisions, Keep, Rules}
use Rattle.rf_request.specs.declared.choices.ChoiceLine.{ChoiceLine}
use Rattle.rf_request.specs.declared.options.Options.{Options}
use Rattle.rf_request.specs.declared.request.Request.{Request}
use Rattle.rf_request.specs.declared.target_line.TargetLine.{TargetLine}
use Rattle.rf_request.specs.Choices.{AreChoices, ChoiceFits, choice_line}
use Rattle.rf_request.specs.Forms.{HaveForms, TargetFits}
use Rattle.rf_request.specs.Opened.{options_of, decisions_of, spares_of, spares_by, with_new, is_among}
use Rattle.rf_request.specs.declared.reader.ReqErr.{ReqErr}
use Rattle.rf_request.specs.declared.reader.ReqErr.TheVariants.{Syntax, Memory}
use Rattle.rf_request.specs.Requests.{Line, lines_from, AreRequest, HaveReading, IsFaulty, IsSyntax, IsUnread, IsAnswer, ChoicesAnswer}
use Rattle.rf_request.specs.Targets.{IsTarget, target_words}
use Rattle.rf_request.proofs.OnceLemmas.{LineFits, head_of, tail_of, never}

abbrev Words : Type 0
Words = List (List ℕ)

abbrev IsSpare : List ℕ → Type 0
IsSpare = IsToken kind.Ident

-- spare names are identifiers
new_fit : (before words : Words) → All IsSpare before → All IsSpare words → All IsSpare (with_new before words)
new_fit before [] before_fit fit = before_fit
new_fit before (word ∷ words) before_fit fit = by (is_among word before) (λ next next_fit. new_fit next words next_fit (All-tail IsSpare word words fit))
  where
    by : (b : Bool) → ((next : Words) → All IsSpare next → All IsSpare (with_new next words)) → All IsSpare (with_new (if b then before else before ++ word ∷ []) words)
    by true rest = rest before before_fit
    by false rest = rest (before ++ word ∷ []) (All-push IsSpare before word before_fit (All-head IsSpare word words fit))

spares_fit : (lines : List ChoiceLine) → All LineFits lines → All IsSpare (spares_of lines)
spares_fit [] fit = All-nil IsSpare
spares_fit (line ∷ lines) fit = by line.choice (All-head LineFits line lines fit) (spares_fit lines (All-tail LineFits line lines fit))
  where
    by : (choice : Choice) → ChoiceFits choice → All IsSpare (spares_of lines) → All IsSpare (spares_by choice (spares_of lines))
    by (Allow words) fits rest = rest
    by (Spare words) fits rest = new_fit [] words (All-nil IsSpare) fits.1
    by (Decisions number) fits rest = rest
    by (Keep sort name) fits rest = rest
    by (Rules file) fits rest = rest

pub have_forms : (target : TargetLine) (lines : List ChoiceLine) (options : Options) (number : ℕ) (words : Words) → IsTarget number words target → AreChoices lines → options ≡ options_of lines → HaveForms target options
have_forms target lines options number words is are opens = record {
  target_fits = is.fits;
  spares = subst (λ (o : Options). All IsSpare o.spares) (sym opens) (spares_fit lines are.fit);
}

module _ (read : List Line) (number : ℕ) (words : Words) (more : List Line) (first : read ≡ (number, words) ∷ more) where
  module _ (target : TargetLine) (is : IsTarget number words target) where
    -- a target line, and lines that can stand behind it
    pub whole : (lines : List ChoiceLine) (options : Options) (decisions : ℕ) → AreChoices lines → map choice_line lines ≡ more → options ≡ options_of lines → decisions ≡ decisions_of lines → AreRequest read target options decisions
    whole lines options decisions are same opens counts = record {
      number = number;
      words = words;
      choices = lines;
      written = first ∙ ap (λ (ls : List Line). (number, words) ∷ ls) (sym same);
      is_target = is;
      are_choices = are;
      opens = opens;
      counts = counts;
    }

  -- every reading begins with the first line
  same_words : (target : TargetLine) (options : Options) (decisions : ℕ) (lines : List Line) (r : AreRequest lines target options decisions) (others : List Line) → lines ≡ (number, words) ∷ others → words ≡ r.words
  same_words target options decisions lines r others is = ap (λ (l : Line). l.1) (head_of (number, words) (r.number, r.words) others _ (sym is ∙ r.written))

  -- lines of which the first is no target line
  pub no_target : ((target : TargetLine) → words ≡ target_words target → TargetFits target → ⊥) → IsFaulty read number
  no_target none = record {
    before = [];
    words = words;
    more = more;
    parts = first;
    front = inl refl;
    unread = λ (has : HaveReading ((number, words) ∷ [])). none has.target (same_words has.target has.options has.decisions _ has.reading [] refl ∙ has.reading.is_target.written) has.reading.is_target.fits;
  }

  pub no_target_reading : ((target : TargetLine) → words ≡ target_words target → TargetFits target → ⊥) → (target : TargetLine) (options : Options) (decisions : ℕ) → AreRequest read target options decisions → ⊥
  no_target_reading none target options decisions r = none target (same_words target options decisions read r more first ∙ r.is_target.written) r.is_target.fits

  -- lines behind it of which one can't stand there
  module _ (target : TargetLine) (is : IsTarget number words target) (at : ℕ) (unread : IsUnread more at) where
    abbrev front : List Line
    front = (number, words) ∷ map choice_line unread.before

    no_reading : (others : List Line) (target : TargetLine) (options : Options) (decisions : ℕ) → AreRequest (front ++ ((at, unread.words) ∷ others)) target options decisions → ⊥
    no_reading others target options decisions r =
        never unread.before r.choices at unread.words others unread.front r.are_choices unread.unread (tail_of (number, words) (r.number, r.words) _ _ r.written)

    lines : read ≡ front ++ ((at, unread.words) ∷ unread.more)
    lines = first ∙ ap (λ (ls : List Line). (number, words) ∷ ls) unread.parts

    pub no_choice : IsFaulty read at
    no_choice = record {
      before = front;
      words = unread.words;
      more = unread.more;
      parts = lines;
      front = inr (record {
        target = target;
        options = options_of unread.before;
        decisions = decisions_of unread.before;
        reading = record {
          number = number;
          words = words;
          choices = unread.before;
          written = refl;
          is_target = is;
          are_choices = unread.front;
          opens = refl;
          counts = refl;
        };
      });
      unread = λ (has : HaveReading (front ++ ((at, unread.words) ∷ []))). no_reading [] has.target has.options has.decisions has.reading;
    }

    pub no_choice_reading : (target : TargetLine) (options : Options) (decisions : ℕ) → AreRequest read target options decisions → ⊥
    no_choice_reading target options decisions r = no_reading unread.more target options decisions (subst (λ (ls : List Line). AreRequest ls target options decisions) lines r)

-- the answers of a text that is no request
pub no_text : (text : List ℕ) → (IsUtf8 text → ⊥) → IsSyntax text 1
no_text text none = record {
  unread = λ request reads. none reads.utf8;
  no_text = λ _. refl;
  no_target = λ utf8 _. absurd (none utf8);
  faulty = λ utf8 _. absurd (none utf8);
}

pub no_lines : (text : List ℕ) → IsUtf8 text → lines_from 1 text ≡ [] → IsSyntax text 0
no_lines text utf8 none = record {
  unread = λ request reads. let e : [] ≡ (reads.lines.number, reads.lines.words) ∷ map choice_line reads.lines.choices = sym none ∙ reads.lines.written in cc;
  no_text = λ no. absurd (no utf8);
  no_target = λ _ _. refl;
  faulty = λ _ some. absurd (some none);
}

pub fault : (text : List ℕ) (line : ℕ) → IsUtf8 text → lines_from 1 text ≢ [] → IsFaulty (lines_from 1 text) line →
    ((target : TargetLine) (options : Options) (decisions : ℕ) → AreRequest (lines_from 1 text) target options decisions → ⊥) → IsSyntax text line
fault text line utf8 some faulty unread = record {
  unread = λ request reads. unread request.target request.options request.decisions reads.lines;
  no_text = λ no. absurd (no utf8);
  no_target = λ _ none. absurd (some none);
  faulty = λ _ _. faulty;
}

module _ (text : List ℕ) (number : ℕ) (words : Words) (more : List Line) (utf8 : IsUtf8 text) (first : lines_from 1 text ≡ (number, words) ∷ more) where
  some_lines : lines_from 1 text ≢ []
  some_lines none = let e : (number, words) ∷ more ≡ [] = sym first ∙ none in cc

  pub fault_first : ((target : TargetLine) → words ≡ target_words target → TargetFits target → ⊥) → IsSyntax text number
  fault_first none = fault text number utf8 some_lines (no_target (lines_from 1 text) number words more first none) (no_target_reading (lines_from 1 text) number words more first none)

  pub fault_behind : (target : TargetLine) → IsTarget number words target → (error : ReqErr) → ChoicesAnswer more (Err error) → IsAnswer text (Err error)
  fault_behind target is (Syntax at) unread =
      fault text at utf8 some_lines (no_choice (lines_from 1 text) number words more first target is at unread) (no_choice_reading (lines_from 1 text) number words more first target is at unread)
  fault_behind target is Memory unread = tt

-- what a `?` hands on
pub answered : (text : List ℕ) (answer : Result Request ReqErr) (error : ReqErr) → IsErrAnd answer (λ e. e ≡ error) → IsAnswer text (Err error) → IsAnswer text answer
answered text (Ok request) error is holds = absurd is
answered text (Err other) error is holds = subst (λ (e : ReqErr). IsAnswer text (Err e)) (sym is) holds
