-- What it means that a text is a request, and which line is the first without a reading.
use Rattle.std.specs.Prelude.{◌≡◌, ◌≢◌, ◌⊎◌, ℕ, ◌+◌, Bool, true, false, ◌==◌, not, List, [], ◌∷◌, ◌++◌, map, Result, Ok, Err, if◌then◌else◌}
use Rattle.std.specs.Str.{IsUtf8}
use Rattle.std.specs.Str.Lines.{lines}
use Rattle.rf_request.specs.declared.choices.Choice.{Choice}
use Rattle.rf_request.specs.declared.choices.ChoiceLine.{ChoiceLine}
use Rattle.rf_request.specs.declared.options.Options.{Options}
use Rattle.rf_request.specs.declared.reader.ReqErr.{ReqErr}
use Rattle.rf_request.specs.declared.reader.ReqErr.TheVariants.{Syntax, Memory}
use Rattle.rf_request.specs.declared.request.Request.{Request}
use Rattle.rf_request.specs.declared.target_line.TargetLine.{TargetLine}
use Rattle.rf_request.specs.Choices.{AreChoices, ChoiceFits, choice_line, choice_words, is_repeated}
use Rattle.rf_request.specs.Opened.{options_of, decisions_of}
use Rattle.rf_request.specs.Targets.{IsTarget}
use Rattle.rf_request.specs.Words.{words_of}

-- a line, by its number and its words
abbrev pub Line : Type 0
Line = ℕ × List (List ℕ)

abbrev pub begins_comment : List ℕ → Bool
begins_comment [] = false
begins_comment (byte ∷ bytes) = byte == 35

-- a line without words is skipped, and one whose first word begins with `#`
abbrev pub is_read : List (List ℕ) → Bool
is_read [] = false
is_read (word ∷ words) = not (begins_comment word)

abbrev pub read_from : ℕ → List (List ℕ) → List Line
read_from number [] = []
read_from number (line ∷ more) =
    if is_read (words_of line) then (number, words_of line) ∷ read_from (number + 1) more else read_from (number + 1) more

-- the lines of a text that aren't skipped, the first line of the text having that number
unfoldable pub lines_from : ℕ → List ℕ → List Line
lines_from number text = read_from number (lines text)

-- the lines are a target line and lines behind it, and they ask for this
pub record AreRequest (read : List Line) (target : TargetLine) (options : Options) (decisions : ℕ) : Type 0 where
  pub number : ℕ
  pub words : List (List ℕ)
  pub choices : List ChoiceLine
  pub written : read ≡ (number, words) ∷ map choice_line choices
  pub is_target : IsTarget number words target
  pub are_choices : AreChoices choices
  pub opens : options ≡ options_of choices
  pub counts : decisions ≡ decisions_of choices

pub record HaveReading (read : List Line) : Type 0 where
  pub target : TargetLine
  pub options : Options
  pub decisions : ℕ
  pub reading : AreRequest read target options decisions

-- the lines before this one have a reading, if there are any, and with it they have none
pub record IsFaulty (read : List Line) (number : ℕ) : Type 0 where
  pub before : List Line
  pub words : List (List ℕ)
  pub more : List Line
  pub parts : read ≡ before ++ (number, words) ∷ more
  pub front : (before ≡ []) ⊎ HaveReading before
  pub unread : HaveReading (before ++ (number, words) ∷ []) → ⊥

-- the text is UTF-8, and its lines are the request
pub record Reads (text : List ℕ) (request : Request) : Type 0 where
  pub utf8 : IsUtf8 text
  pub lines : AreRequest (lines_from 1 text) request.target request.options request.decisions

-- the line that is told of a text that is no request
pub record IsSyntax (text : List ℕ) (line : ℕ) : Type 0 where
  pub unread : (request : Request) → Reads text request → ⊥
  pub no_text : (IsUtf8 text → ⊥) → line ≡ 1
  pub no_target : IsUtf8 text → lines_from 1 text ≡ [] → line ≡ 0
  pub faulty : IsUtf8 text → lines_from 1 text ≢ [] → IsFaulty (lines_from 1 text) line

-- the one request that the text is, or the line that is told
abbrev pub IsAnswer : List ℕ → Result Request ReqErr → Type 0
IsAnswer text (Ok request) = Reads text request
IsAnswer text (Err (Syntax line)) = IsSyntax text line
IsAnswer text (Err Memory) = Unit {0}

-- the first of the lines behind the target line that can't stand there
pub record IsUnread (read : List Line) (number : ℕ) : Type 0 where
  pub before : List ChoiceLine
  pub words : List (List ℕ)
  pub more : List Line
  pub parts : read ≡ map choice_line before ++ (number, words) ∷ more
  pub front : AreChoices before
  pub unread : (choice : Choice) → words ≡ choice_words choice → ChoiceFits choice → is_repeated choice before ≡ true

abbrev pub ChoicesAnswer : List Line → Result (List ChoiceLine) ReqErr → Type 0
ChoicesAnswer read (Ok choices) = AreChoices choices × (map choice_line choices ≡ read)
ChoicesAnswer read (Err (Syntax line)) = IsUnread read line
ChoicesAnswer read (Err Memory) = Unit {0}
