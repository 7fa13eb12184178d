-- What the lines behind the target line ask for together.
use Rattle.std.specs.Prelude.{ℕ, Bool, List, [], ◌∷◌, ◌++◌, codes, if◌then◌else◌}
use Rattle.std.specs.List.{list_any, flat_map}
use Rattle.std.specs.Str.{bytes_eq}
use Rattle.rf_request.specs.declared.choices.Choice.{Choice}
use Rattle.rf_request.specs.declared.choices.Choice.TheVariants.{Allow, Spare, Decisions, Keep, Rules}
use Rattle.rf_request.specs.declared.choices.ChoiceLine.{ChoiceLine}
use Rattle.rf_request.specs.declared.options.Options.{Options}
use Rattle.rf_request.specs.declared.sorts.Sort.{Sort}

abbrev pub is_among : List ℕ → List (List ℕ) → Bool
is_among word words = list_any (λ other. bytes_eq other word) words

-- the words of the `allow` line, if there is one
abbrev pub allowed_by : Choice → List (List ℕ) → List (List ℕ)
allowed_by (Allow words) other = words
allowed_by choice other = other

abbrev pub allowed_of : List ChoiceLine → List (List ℕ)
allowed_of [] = []
allowed_of (line ∷ lines) = allowed_by line.choice (allowed_of lines)

-- the words behind those that stand already: each that isn't among them yet is put behind them
abbrev pub with_new : List (List ℕ) → List (List ℕ) → List (List ℕ)
with_new before [] = before
with_new before (word ∷ words) = with_new (if is_among word before then before else before ++ word ∷ []) words

-- those of the `spare` line; repeated ones count once
abbrev pub spares_by : Choice → List (List ℕ) → List (List ℕ)
spares_by (Spare words) other = with_new [] words
spares_by choice other = other

abbrev pub spares_of : List ChoiceLine → List (List ℕ)
spares_of [] = []
spares_of (line ∷ lines) = spares_by line.choice (spares_of lines)

abbrev pub kept_on : ℕ → Choice → List (Sort × List ℕ × ℕ)
kept_on number (Keep sort name) = (sort, name, number) ∷ []
kept_on number choice = []

abbrev pub kept_by : ChoiceLine → List (Sort × List ℕ × ℕ)
kept_by line = kept_on line.number line.choice

abbrev pub rules_on : ℕ → Choice → List (List ℕ × ℕ)
rules_on number (Rules file) = (file, number) ∷ []
rules_on number choice = []

abbrev pub rules_by : ChoiceLine → List (List ℕ × ℕ)
rules_by line = rules_on line.number line.choice

abbrev pub options_of : List ChoiceLine → Options
options_of lines = record {
  names = is_among (codes "names") (allowed_of lines);
  access = is_among (codes "access") (allowed_of lines);
  owners = is_among (codes "owners") (allowed_of lines);
  imports = is_among (codes "imports") (allowed_of lines);
  spares = spares_of lines;
  keep = flat_map kept_by lines;
  rules = flat_map rules_by lines;
}

-- 1,000 decisions where no line says it
abbrev pub decisions_by : Choice → ℕ → ℕ
decisions_by (Decisions number) other = number
decisions_by choice other = other

abbrev pub decisions_of : List ChoiceLine → ℕ
decisions_of [] = 1000
decisions_of (line ∷ lines) = decisions_by line.choice (decisions_of lines)
