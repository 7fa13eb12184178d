-- What a rule file is, and the lines that are put for it.
use Rattle.std.specs.Prelude.{◌≡◌, ◌⊎◌, ◌<◌, ◌≤◌, ℕ, List, [], ◌∷◌, ◌++◌, false, length, map, codes, Some, None}
use Rattle.std.specs.Fmt.{decimal}
use Rattle.rf_rparse.specs.Answers.{Reads, IsSyntax}
use Rattle.rf_rtree.specs.declared.faults.KindFault.{KindFault}
use Rattle.rf_rtree.specs.declared.items.RuleProg.{RuleProg}
use Rattle.rf_rtree.specs.declared.language.Lang.{Lang}
use Rattle.rf_rtree.specs.Asks.{query_of}
use Rattle.rf_rtree.specs.Plain.{plain}
use Rattle.rf_rtree.specs.Programs.{first_fault}
use Rattle.rf_rtree.specs.Tables.{QUERIES}
use Rattle.rf_rules.specs.declared.answers.RulesAnswer.{RulesAnswer}
use Rattle.rf_rules.specs.declared.answers.RulesAnswer.TheVariants.{Printed, Bad, TooLarge}

-- the most bytes of a rule file
abbrev pub MOST_BYTES : ℕ
MOST_BYTES = 65536

-- the language of rule files: the queries over a Java project, without the names that begin with `j_`
abbrev pub java : Lang
java = record { queries = map query_of QUERIES; own = false }

abbrev pub line_end : List ℕ
line_end = 10 ∷ []

-- the front of a line that tells of a rule file that is none
abbrev pub bad_rules : List ℕ → List ℕ
bad_rules path = codes "bad rules " ++ path

abbrev pub syntax_line : List ℕ → ℕ → List ℕ
syntax_line path line = bad_rules path ++ (codes " line " ++ (decimal line ++ (codes " syntax" ++ line_end)))

abbrev pub fault_line : List ℕ → KindFault → List ℕ
fault_line path fault = bad_rules path ++ (codes " rule " ++ (fault.rule ++ (codes " line " ++ (decimal fault.line ++
    (codes " found " ++ (fault.found ++ (codes " wanted " ++ (fault.wanted ++ line_end))))))))

abbrev pub too_large_line : ℕ → List ℕ
too_large_line count = codes "too large text " ++ (decimal count ++ line_end)

-- the bytes read to a program without a kind fault, and this is its plain print
pub record HasPrint (bytes text : List ℕ) : Type 0 where
  pub prog : RuleProg
  pub reads : Reads bytes prog
  pub well_kinded : first_fault prog java ≡ None
  pub text_is : text ≡ plain prog

-- they have no reading, and the line names the one of the first token that can't go on
pub record HasNoReading (path bytes said : List ℕ) : Type 0 where
  pub line : ℕ
  pub syntax : IsSyntax bytes line
  pub said_is : said ≡ syntax_line path line

-- they read to a program, and the line tells its first kind fault
pub record HasKindFault (path bytes said : List ℕ) : Type 0 where
  pub prog : RuleProg
  pub fault : KindFault
  pub reads : Reads bytes prog
  pub first : first_fault prog java ≡ Some fault
  pub said_is : said ≡ fault_line path fault

-- what is answered for the bytes of the file at a path
abbrev pub IsRulesAnswer : List ℕ → List ℕ → RulesAnswer → Type 0
IsRulesAnswer path bytes (Printed text) = (length bytes ≤ MOST_BYTES) × HasPrint bytes text
IsRulesAnswer path bytes (Bad said) = (length bytes ≤ MOST_BYTES) × (HasNoReading path bytes said ⊎ HasKindFault path bytes said)
IsRulesAnswer path bytes (TooLarge said) = (MOST_BYTES < length bytes) × (said ≡ too_large_line (length bytes))
