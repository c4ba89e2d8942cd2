-- The words of a run, and what they ask for.
use Rattle.std.specs.Prelude.{◌≡◌, ◌≢◌, ◌≤◌, ℕ, Bool, true, false, Option, None, Some, List, [], ◌∷◌, codes, decimal}
use Rattle.std.specs.Str.{bytes_eq}
use Rattle.clap.specs.Words.{App, Row, Rule, Text, fault_of, first_of, matches_of, new_app, new_rule, with_rule}
use Rattle.clap.specs.declared.builder.action.ArgAction.TheVariants.{Set, SetTrue}
use Rattle.run_words.specs.declared.settings.Made.{Made}
use Rattle.run_words.specs.declared.settings.Made.TheVariants.{Cyclic, Cube}
use Rattle.run_words.specs.declared.settings.Settings.{Settings}
use Rattle.run_words.specs.declared.settings.UsageKind.{UsageKind}
use Rattle.run_words.specs.declared.settings.UsageKind.TheVariants.{Words, Workers, Budget, Make, Summary}
use Rattle.run_words.specs.declared.settings.WordsStop.{WordsStop}
use Rattle.run_words.specs.declared.settings.WordsStop.TheVariants.{Usage, OutOfMemory}

-- ---- the command

-- `--name`, with one text as its value
abbrev pub valued : Text → Rule
valued name = record (new_rule name) { long = Some name; action = Some Set }

-- `--name`, with no value
abbrev pub flag : Text → Rule
flag name = record (new_rule name) { long = Some name; action = Some SetTrue }

-- the command of a run: four options with a value, and a flag
unfoldable pub command : App
command =
    with_rule (with_rule (with_rule (with_rule (with_rule (new_app (codes "braidsolve"))
    (valued (codes "workers"))) (valued (codes "budget"))) (flag (codes "summary"))) (valued (codes "cyclic"))) (valued (codes "cube"))

-- the program's name, and the words
abbrev pub named : List Text → List Text
named words = codes "braidsolve" ∷ words

-- the command takes the words
abbrev pub Takes : List Text → Type 0
Takes words = fault_of command (named words) ≡ []

-- ---- what the words give

-- the texts of the options' values, and whether there is the flag
pub record Given : Type 0 where
  pub workers : Option Text
  pub budget : Option Text
  pub summary : Bool
  pub cyclic : Option Text
  pub cube : Option Text

-- a flag that is given has this text as its value, and else another
abbrev pub is_given : Option Text → Bool
is_given None = false
is_given (Some text) = bytes_eq text (codes "true")

abbrev pub given_in : List Row → Given
given_in rows = record {
  workers = first_of (codes "workers") rows;
  budget = first_of (codes "budget") rows;
  summary = is_given (first_of (codes "summary") rows);
  cyclic = first_of (codes "cyclic") rows;
  cube = first_of (codes "cube") rows;
}

-- what words that the command takes give
unfoldable pub given : List Text → Given
given words = given_in (matches_of command (named words))

-- ---- what they ask for

-- the text is the number in decimal digits, and it is in the range
pub record IsNumberText (least most : ℕ) (text : Text) (n : ℕ) : Type 0 where
  pub spelled : text ≡ decimal n
  pub at_least : least ≤ n
  pub at_most : n ≤ most

-- the number that an option gives, and a default where it is not there
abbrev pub IsNumberOf : ℕ → ℕ → ℕ → Option Text → ℕ → Type 0
IsNumberOf least most default None n = n ≡ default
IsNumberOf least most default (Some text) n = IsNumberText least most text n

abbrev pub IsWorkersOf : Given → ℕ → Type 0
IsWorkersOf g n = IsNumberOf 1 64 1 g.workers n

abbrev pub IsBudgetOf : Given → ℕ → Type 0
IsBudgetOf g n = IsNumberOf 0 1000000 2000 g.budget n

-- at most one ring is made
abbrev pub IsMadeBy : Option Text → Option Text → Option Made → Type 0
IsMadeBy None None made = made ≡ None
IsMadeBy (Some text) None made = (n : ℕ) × IsNumberText 1 12 text n × (made ≡ Some (Cyclic n))
IsMadeBy None (Some text) made = (k : ℕ) × IsNumberText 0 3 text k × (made ≡ Some (Cube k))
IsMadeBy (Some text) (Some other) made = ⊥

abbrev pub IsMadeOf : Given → Option Made → Type 0
IsMadeOf g made = IsMadeBy g.cyclic g.cube made

-- no value is one of these
abbrev pub IsNone : {T : Type 0} → (T → Type 0) → Type 0
IsNone {T} P = (x : T) → P x → ⊥

-- what is given asks for these settings
pub record AsksFor (g : Given) (s : Settings) : Type 0 where
  pub workers : IsWorkersOf g s.workers
  pub budget : IsBudgetOf g s.budget
  pub made : IsMadeOf g s.made
  pub summary : s.summary ≡ g.summary
  pub alone : s.summary ≡ true → s.workers ≡ 1

-- a ring that can be made
abbrev pub IsMadeInRange : Option Made → Type 0
IsMadeInRange None = Unit {0}
IsMadeInRange (Some (Cyclic n)) = (1 ≤ n) × (n ≤ 12)
IsMadeInRange (Some (Cube k)) = k ≤ 3

-- settings that words may ask for
pub record AreInRange (s : Settings) : Type 0 where
  pub some_worker : 1 ≤ s.workers
  pub few_workers : s.workers ≤ 64
  pub budget : s.budget ≤ 1000000
  pub made : IsMadeInRange s.made
  pub alone : s.summary ≡ true → s.workers ≡ 1

-- the first part of what is given that is refused
abbrev pub IsFirstFault : Given → UsageKind → Type 0
IsFirstFault g Words = ⊥
IsFirstFault g Workers = IsNone (IsWorkersOf g)
IsFirstFault g Budget = (workers : ℕ) × IsWorkersOf g workers × IsNone (IsBudgetOf g)
IsFirstFault g Make = (workers : ℕ) × IsWorkersOf g workers × (budget : ℕ) × IsBudgetOf g budget × IsNone (IsMadeOf g)
IsFirstFault g Summary = (workers : ℕ) × IsWorkersOf g workers × (budget : ℕ) × IsBudgetOf g budget × (made : Option Made) × IsMadeOf g made × (g.summary ≡ true) × (workers ≢ 1)

-- the words ask for these settings
pub record IsSettings (words : List Text) (s : Settings) : Type 0 where
  pub takes : Takes words
  pub asks : AsksFor (given words) s

-- the command takes the words, and this is the first part of what they give that is refused
pub record IsGivenFault (words : List Text) (kind : UsageKind) : Type 0 where
  pub takes : Takes words
  pub fault : IsFirstFault (given words) kind

-- what is wrong with the words
abbrev pub IsUsageFault : List Text → UsageKind → Type 0
IsUsageFault words Words = Takes words → ⊥
IsUsageFault words kind = IsGivenFault words kind

-- why the words give no settings
abbrev pub IsWordsStop : List Text → WordsStop → Type 0
IsWordsStop words (Usage kind) = IsUsageFault words kind
IsWordsStop words OutOfMemory = Unit {0}
