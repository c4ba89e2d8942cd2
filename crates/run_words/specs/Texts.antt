-- What the command finds, as the code holds it.
use Rattle.std.specs.Prelude.{◌≢◌, List, [], option_map}
use Rattle.clap.specs.Words.{Text, fault_of}
use Rattle.run_words.specs.Words.{command, Given}
use Rattle.run_words.specs.declared.given.GivenTexts.{GivenTexts}
use Rattle.run_words.specs.declared.settings.UsageKind.TheVariants.{Words}
use Rattle.run_words.specs.declared.settings.WordsStop.{WordsStop}
use Rattle.run_words.specs.declared.settings.WordsStop.TheVariants.{Usage, OutOfMemory}

abbrev pub texts_of : GivenTexts → Given
texts_of g = record {
  workers = option_map (λ s. s.now) g.workers;
  budget = option_map (λ s. s.now) g.budget;
  summary = g.summary;
  cyclic = option_map (λ s. s.now) g.cyclic;
  cube = option_map (λ s. s.now) g.cube;
}

-- the command does not take the words, the program's name before them, or memory could not be had
abbrev pub IsParseStop : List Text → WordsStop → Type 0
IsParseStop words (Usage Words) = fault_of command words ≢ []
IsParseStop words (Usage kind) = ⊥
IsParseStop words OutOfMemory = Unit {0}
