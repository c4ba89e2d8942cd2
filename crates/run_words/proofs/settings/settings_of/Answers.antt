use Rattle.std.specs.Prelude.{List, ℕ, map}
use Rattle.std.specs.Borrow.{Bor}
use Rattle.std.proofs.Common.{◌∙◌, ap}
use Rattle.run_words.specs.Texts.{texts_of}
use Rattle.run_words.proofs.Parsed.{settings_hold, fault_holds, in_range}
use Rattle.run_words.proofs.settings.settings_of.Goals as goal

pub returns-in-Ok-clause-settings : goal.returns-in-Ok-clause-settings
returns-in-Ok-clause-settings c =
    let found = c.in_ok-texts.ensures in
    settings_hold _ _ (texts_of c.in_ok-texts.texts) (ap (map (λ (s : Bor (List ℕ)). s.now)) c.deref.ensures.value ∙ c.in_ok-words.ensures) found.0 found.1 c.in-Ok.settings c.in-Ok.ensures

pub returns-in-Ok-clause-range : goal.returns-in-Ok-clause-range
returns-in-Ok-clause-range c = in_range (texts_of c.in_ok-texts.texts) c.in-Ok.settings c.in-Ok.ensures

pub returns-clause-settings : goal.returns-clause-settings
returns-clause-settings c =
    let found = c.in_ok-texts.ensures in
    fault_holds _ _ (texts_of c.in_ok-texts.texts) (ap (map (λ (s : Bor (List ℕ)). s.now)) c.deref.ensures.value ∙ c.in_ok-words.ensures) found.0 found.1 c.in-Err.kind c.in-Err.ensures
