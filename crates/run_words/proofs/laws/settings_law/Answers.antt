use Rattle.run_words.proofs.Alone.{same_settings, not_both}
use Rattle.run_words.proofs.laws.settings_law.Goals as goal

pub returns-clause-one : goal.returns-clause-one
returns-clause-one c words first second p q = same_settings words first second p q

pub returns-clause-not_both : goal.returns-clause-not_both
returns-clause-not_both c words settings kind p f = not_both words settings kind p f
