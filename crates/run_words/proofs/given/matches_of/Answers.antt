use Rattle.std.specs.Prelude.{map}
use Rattle.std.proofs.Common.{◌∙◌, ap, sym, rules}
use Rattle.clap.specs.Words.{App, app_of, fault_of, is_simple, is_simple_and_free, matches_of}
use Rattle.run_words.proofs.Parsed.{simple, simple_and_free, no_kind}
use Rattle.run_words.proofs.given.matches_of.Goals as goal

pub returns-in-Ok : goal.returns-in-Ok
returns-in-Ok c =
    let app = c.in_ok-command.ensures in
    let words = map (λ s. s.now) c.args.words.now in
    let none = c.in-Ok.ensures.kinds (ap is_simple_and_free app ∙ simple_and_free) in
    let rows = (c.in-Ok.ensures.matches (ap is_simple app ∙ simple)).0 in
    (ap (λ (a : App). fault_of a words) (sym app) ∙ none, rows ∙ ap (λ (a : App). matches_of a words) app)

pub returns-else-eq : goal.returns-else-eq
returns-else-eq c none =
    let app = c.in_ok-command.ensures in
    let words = map (λ s. s.now) c.args.words.now in
    no_kind (fault_of (app_of c.in_ok-command.field-0) words) c.in-Err.e (ap (λ (a : App). fault_of a words) app ∙ none) (search rules) (c.in-Err.ensures.kinds (ap is_simple_and_free app ∙ simple_and_free))
