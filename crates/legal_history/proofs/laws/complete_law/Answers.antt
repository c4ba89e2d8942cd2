use Rattle.std.specs.Prelude.{◌≡◌, reverse}
use Rattle.std.proofs.Common.{refl, sym, ◌∙◌, ap, subst}
use Rattle.std.proofs.lemmas.List.{reverse-reverse}
use Rattle.case_history.specs.History.{IsComplete}
use Rattle.case_history.specs.Replay.{Replays}
use Rattle.legal_history.proofs.laws.complete_law.Goals as goal

pub returns : goal.returns
returns c root budget h cert listed legal complete equations entries =
    let same : h ≡ reverse cert.entries = sym (reverse-reverse h) ∙ ap reverse (sym entries) in
    record {
      unknowns_are = refl;
      equations_are = equations;
      replays = subst (Replays root) same (c.legal_law.ensures root budget h listed legal);
      complete = subst IsComplete same complete;
    }
