use Rattle.std.proofs.Common.{subst}
use Rattle.std.proofs.lemmas.List.{reverse-reverse}
use Rattle.derive_lines.specs.Refuting.{AllVanish}
use Rattle.leaf_cert.specs.Leaves.{Meets}
use Rattle.case_history.specs.JustOne.{MeetsJustOneLeaf}
use Rattle.case_history.proofs.laws.accepted_law.Goals as goal

pub returns : goal.returns
returns g c s unknowns root cert elements a =
    let f = g.F.CharZeroField.field in
    subst (MeetsJustOneLeaf (AllVanish f s root) (Meets f s)) (reverse-reverse cert.entries) (c.leaves_law.ensures s root _ elements a.replays a.complete)
