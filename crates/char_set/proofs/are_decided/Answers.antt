use Rattle.std.proofs.Common.{rules, arith, ◌<◌, ◌≤◌, length, refl, subst}
use Rattle.std.specs.Prelude.{All}
use Rattle.std.proofs.lemmas.List.{take_all}
use Rattle.std.proofs.lemmas.List.Elements.{All-more}
use Rattle.char_set.specs.Triangular.{IsDecided}
use Rattle.char_set.proofs.are_decided.Goals as goal

pub loop-poly-preserved : goal.loop-poly-preserved
loop-poly-preserved c =
    let lt : c.loop-poly.poly-index < length c.args.list.now = omega arith in
    let here : IsDecided c.args.units.now c.poly-item.result = search rules in
    All-more (IsDecided c.args.units.now) c.args.list.now c.loop-poly.poly-index c.poly-item.result lt c.loop-poly.invariant (subst (IsDecided c.args.units.now) c.poly-item.is here)

pub returns : goal.returns
returns c =
    let end : length c.args.list.now ≤ c.loop-poly.poly-index = omega arith in
    (λ t. subst (All (IsDecided c.args.units.now)) (take_all c.loop-poly.poly-index c.args.list.now end) c.loop-poly.invariant, λ h. refl)
