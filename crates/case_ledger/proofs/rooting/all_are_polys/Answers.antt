use Rattle.std.specs.Prelude.{◌<◌, ◌≤◌, All, length}
use Rattle.std.proofs.Common.{arith, subst}
use Rattle.std.proofs.lemmas.List.{take_all}
use Rattle.std.proofs.lemmas.List.Elements.{All-more}
use Rattle.sparse_poly.specs.Contributions.{IsPoly}
use Rattle.case_ledger.proofs.rooting.all_are_polys.Goals as goal

pub loop-poly-preserved : goal.loop-poly-preserved
loop-poly-preserved c =
    let lt : c.loop-poly.poly-index < length c.args.polys.now = omega arith in
    All-more IsPoly c.args.polys.now c.loop-poly.poly-index c.poly-item.result lt c.loop-poly.invariant (subst IsPoly c.poly-item.is c.terms-terms.ensures.poly)

pub returns : goal.returns
returns c =
    let end : length c.args.polys.now ≤ c.loop-poly.poly-index = omega arith in
    subst (All IsPoly) (take_all c.loop-poly.poly-index c.args.polys.now end) c.loop-poly.invariant
