use Rattle.std.specs.Prelude.{IsTrue}
use Rattle.std.proofs.Common.{rules}
use Rattle.symbol_equations.proofs.Listed.{both_kinds, differences_found}
use Rattle.hexagon_gen.specs.declared.HexagonLabels.{HexagonLabels}
use Rattle.hexagon_gen.specs.declared.Hexagon.TheVariants.{First, Second}
use Rattle.hexagon_gen.specs.Hexagons.{is_hexagon, left_side, right_side}
use Rattle.hexagon_gen.specs.Differences.{IsEquationOf}
use Rattle.hexagon_gen.proofs.hexagons.Goals as goal

pub returns : goal.returns
returns c =
    let r = c.args.ring.now in
    let Is = λ (at : HexagonLabels). IsTrue (is_hexagon r at) in
    both_kinds r (IsEquationOf r First) (IsEquationOf r Second) c.in_ok-found.found.items c.in_ok-second.second.items c.append.new.self.items c.in_ok-append.ensures.items
    (differences_found r c.args.symbols.now _ Is (left_side First) (right_side r First) c.in_ok-all.all.items c.deref.result.now c.in_ok-found.found.items c.requires c.in_ok-all.ensures c.deref.ensures.value (λ at o h. search rules) c.in_ok-found.ensures)
    (differences_found r c.args.symbols.now _ Is (left_side Second) (right_side r Second) c.in_ok-all.all.items c.deref-2.result.now c.in_ok-second.second.items c.requires c.in_ok-all.ensures c.deref-2.ensures.value (λ at o h. search rules) c.in_ok-second.ensures)
