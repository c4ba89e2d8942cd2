use Rattle.std.proofs.Common.{rules, ◌≡◌, []}
use Rattle.std.specs.Prelude.{pos}
use Rattle.sparse_poly.specs.Polynomials.{products, constant}
use Rattle.derive_lines.proofs.Ones.{by_one}
use Rattle.derive_lines.proofs.sides.compare_sides.Goals as goal

pub returns-then-is_zero : goal.returns-then-is_zero
returns-then-is_zero c =
    let one : c.args.line.now.l ≡ constant (pos 1) = search rules in
    let none : c.args.line.now.a ≡ [] = search rules in
    by_one c.compare_with.result c.args.line.now.l c.args.q.now c.args.line.now.a c.args.p.now (products c.args.line.now.m c.args.r.now) one none c.compare_with.ensures
