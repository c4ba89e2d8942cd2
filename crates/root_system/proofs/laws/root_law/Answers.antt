use Rattle.std.proofs.Common.{◌≡◌, refl, List}
use Rattle.sparse_poly.specs.declared.Term.{Term}
use Rattle.sparse_poly.specs.Polynomials.{eval}
use Rattle.root_system.proofs.Vanishing.{all_of_parts, all_four}
use Rattle.root_system.proofs.laws.root_law.Goals as goal

pub returns : goal.returns
returns g c p x qs elements are =
    let f = g.F.CharZeroField.field in
    let d = are.are_differences in
    let parts = all_of_parts (λ (q : List Term). eval f x q ≡ f.zero) refl (λ a b h. c.primitive_law.ensures x a b elements h) are.differences qs are.are_parts in
    let four = all_four (λ (q : List Term). eval f x q ≡ f.zero) d.pentagons d.hexagons d.inverses d.gauges are.differences d.all in
    let pentagon = c.pentagon_law.ensures p.ring x d.pentagons elements d.are_pentagons in
    let hexagon = c.hexagon_law.ensures p.ring x d.hexagons elements d.are_hexagons in
    let inverse = c.inverse_law.ensures p.ring x d.inverses elements d.are_inverses in
    let gauge = c.gauge_law.ensures p.ring x p.gauge d.gauges elements d.are_gauges in (
      λ h. let each = four.0 (parts.1 h) in record { pentagon = pentagon.0 each.0; hexagons = hexagon.0 each.1; inverses = inverse.0 each.2; gauge = gauge.0 each.3 },
      λ s. parts.0 (four.1 (pentagon.1 s.pentagon, hexagon.1 s.hexagons, inverse.1 s.inverses, gauge.1 s.gauge)),
    )
