use Rattle.std.specs.Prelude.{IsTrue}
use Rattle.std.proofs.Common.{sym, ◌∙◌, ap, inl, inr}
use Rattle.symbol_equations.specs.Values.{symbol_value, side_value}
use Rattle.symbol_equations.proofs.Listed.{all_vanish, all_vanish_at}
use Rattle.hexagon_gen.specs.declared.Hexagon.TheVariants.{First, Second}
use Rattle.hexagon_gen.specs.Hexagons.{is_hexagon, left_side, right_side}
use Rattle.hexagon_gen.specs.Differences.{IsHexagonEquation}
use Rattle.hexagon_gen.proofs.laws.hexagon_law.Goals as goal

pub returns : goal.returns
returns g c r x ps elements are =
    let f = g.F.CharZeroField.field in
    let l = g.F.CharZeroField.laws in (
      λ v. record {
        first = all_vanish_at f l x elements r (IsHexagonEquation r) ps are (λ at. IsTrue (is_hexagon r at)) (left_side First) (right_side r First) (λ left right e. inl e) v;
        second = all_vanish_at f l x elements r (IsHexagonEquation r) ps are (λ at. IsTrue (is_hexagon r at)) (left_side Second) (right_side r Second) (λ left right e. inr e) v;
      },
      λ h. (all_vanish f l x elements r (IsHexagonEquation r) ps are).1
          (λ left right e. elim e [
            | inl i ↦ ap (side_value f (symbol_value f r x)) i.2 ∙ h.first i.0 i.1 ∙ ap (side_value f (symbol_value f r x)) (sym i.3)
            | inr i ↦ ap (side_value f (symbol_value f r x)) i.2 ∙ h.second i.0 i.1 ∙ ap (side_value f (symbol_value f r x)) (sym i.3)
          ]),
    )
