use Rattle.std.proofs.Common.{◌≡◌, sym, ◌∙◌, ap, inl, inr}
use Rattle.std.specs.Prelude.{IsTrue}
use Rattle.symbol_equations.specs.Values.{symbol_value, side_value}
use Rattle.symbol_equations.proofs.Listed.{all_vanish, all_vanish_at}
use Rattle.gauge_fix.specs.Inverses.{are_on, is_channel, entry_side, identity_side, braiding_side, one_side, IsInverseEquation}
use Rattle.gauge_fix.specs.declared.inverse.InverseLabels.{InverseLabels}
use Rattle.symbol_index.specs.declared.sides.Side.TheVariants.{Rows, Columns}
use Rattle.gauge_fix.proofs.laws.inverse_law.Goals as goal

pub returns : goal.returns
returns g c r x ps elements are =
    let f = g.F.CharZeroField.field in
    let l = g.F.CharZeroField.laws in
    let value = side_value f (symbol_value f r x) in (
      λ v. record {
        entries = λ s. elim s as (λ s. (at : InverseLabels) → IsTrue (are_on s r at) → value (entry_side s r at) ≡ value (identity_side at)) [
          | Rows ↦ all_vanish_at f l x elements r (IsInverseEquation r) ps are (λ at. IsTrue (are_on Rows r at)) (entry_side Rows r) identity_side (λ left right e. inl e) v
          | Columns ↦ all_vanish_at f l x elements r (IsInverseEquation r) ps are (λ at. IsTrue (are_on Columns r at)) (entry_side Columns r) identity_side (λ left right e. inr (inl e)) v
        ];
        braiding = all_vanish_at f l x elements r (IsInverseEquation r) ps are (λ t. IsTrue (is_channel r t)) braiding_side one_side (λ left right e. inr (inr e)) v;
      },
      λ h. (all_vanish f l x elements r (IsInverseEquation r) ps are).1
          (λ left right q. elim q [
            | inl e ↦ ap value e.2 ∙ h.entries Rows e.0 e.1 ∙ ap value (sym e.3)
            | inr o ↦ elim o [
              | inl e ↦ ap value e.2 ∙ h.entries Columns e.0 e.1 ∙ ap value (sym e.3)
              | inr e ↦ ap value e.2 ∙ h.braiding e.0 e.1 ∙ ap value (sym e.3)
            ]
          ]),
    )
