-- The order of monomials is total, and only equal monomials tie.
use Rattle.std.specs.Prelude.{◌≡◌, ℕ, refl}
use Rattle.std.specs.declared.cmp.Ordering.{Ordering}
use Rattle.std.specs.declared.cmp.Ordering.TheVariants.{Less, Equal, Greater}
use Rattle.std.specs.Cmp.{IsTotalOrder, on_total}
use Rattle.std.proofs.lemmas.Cmp.{then_total, lists_total, nat_cmp_total}
use Rattle.std.specs.FinMap.{IsAntisymmetric, nat_cmp-IsAntisymmetric, slice_cmp-IsAntisymmetric}
use Rattle.std.specs.Ordering.{ordering_then, nat_cmp}
use Rattle.monomial.specs.Monomials.{power_cmp, monomial_cmp}

pub pair_same : (a c b d : ℕ) → a ≡ c → b ≡ d → ◌≡◌ {A = ℕ × ℕ} (a, b) (c, d)
pair_same a c b d e f = cc

pub both_equal : (o u : Ordering) → ordering_then o u ≡ Equal → (o ≡ Equal) × (u ≡ Equal)
both_equal Less u e = absurd (cc e)
both_equal Equal u e = (refl, e)
both_equal Greater u e = absurd (cc e)

pub power_cmp-IsAntisymmetric : IsAntisymmetric power_cmp
power_cmp-IsAntisymmetric p q e =
    let b = both_equal (nat_cmp p.0 q.0) (nat_cmp p.1 q.1) e in
    pair_same p.0 q.0 p.1 q.1 (nat_cmp-IsAntisymmetric p.0 q.0 b.0) (nat_cmp-IsAntisymmetric p.1 q.1 b.1)

pub monomial_cmp-IsAntisymmetric : IsAntisymmetric monomial_cmp
monomial_cmp-IsAntisymmetric = slice_cmp-IsAntisymmetric power_cmp-IsAntisymmetric

pub power_cmp-IsTotalOrder : IsTotalOrder power_cmp
power_cmp-IsTotalOrder = then_total (on_total (λ (p : ℕ × ℕ). p.0) nat_cmp_total) (on_total (λ (p : ℕ × ℕ). p.1) nat_cmp_total)

pub monomial_cmp-IsTotalOrder : IsTotalOrder monomial_cmp
monomial_cmp-IsTotalOrder = lists_total power_cmp-IsTotalOrder
