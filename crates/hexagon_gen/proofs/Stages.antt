-- The chain of conditions that lists the labels of the hexagons.
use Rattle.std.specs.Prelude.{◌≡◌, ℕ, ◌↔◌, IsTrue, ◌&&◌, refl}
use Rattle.label_tuples.specs.Extended.{Longer}
use Rattle.fusion_ring.specs.Fusion.{Fusion, channel}
use Rattle.fusion_ring.proofs.Channels.{and_intro, and_left, and_right, channel_below}
use Rattle.symbol_equations.specs.Trees.{is_tree}
use Rattle.symbol_equations.proofs.Stages.{With}
use Rattle.hexagon_gen.specs.declared.HexagonLabels.{HexagonLabels}
use Rattle.hexagon_gen.specs.Hexagons.{is_hexagon}

abbrev pub hexagon_tuples : Longer (ℕ × ℕ × ℕ × ℕ × ℕ) HexagonLabels
hexagon_tuples = record {
  make = λ t x. record { a = t.0; b = t.3; c = t.1; d = t.4; e = t.2; g = x };
  front = λ u. (u.a, u.c, u.e, u.b, u.d);
  last = λ u. u.g;
  front_is = λ t x. refl;
  last_is = λ t x. refl;
  make_is = λ u. refl;
}

pub is_hexagon_by_stages : (r : Fusion) (n : ℕ) → n ≡ r.labels → (at : HexagonLabels) →
    With (IsTrue (is_tree r (at.a, at.c, at.e, at.b, at.d))) at.g n (channel r at.c at.b at.g && channel r at.a at.g at.d) ↔ IsTrue (is_hexagon r at)
is_hexagon_by_stages r n e at = (
  λ h. and_intro _ _ (and_intro _ _ h.0 (and_left _ _ h.2)) (and_right (channel r at.c at.b at.g) _ h.2),
  λ h.
      let tree = is_tree r (at.a, at.c, at.e, at.b, at.d) in
      let cbg_tests = tree && channel r at.c at.b at.g in
      let agd = and_right cbg_tests _ h in
      let to_cbg = and_left cbg_tests _ h in
      let cbg = and_right tree _ to_cbg in
      rw e (and_left tree _ to_cbg, channel_below r _ _ _ cbg, and_intro _ _ cbg agd),
)
