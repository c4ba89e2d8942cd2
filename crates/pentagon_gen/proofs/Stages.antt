-- The chains of conditions that list the labels of the pentagons.
use Rattle.std.specs.Prelude.{◌≡◌, ℕ, ◌↔◌, true, IsTrue, ◌&&◌, refl}
use Rattle.label_tuples.specs.Extended.{Longer}
use Rattle.fusion_ring.specs.Fusion.{Fusion, channel}
use Rattle.fusion_ring.proofs.Channels.{and_intro, and_left, and_right, second_below, channel_below}
use Rattle.pentagon_gen.specs.declared.PentagonLabels.{PentagonLabels}
use Rattle.symbol_equations.specs.Trees.{is_tree}
use Rattle.symbol_equations.proofs.Stages.{With}
use Rattle.pentagon_gen.specs.Pentagon.{is_pentagon}

abbrev pub nines : Longer (ℕ × ℕ × ℕ × ℕ × ℕ × ℕ × ℕ × ℕ) PentagonLabels
nines = record {
  make = λ t x. record { a = t.0; b = t.1; c = t.3; d = t.5; e = t.6; f = t.2; g = t.4; k = x; l = t.7 };
  front = λ u. (u.a, u.b, u.f, u.c, u.g, u.d, u.e, u.l);
  last = λ u. u.k;
  front_is = λ t x. refl;
  last_is = λ t x. refl;
  make_is = λ u. refl;
}

pub is_pentagon_by_stages : (r : Fusion) (n : ℕ) → n ≡ r.labels → (at : PentagonLabels) →
    With (With (With (With (IsTrue (is_tree r (at.a, at.b, at.f, at.c, at.g))) at.d n true) at.e n (channel r at.g at.d at.e)) at.l n (channel r at.c at.d at.l)) at.k n (channel r at.b at.l at.k && channel r at.a at.k at.e)
    ↔ IsTrue (is_pentagon r at)
is_pentagon_by_stages r n e at = (
  λ h. and_intro _ _ (and_intro _ _ (and_intro _ _ (and_intro _ _ h.0.0.0.0 h.0.0.2) h.0.2) (and_left _ _ h.2)) (and_right (channel r at.b at.l at.k) _ h.2),
  λ h.
      let left = is_tree r (at.a, at.b, at.f, at.c, at.g) in
      let gde_tests = left && channel r at.g at.d at.e in
      let cdl_tests = gde_tests && channel r at.c at.d at.l in
      let blk_tests = cdl_tests && channel r at.b at.l at.k in
      let ake = and_right blk_tests _ h in
      let to_blk = and_left blk_tests _ h in
      let blk = and_right cdl_tests _ to_blk in
      let to_cdl = and_left cdl_tests _ to_blk in
      let cdl = and_right gde_tests _ to_cdl in
      let to_gde = and_left gde_tests _ to_cdl in
      let gde = and_right left _ to_gde in
      rw e ((((and_left left _ to_gde, second_below r _ _ _ gde, refl), channel_below r _ _ _ gde, gde), channel_below r _ _ _ cdl, cdl), second_below r _ _ _ ake, and_intro _ _ blk ake),
)
