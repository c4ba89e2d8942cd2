-- The chains of conditions that list the labels of the inverses.
use Rattle.std.specs.Prelude.{◌≡◌, ◌<◌, ◌↔◌, ℕ, true, IsTrue, Contains, refl}
use Rattle.label_tuples.specs.Extended.{Longer, all_fours}
use Rattle.label_tuples.proofs.Members.{fours_contain}
use Rattle.fusion_ring.specs.Fusion.{Fusion, channel}
use Rattle.fusion_ring.proofs.Channels.{and_intro, and_left, and_right, first_below, second_below, channel_below}
use Rattle.symbol_equations.proofs.Stages.{With}
use Rattle.gauge_fix.specs.declared.inverse.InverseLabels.{InverseLabels}
use Rattle.symbol_index.specs.declared.sides.Side.{Side}
use Rattle.symbol_index.specs.declared.sides.Side.TheVariants.{Rows, Columns}
use Rattle.symbol_index.specs.Sides.{is_on}
use Rattle.gauge_fix.specs.Inverses.{matrix, are_on, is_channel}

abbrev pub inverse_tuples : Longer (ℕ × ℕ × ℕ × ℕ × ℕ) InverseLabels
inverse_tuples = record {
  make = λ t x. record { a = t.0; b = t.1; c = t.2; d = t.3; channel = t.4; other = x };
  front = λ u. (u.a, u.b, u.c, u.d, u.channel);
  last = λ u. u.other;
  front_is = λ t x. refl;
  last_is = λ t x. refl;
  make_is = λ u. refl;
}

pub on_by_stages : (s : Side) (r : Fusion) (n : ℕ) → n ≡ r.labels → (at : InverseLabels) →
    With (With (Contains (all_fours n) (matrix at)) at.channel n (is_on s r (matrix at) at.channel)) at.other n (is_on s r (matrix at) at.other) ↔ IsTrue (are_on s r at)
on_by_stages s r n e at = (
  λ h. and_intro _ _ h.0.2 h.2,
  λ h.
      let first = and_left (is_on s r (matrix at) at.channel) _ h in
      let second = and_right (is_on s r (matrix at) at.channel) _ h in
      rw e ((in_range s at.channel first, below_labels s at.channel first, first), below_labels s at.other second, second),
)
  where
    below_labels : (s : Side) (x : ℕ) → IsTrue (is_on s r (matrix at) x) → x < r.labels
    below_labels Rows x h = channel_below r _ _ _ (and_left (channel r at.a at.b x) _ h)
    below_labels Columns x h = channel_below r _ _ _ (and_left (channel r at.b at.c x) _ h)

    in_range : (s : Side) (x : ℕ) → IsTrue (is_on s r (matrix at) x) → Contains (all_fours r.labels) (matrix at)
    in_range Rows x h =
        let abe = and_left (channel r at.a at.b x) _ h in
        let ecd = and_right (channel r at.a at.b x) _ h in
        fours_contain r.labels at.a at.b at.c at.d (first_below r _ _ _ abe) (second_below r _ _ _ abe) (second_below r _ _ _ ecd) (channel_below r _ _ _ ecd)
    in_range Columns x h =
        let bcf = and_left (channel r at.b at.c x) _ h in
        let afd = and_right (channel r at.b at.c x) _ h in
        fours_contain r.labels at.a at.b at.c at.d (first_below r _ _ _ afd) (first_below r _ _ _ bcf) (second_below r _ _ _ bcf) (channel_below r _ _ _ afd)

pub channels_by_stages : (r : Fusion) (n : ℕ) → n ≡ r.labels → (t : ℕ × ℕ × ℕ) →
    With (With (With (Unit {0}) t.0 n true) t.1 n true) t.2 n (channel r t.0 t.1 t.2) ↔ IsTrue (is_channel r t)
channels_by_stages r n e t = (
  λ h. h.2,
  λ h. rw e (((tt, first_below r _ _ _ h, refl), second_below r _ _ _ h, refl), channel_below r _ _ _ h, h),
)
