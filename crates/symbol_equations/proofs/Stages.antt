-- The chain of conditions that lists the trees.
use Rattle.std.specs.Prelude.{◌≡◌, ℕ, ◌<◌, ◌↔◌, Bool, true, IsTrue, refl}
use Rattle.fusion_ring.specs.Fusion.{Fusion, channel}
use Rattle.fusion_ring.proofs.Channels.{and_intro, and_left, and_right, first_below, second_below, channel_below}
use Rattle.symbol_equations.specs.Trees.{is_tree}

-- what stood before, and one label below n that passes a test
abbrev pub With : Type 0 → ℕ → ℕ → Bool → Type 0
With P x n b = P × (x < n) × IsTrue b

pub is_tree_by_stages : (r : Fusion) (n : ℕ) → n ≡ r.labels → (t : ℕ × ℕ × ℕ × ℕ × ℕ) →
    With (With (With (With (With (Unit {0}) t.0 n true) t.1 n true) t.2 n (channel r t.0 t.1 t.2)) t.3 n true) t.4 n (channel r t.2 t.3 t.4) ↔ IsTrue (is_tree r t)
is_tree_by_stages r n e t = (
  λ h. and_intro _ _ h.0.0.2 h.2,
  λ h.
      let abf = and_left (channel r t.0 t.1 t.2) _ h in
      let fcg = and_right (channel r t.0 t.1 t.2) _ h in
      rw e (((((tt, first_below r _ _ _ abf, refl), second_below r _ _ _ abf, refl), channel_below r _ _ _ abf, abf), second_below r _ _ _ fcg, refl), channel_below r _ _ _ fcg, fcg),
)
