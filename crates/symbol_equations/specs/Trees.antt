-- Labels on which the equations stand.
use Rattle.std.specs.Prelude.{ℕ, Bool, ◌&&◌}
use Rattle.fusion_ring.specs.Fusion.{Fusion, channel}

-- N(a,b,e) = N(e,c,d) = 1, for a, b, e, c and d
abbrev pub is_tree : Fusion → ℕ × ℕ × ℕ × ℕ × ℕ → Bool
is_tree r t = channel r t.0 t.1 t.2 && channel r t.2 t.3 t.4
