-- The four rules of a fusion ring without multiplicities (Kitaev 2006, Appendix E), and the dual of a label.
use Rattle.std.specs.Prelude.{◌≡◌, ℕ, ◌≤◌, ◌*◌, Bool, true, ◌&&◌, not, ◌==◌, List, Contains, count_by, length}
use Rattle.std.specs.Bool.{beq}
use Rattle.label_tuples.specs.Extended.{below, all_singles, all_pairs, all_triples, all_fours}
use Rattle.fusion_ring.specs.Fusion.{Fusion, channel}

-- a rule holds at each of the tuples
abbrev pub HoldsAtAll : {X : Type 0} → List X → (X → Bool) → Type 0
HoldsAtAll {X} among holds = (t : X) → Contains among t → holds t ≡ true

-- the unit: N(0,a,c) = N(a,0,c) = [a = c]
abbrev pub has_unit_law : Fusion → ℕ → ℕ → Bool
has_unit_law r a c = beq (channel r 0 a c) (a == c) && beq (channel r a 0 c) (a == c)

-- duals: exactly one b has N(a,b,0) = 1, and then N(b,a,0) = 1
abbrev pub has_dual : Fusion → ℕ → Bool
has_dual r a = count_by (λ b. channel r a b 0) (below r.labels) == 1 && count_by (λ b. channel r a b 0 && not (channel r b a 0)) (below r.labels) == 0

-- commutativity: N(a,b,c) = N(b,a,c)
abbrev pub is_commutative : Fusion → ℕ → ℕ → ℕ → Bool
is_commutative r a b c = beq (channel r a b c) (channel r b a c)

-- associativity: the sum over e of N(a,b,e) N(e,c,d) is the sum over f of N(b,c,f) N(a,f,d)
abbrev pub left_channels : Fusion → ℕ → ℕ → ℕ → ℕ → ℕ
left_channels r a b c d = count_by (λ e. channel r a b e && channel r e c d) (below r.labels)

abbrev pub right_channels : Fusion → ℕ → ℕ → ℕ → ℕ → ℕ
right_channels r a b c d = count_by (λ f. channel r b c f && channel r a f d) (below r.labels)

abbrev pub is_associative : Fusion → ℕ → ℕ → ℕ → ℕ → Bool
is_associative r a b c d = left_channels r a b c d == right_channels r a b c d

-- the four rules at all labels
pub record IsFusionRing (r : Fusion) : Type 0 where
  pub unit : HoldsAtAll (all_pairs r.labels) (λ t. has_unit_law r t.0 t.1)
  pub duals : HoldsAtAll (all_singles r.labels) (has_dual r)
  pub commutative : HoldsAtAll (all_triples r.labels) (λ t. is_commutative r t.0 t.1 t.2)
  pub associative : HoldsAtAll (all_fours r.labels) (λ t. is_associative r t.0 t.1 t.2 t.3)

-- a fusion ring of 1 to 12 labels
pub record IsSmallRing (r : Fusion) : Type 0 where
  pub some_label : 1 ≤ r.labels
  pub few_labels : r.labels ≤ 12
  pub table_length : length r.table ≡ r.labels * r.labels * r.labels
  pub rules : IsFusionRing r

-- b is the dual of a: the one label with N(a,b,0) = 1
abbrev pub IsDual : Fusion → ℕ → ℕ → Type 0
IsDual r a b = (channel r a b 0 ≡ true) × ((c : ℕ) → channel r a c 0 ≡ true → c ≡ b)
