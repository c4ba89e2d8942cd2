-- The chains of conditions that list the labels of the unknowns.
use Rattle.std.specs.Prelude.{◌≡◌, ℕ, Bool, true, false, ◌&&◌, ◌||◌, not, ◌==◌, filter, refl}
use Rattle.std.proofs.Common.{◌∙◌, ap}
use Rattle.std.proofs.lemmas.List.Elements.{filter_agree}
use Rattle.label_tuples.specs.Extended.{all_triples, all_sixes}
use Rattle.fusion_ring.specs.Fusion.{Fusion, channel}
use Rattle.symbol_index.specs.declared.sides.Side.{Side}
use Rattle.symbol_index.specs.declared.sides.Side.TheVariants.{Rows, Columns}
use Rattle.symbol_index.specs.Symbols.{is_unknown, rsym}
use Rattle.symbol_index.specs.Sides.{is_on, opposite, entry}
use Rattle.symbol_index.specs.Appended.{is_nontrivial}

-- a, b, c are the unit; e, f, g, h the four channels
f_tests : (a b c e f g h : Bool) → ((((not a && not b) && not c) && true) && (e && f)) && (g && h) ≡ (not (a || b || c) && (e && f && g && h))
f_tests true b c e f g h = refl
f_tests false true c e f g h = refl
f_tests false false true e f g h = refl
f_tests false false false false f g h = refl
f_tests false false false true false g h = refl
f_tests false false false true true g h = refl

g_tests : (a b c e f g h : Bool) → ((((not a && not b) && not c) && true) && (g && h)) && (e && f) ≡ (not (a || b || c) && (e && f && g && h))
g_tests true b c e f g h = refl
g_tests false true c e f g h = refl
g_tests false false true e f g h = refl
g_tests false false false true true true true = refl
g_tests false false false true true true false = refl
g_tests false false false true true false h = refl
g_tests false false false true false true true = refl
g_tests false false false true false true false = refl
g_tests false false false true false false h = refl
g_tests false false false false f true true = refl
g_tests false false false false f true false = refl
g_tests false false false false f false h = refl

r_tests : (a b e : Bool) → ((true && not a) && not b) && e ≡ (not (a || b) && e)
r_tests true b e = refl
r_tests false true e = refl
r_tests false false e = refl

module _ (r : Fusion) (n : ℕ) (is : n ≡ r.labels) where
  entry_tests : (s : Side) (t : ℕ × ℕ × ℕ × ℕ × ℕ × ℕ)
      → ((is_nontrivial (t.0, t.1, t.2) && true) && is_on s r (t.0, t.1, t.2, t.3) t.4) && is_on (opposite s) r (t.0, t.1, t.2, t.3) t.5 ≡ is_unknown r (entry s t)
  entry_tests Rows t = f_tests (t.0 == 0) (t.1 == 0) (t.2 == 0) (channel r t.0 t.1 t.4) (channel r t.4 t.2 t.3) (channel r t.1 t.2 t.5) (channel r t.0 t.5 t.3)
  entry_tests Columns t = g_tests (t.0 == 0) (t.1 == 0) (t.2 == 0) (channel r t.0 t.1 t.5) (channel r t.5 t.2 t.3) (channel r t.1 t.2 t.4) (channel r t.0 t.4 t.3)

  pub by_stages : (s : Side) →
      filter (λ t. ((is_nontrivial (t.0, t.1, t.2) && true) && is_on s r (t.0, t.1, t.2, t.3) t.4) && is_on (opposite s) r (t.0, t.1, t.2, t.3) t.5) (all_sixes n)
      ≡ filter (λ t. is_unknown r (entry s t)) (all_sixes r.labels)
  by_stages s = filter_agree _ (λ t. is_unknown r (entry s t)) (entry_tests s) (all_sixes n) ∙ ap (λ m. filter (λ t. is_unknown r (entry s t)) (all_sixes m)) is

  pub r_by_stages :
      filter (λ t. ((true && not (t.0 == 0)) && not (t.1 == 0)) && channel r t.0 t.1 t.2) (all_triples n)
      ≡ filter (λ t. is_unknown r (rsym t)) (all_triples r.labels)
  r_by_stages =
      filter_agree _ (λ t. is_unknown r (rsym t)) (λ t. r_tests (t.0 == 0) (t.1 == 0) (channel r t.0 t.1 t.2)) (all_triples n)
      ∙ ap (λ m. filter (λ t. is_unknown r (rsym t)) (all_triples m)) is
