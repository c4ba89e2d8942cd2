-- The ring that a list of all products states.
use Rattle.std.specs.Prelude.{◌≡◌, ◌↔◌, ◌<◌, ℕ, IsTrue, Some, [], Contains, filter_map, refl}
use Rattle.std.proofs.Common.{sym, ◌∙◌, ap, subst, inl, inr}
use Rattle.label_tuples.specs.Extended.{below, all_singles}
use Rattle.label_tuples.proofs.Members.{below_contains, contains_flat_map, flat_map_contains, contains_filter_map, filter_map_contains, singles_contain}
use Rattle.fusion_ring.specs.declared.Triple.{Triple}
use Rattle.fusion_ring.specs.Fusion.{Fusion, channel}
use Rattle.fusion_ring.specs.Listed.{IsUnitProduct, IsStatedProduct}
use Rattle.fusion_ring.specs.Faults.{IsRingOf}
use Rattle.ring_file.specs.Problems.{Stated}
use Rattle.ring_make.specs.Made.{all_products, IsPointed}

module _ (n : ℕ) (product : ℕ → ℕ → ℕ) where
  abbrev of_pair : ℕ → ℕ → Triple
  of_pair a b = record { a = a; b = b; c = product a b }

  is_product : (t u : Triple) → Some t ≡ Some u → t.c ≡ product t.a t.b → u.c ≡ product u.a u.b
  is_product t u e h = subst (λ (v : Triple). v.c ≡ product v.a v.b) (cc e) h

  listed : (u : Triple) → Contains (all_products product n) u → u.c ≡ product u.a u.b
  listed u h =
      let r = contains_flat_map (λ t. filter_map (λ y. Some (of_pair t y)) (below n)) (all_singles n) u h in
      let s = contains_filter_map (λ y. Some (of_pair r.0 y)) (below n) u r.1.1 in
      is_product (of_pair r.0 s.0) u s.1.1 refl

  all_listed : (a b : ℕ) → a < n → b < n → Contains (all_products product n) (of_pair a b)
  all_listed a b h k =
      flat_map_contains (λ t. filter_map (λ y. Some (of_pair t y)) (below n)) (all_singles n) a (of_pair a b) (singles_contain n a h)
      (filter_map_contains (λ y. Some (of_pair a y)) (below n) b (of_pair a b) (below_contains n b k) refl)

  module _ (left : (b : ℕ) → b < n → product 0 b ≡ b) (right : (a : ℕ) → a < n → product a 0 ≡ a) where
    unit_product : (t : Triple) → IsUnitProduct n t → t.c ≡ product t.a t.b
    unit_product t (inl u) = u.2 ∙ sym (left t.b u.1) ∙ ap (λ a. product a t.b) (sym u.0)
    unit_product t (inr u) = u.2 ∙ sym (right t.a u.1) ∙ ap (λ b. product t.a b) (sym u.0)

    stated_product : (t : Triple) → IsStatedProduct n (all_products product n) t → t.c ≡ product t.a t.b
    stated_product t (inl h) = listed t h
    stated_product t (inr u) = unit_product t u

    pub pointed : (p : Stated) → ((t : Triple) → IsTrue (channel p.ring t.a t.b t.c) ↔ IsStatedProduct n (all_products product n) t) → IsRingOf n (all_products product n) p.ring → p.gauge ≡ [] → IsPointed n product p
    pointed p law is none = record {
      labels = ap (λ (r : Fusion). r.labels) is.is_stated;
      products = λ a b c h k. (
        λ i. stated_product (record { a = a; b = b; c = c }) ((law (record { a = a; b = b; c = c })).0 i),
        λ e. (law (record { a = a; b = b; c = c })).1 (inl (subst (λ (x : ℕ). Contains (all_products product n) (record { a = a; b = b; c = x })) (sym e) (all_listed a b h k))),
      );
      no_gauge = none;
      ring = is;
    }
