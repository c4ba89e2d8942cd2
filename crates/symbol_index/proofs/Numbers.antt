-- The place of a symbol in a list of symbols in order, and what a binary search finds.
use Rattle.std.specs.Prelude.{◌≡◌, ℕ, ◌<◌, ◌⊎◌, cond, nat_lt, Some, None, Ok, Err, Result, List, length, slice_index_or, position, Contains, refl}
use Rattle.std.specs.List.{position_or_len}
use Rattle.std.specs.List.Sorted.{IsBinarySearchResult, IsNonDecreasingBy}
use Rattle.std.specs.declared.cmp.Ordering.{Ordering}
use Rattle.std.specs.declared.cmp.Ordering.TheVariants.{Less, Equal, Greater}
use Rattle.std.specs.Ordering.{ordering_index, ordering_reverse, is_eq}
use Rattle.std.proofs.Common.{arith, sym as back, ◌∙◌, ap, subst, inl, inr, lt-ltb}
use Rattle.std.proofs.lemmas.List.{get_or_default}
use Rattle.std.proofs.lemmas.List.Sums.{position_or_len_is}
use Rattle.symbol_index.specs.declared.Symbol.{Symbol}
use Rattle.symbol_index.specs.Symbols.{is_same}
use Rattle.symbol_index.specs.Order.{symbol_cmp}
use Rattle.symbol_index.proofs.Compared.{symbol_anti, symbol_itself, is_same_is}
use Rattle.symbol_index.proofs.Members.{IsBefore}
use Rattle.symbol_index.proofs.Sorted.{Sorted, sorted_at}

three_ways : (i k : ℕ) → (i < k) ⊎ ((i ≡ k) ⊎ (k < i))
three_ways i k = grind arith

module _ (us : List Symbol) (sorted : Sorted IsBefore us) (s : Symbol) (m : Contains us s) where
  at_place : (d : Symbol) → slice_index_or us m.0 d ≡ s
  at_place d = get_or_default us m.0 d s m.1 ∙ m.2

  before_place : (i : ℕ) (d : Symbol) → i < m.0 → symbol_cmp (slice_index_or us i d) s ≡ Less
  before_place i d h = subst (λ x. symbol_cmp (slice_index_or us i d) x ≡ Less) (at_place d) (sorted_at IsBefore us i m.0 d sorted h m.1)

  after_place : (i : ℕ) (d : Symbol) → m.0 < i → i < length us → symbol_cmp (slice_index_or us i d) s ≡ Greater
  after_place i d h k =
      let less : symbol_cmp s (slice_index_or us i d) ≡ Less = subst (λ x. symbol_cmp x (slice_index_or us i d) ≡ Less) (at_place d) (sorted_at IsBefore us m.0 i d sorted h k) in
      symbol_anti (slice_index_or us i d) s ∙ ap ordering_reverse less

  equal_at : (d : Symbol) → symbol_cmp (slice_index_or us m.0 d) s ≡ Equal
  equal_at d = subst (λ x. symbol_cmp x s ≡ Equal) (back (at_place d)) (symbol_itself s)

  -- the only place of s
  pub position_is : position (λ u. is_same u s) us ≡ Some m.0
  position_is =
      let e : position_or_len (λ u. is_same u s) us ≡ m.0 =
      position_or_len_is (λ u. is_same u s) us m.0 s (omega (arith, m.1))
      (λ i h. back (is_same_is (slice_index_or us i s) s) ∙ ap is_eq (before_place i s h))
      (λ h. back (is_same_is (slice_index_or us m.0 s) s) ∙ ap is_eq (equal_at s)) in
      ap (λ i. cond (nat_lt i (length us)) (Some i) None) e ∙ ap (λ b. cond b (Some m.0) None) (lt-ltb m.0 (length us) m.1)

  level : (i : ℕ) (d : Symbol) → i < length us → ((i < m.0) × (ordering_index (symbol_cmp (slice_index_or us i d) s) ≡ 0)) ⊎ (((i ≡ m.0) × (ordering_index (symbol_cmp (slice_index_or us i d) s) ≡ 1)) ⊎ ((m.0 < i) × (ordering_index (symbol_cmp (slice_index_or us i d) s) ≡ 2)))
  level i d h =
      elim (three_ways i m.0) [
        | inl k ↦ inl (k, ap ordering_index (before_place i d k))
        | inr o ↦
            elim o [
              | inl e ↦ inr (inl (e, ap ordering_index (subst (λ j. symbol_cmp (slice_index_or us j d) s ≡ Equal) (back e) (equal_at d))))
              | inr k ↦ inr (inr (k, ap ordering_index (after_place i d k h)))
            ]
      ]

  rises : IsNonDecreasingBy (λ u. ordering_index (symbol_cmp u s)) us
  rises i j d h k =
      elim (level i d (omega (arith, h, k))) [
        | inl p ↦ omega (arith, p.1)
        | inr o ↦
            elim o [
              | inl p ↦
                  elim (level j d k) [
                    | inl q ↦ absurd (omega (arith, p.0, q.0, h))
                    | inr r ↦ elim r [ inl q ↦ omega (arith, p.1, q.1) | inr q ↦ omega (arith, p.1, q.1) ]
                  ]
              | inr p ↦
                  elim (level j d k) [
                    | inl q ↦ absurd (omega (arith, p.0, q.0, h))
                    | inr r ↦ elim r [ inl q ↦ absurd (omega (arith, p.0, q.0, h)) | inr q ↦ omega (arith, p.1, q.1) ]
                  ]
            ]
      ]

  -- a binary search finds that place
  pub search_is : (r : Result ℕ ℕ) → (IsBelow : (i : ℕ) → r ≡ Ok i → i < length us) → IsBinarySearchResult (λ u. symbol_cmp u s) us r → r ≡ Ok m.0
  search_is (Ok i) b h =
      elim (three_ways i m.0) [
        | inl k ↦ absurd (cc (h s, before_place i s k))
        | inr o ↦ elim o [ inl e ↦ ap Ok e | inr k ↦ absurd (cc (h s, after_place i s k (b i refl))) ]
      ]
  search_is (Err i) b h =
      let parts = h rises in
      elim (three_ways m.0 i) [
        | inl k ↦ absurd (cc (parts.0 m.0 s (omega arith) k, equal_at s))
        | inr o ↦ absurd (cc (parts.1 m.0 s (omega (arith, o)) m.1, equal_at s))
      ]

-- a search by another function of the same answers
pub search_agrees : (f g : Symbol → Ordering) (us : List Symbol) (r : Result ℕ ℕ) → IsBinarySearchResult f us r → ((u : Symbol) → f u ≡ g u) → IsBinarySearchResult g us r
search_agrees f g us (Ok i) h e = λ d. back (e (slice_index_or us i d)) ∙ h d
search_agrees f g us (Err i) h e = λ m.
    let parts = h (λ j k d a b. let x = ap ordering_index (e (slice_index_or us j d)) in let y = ap ordering_index (e (slice_index_or us k d)) in let z = m j k d a b in omega (arith, x, y, z)) in
    (λ k d a b. back (e (slice_index_or us k d)) ∙ parts.0 k d a b, λ k d a b. back (e (slice_index_or us k d)) ∙ parts.1 k d a b)
