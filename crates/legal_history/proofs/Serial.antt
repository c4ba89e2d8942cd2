-- There is one complete serial history.
use Rattle.std.specs.Prelude.{◌≡◌, ◌<◌, ◌⊎◌, ℕ, List, [], ◌∷◌, ◌++◌, length}
use Rattle.std.proofs.Common.{arith, refl, sym, ap, inl, inr, subst}
use Rattle.sparse_poly.specs.declared.Term.{Term}
use Rattle.derive_lines.specs.declared.parts.Decision.{Decision}
use Rattle.refute_store.specs.Live.{IsLeastLiveWithin, IsLiveWithin}
use Rattle.refute_cert.specs.Parts.{RefutationParts}
use Rattle.leaf_cert.specs.Parts.{LeafParts}
use Rattle.leaf_cert.specs.declared.certificate.RawEntry.{RawEntry}
use Rattle.leaf_cert.specs.declared.certificate.RawEntry.TheVariants.{Split as split, Close as close}
use Rattle.case_rules.specs.Cases.{CaseState}
use Rattle.case_rules.specs.Ends.{End, IsEnd}
use Rattle.case_rules.specs.declared.outcome.Outcome.TheVariants.{Split, Dead, Leaf as leaf_end}
use Rattle.case_history.specs.History.{publish, decisions_of, patterns, IsPending, IsLeastPending, IsComplete}
use Rattle.case_rules.specs.EndLaws.{AreEndLaws}
use Rattle.legal_history.specs.Legal.{post, IsEndOf, EndsLiving, Step, closes, refutes, splits, publishes, Grows, stays, goes}
use Rattle.legal_history.proofs.Cases.{cases_fit}
use Rattle.legal_history.proofs.PlainTree.{one_case}

pub least_one : (h : List RawEntry) (n m : ℕ) → IsLeastPending h n → IsLeastPending h m → n ≡ m
least_one h n m a b =
    let t : (n ≡ m) ⊎ ((n < m) ⊎ (m < n)) = grind arith in
    elim t [ inl e ↦ e | inr u ↦ elim u [ inl lt ↦ absurd (b.least n lt a.pending) | inr gt ↦ absurd (a.least m gt b.pending) ] ]

pub live_one : (ps : List (List Decision)) (ds : List Decision) (n m : ℕ) → IsLeastLiveWithin ps ds n → IsLeastLiveWithin ps ds m → n ≡ m
live_one ps ds n m a b =
    let t : (n ≡ m) ⊎ ((n < m) ⊎ (m < n)) = grind arith in
    elim t [ inl e ↦ e | inr u ↦ elim u [ inl lt ↦ absurd (b.least n lt a.live) | inr gt ↦ absurd (a.least m gt b.live) ] ]

-- more steps may be taken where more cases may be next
pub step_wider : (root : List (List Term)) (budget : ℕ) (next wider : List RawEntry → ℕ → Type 0) → ((h : List RawEntry) (n : ℕ) → next h n → wider h n) → (h k : List RawEntry) → Step root budget next h k → Step root budget wider h k
step_wider root budget next wider w h k (closes n j p l) = closes n j (w h n p) l
step_wider root budget next wider w h k (refutes n r p e) = refutes n r (w h n p) e
step_wider root budget next wider w h k (splits n by z x p e) = splits n by z x (w h n p) e
step_wider root budget next wider w h k (publishes n l p e) = publishes n l (w h n p) e

pub grows_wider : (root : List (List Term)) (budget : ℕ) (next wider : List RawEntry → ℕ → Type 0) → ((h : List RawEntry) (n : ℕ) → next h n → wider h n) → (base h : List RawEntry) → Grows root budget next base h → Grows root budget wider base h
grows_wider root budget next wider w base h stays = stays
grows_wider root budget next wider w base h (goes before after g s) = goes before after (grows_wider root budget next wider w base before g) (step_wider root budget next wider w before after s)

-- a history that grows begins with its base
pub grows_more : (root : List (List Term)) (budget : ℕ) (next : List RawEntry → ℕ → Type 0) (base h : List RawEntry) → Grows root budget next base h → (more : List RawEntry) × (h ≡ more ++ base)
grows_more root budget next base h stays = ([], refl)
grows_more root budget next base h (goes before after g (closes n k p l)) = let m = grows_more root budget next base before g in (close n k ∷ m.0, ap (λ (x : List RawEntry). close n k ∷ x) m.1)
grows_more root budget next base h (goes before after g (refutes n r p e)) = let m = grows_more root budget next base before g in (close n (length (patterns before)) ∷ post r ∷ m.0, ap (λ (x : List RawEntry). close n (length (patterns before)) ∷ post r ∷ x) m.1)
grows_more root budget next base h (goes before after g (splits n by z x p e)) = let m = grows_more root budget next base before g in (split n by ∷ m.0, ap (λ (x : List RawEntry). split n by ∷ x) m.1)
grows_more root budget next base h (goes before after g (publishes n l p e)) = let m = grows_more root budget next base before g in (publish n l ∷ m.0, ap (λ (x : List RawEntry). publish n l ∷ x) m.1)

-- one growth after another
pub grows_on : (root : List (List Term)) (budget : ℕ) (next : List RawEntry → ℕ → Type 0) → (a b c : List RawEntry) → Grows root budget next a b → Grows root budget next b c → Grows root budget next a c
grows_on root budget next a b c f stays = f
grows_on root budget next a b c f (goes before after g s) = goes before after (grows_on root budget next a b before f g) s

pub front : (root : List (List Term)) (budget : ℕ) (next : List RawEntry → ℕ → Type 0) → (a c : List RawEntry) → Grows root budget next a c → (a ≡ c) ⊎ ((b : List RawEntry) × Step root budget next a b × Grows root budget next b c)
front root budget next a c stays = inl refl
front root budget next a c (goes before after g s) = elim (front root budget next a before g) [
  | inl e ↦ inr (after, subst (λ (h : List RawEntry). Step root budget next h after) (sym e) s, stays)
  | inr f ↦ inr (f.0, f.1, goes before after f.2 s)
]

module _ (root : List (List Term)) (budget : ℕ) (laws : AreEndLaws root budget) where
  pub end_one : (h : List RawEntry) (n m : ℕ) (o p : End) → n ≡ m → EndsLiving root budget h n o → EndsLiving root budget h m p → o ≡ p
  end_one h n m o p same a b =
      let a' : IsEndOf root budget h m o = subst (λ (i : ℕ). IsEndOf root budget h i o) same a.is_end in
      laws.one b.is_end.c o p (cases_fit root budget laws h b.is_end.is_case.cases m b.is_end.c b.is_end.is_case.are b.is_end.is_case.is).belongs (subst (λ (c : CaseState). IsEnd root budget c o) (one_case root budget laws h m a'.c b.is_end.c a'.is_case b.is_end.is_case) a'.is_end) b.is_end.is_end

  none_least : (h : List RawEntry) (n m k : ℕ) (o : End) → n ≡ m → IsLeastLiveWithin (patterns h) (decisions_of h n) k → EndsLiving root budget h m o → ⊥
  none_least h n m k o same l e = e.none k (subst (λ (i : ℕ). IsLiveWithin (patterns h) (decisions_of h i) k) same l.live)

  dead_end_is : (a b : RefutationParts) → ◌≡◌ {A = End} (Dead a) (Dead b) → a ≡ b
  dead_end_is a b e = cc

  leaf_end_is : (a b : LeafParts) → ◌≡◌ {A = End} (leaf_end a) (leaf_end b) → a ≡ b
  leaf_end_is a b e = cc

  module _ (next : List RawEntry → ℕ → Type 0) (next_one : (h : List RawEntry) (n m : ℕ) → next h n → next h m → n ≡ m) where
    step_one : (h k l : List RawEntry) → Step root budget next h k → Step root budget next h l → k ≡ l
    step_one h k l (closes n i p a) (closes m j q b) =
        let same = next_one h n m p q in
        let k_is : i ≡ j = live_one (patterns h) (decisions_of h m) i j (subst (λ (x : ℕ). IsLeastLiveWithin (patterns h) (decisions_of h x) i) same a) b in
        rw (same, k_is) refl
    step_one h k l (closes n i p a) (refutes m r q b) = absurd (none_least h n m i (Dead r) (next_one h n m p q) a b)
    step_one h k l (closes n i p a) (splits m by z x q b) = absurd (none_least h n m i (Split by z x) (next_one h n m p q) a b)
    step_one h k l (closes n i p a) (publishes m y q b) = absurd (none_least h n m i (leaf_end y) (next_one h n m p q) a b)
    step_one h k l (refutes n r p a) (closes m j q b) = absurd (none_least h m n j (Dead r) (next_one h m n q p) b a)
    step_one h k l (refutes n r p a) (refutes m s q b) =
        let same = next_one h n m p q in
        let r_is : r ≡ s = dead_end_is r s (end_one h n m _ _ same a b) in
        rw (same, r_is) refl
    step_one h k l (refutes n r p a) (splits m by z x q b) = let e = end_one h n m _ _ (next_one h n m p q) a b in cc
    step_one h k l (refutes n r p a) (publishes m y q b) = let e = end_one h n m _ _ (next_one h n m p q) a b in cc
    step_one h k l (splits n by z x p a) (closes m j q b) = absurd (none_least h m n j (Split by z x) (next_one h m n q p) b a)
    step_one h k l (splits n by z x p a) (refutes m s q b) = let e = end_one h n m _ _ (next_one h n m p q) a b in cc
    step_one h k l (splits n by z x p a) (splits m by' z' x' q b) =
        let same = next_one h n m p q in
        let e = end_one h n m _ _ same a b in
        let by_is : by ≡ by' = cc in
        rw (same, by_is) refl
    step_one h k l (splits n by z x p a) (publishes m y q b) = let e = end_one h n m _ _ (next_one h n m p q) a b in cc
    step_one h k l (publishes n w p a) (closes m j q b) = absurd (none_least h m n j (leaf_end w) (next_one h m n q p) b a)
    step_one h k l (publishes n w p a) (refutes m s q b) = let e = end_one h n m _ _ (next_one h n m p q) a b in cc
    step_one h k l (publishes n w p a) (splits m by z x q b) = let e = end_one h n m _ _ (next_one h n m p q) a b in cc
    step_one h k l (publishes n w p a) (publishes m y q b) =
        let same = next_one h n m p q in
        let l_is : w ≡ y = leaf_end_is w y (end_one h n m _ _ same a b) in
        rw (same, l_is) refl

    -- of two growths from one base one is the beginning of the other
    comparable : (base a b : List RawEntry) → Grows root budget next base a → Grows root budget next base b → Grows root budget next a b ⊎ Grows root budget next b a
    comparable base a b stays g = inl g
    comparable base a b (goes before after f s) g = elim (comparable base before b f g) [
      | inl on ↦ elim (front root budget next before b on) [
        | inl e ↦ inr (subst (λ (h : List RawEntry). Grows root budget next h after) e (goes before after stays s))
        | inr t ↦ inl (subst (λ (h : List RawEntry). Grows root budget next h b) (step_one before t.0 after t.1 s) t.2)
      ]
      | inr back ↦ inr (goes before after back s)
    ]

    module _ (is_pending : (h : List RawEntry) (n : ℕ) → next h n → IsPending h n) where
      step_pending : (h k : List RawEntry) → Step root budget next h k → IsComplete h → ⊥
      step_pending h k (closes n j p l) complete = complete n (is_pending h n p)
      step_pending h k (refutes n r p e) complete = complete n (is_pending h n p)
      step_pending h k (splits n by z x p e) complete = complete n (is_pending h n p)
      step_pending h k (publishes n l p e) complete = complete n (is_pending h n p)

      -- there is one complete growth
      pub complete_one : (base a b : List RawEntry) → Grows root budget next base a → Grows root budget next base b → IsComplete a → IsComplete b → a ≡ b
      complete_one base a b f g done ended = elim (comparable base a b f g) [
        | inl on ↦ elim (front root budget next a b on) [ inl e ↦ e | inr t ↦ absurd (step_pending a t.0 t.1 done) ]
        | inr on ↦ elim (front root budget next b a on) [ inl e ↦ sym e | inr t ↦ absurd (step_pending b t.0 t.1 ended) ]
      ]
