-- The list of the unknowns, from the lists of the labels of each kind.
use Rattle.std.specs.Prelude.{◌≡◌, ℕ, ◌+◌, ◌*◌, List, [], ◌++◌, map, filter, length}
use Rattle.std.proofs.Common.{arith, sym as back, ◌∙◌, ap}
use Rattle.std.proofs.lemmas.List.{length-append, length-map}
use Rattle.std.proofs.lemmas.List.Elements.{filter-append}
use Rattle.label_tuples.specs.Extended.{all_triples, all_sixes}
use Rattle.fusion_ring.specs.Fusion.{Fusion}
use Rattle.symbol_index.specs.declared.Symbol.{Symbol}
use Rattle.symbol_index.specs.Symbols.{is_unknown, fsym, ginv, rsym, sinv, unknowns}
use Rattle.symbol_index.proofs.Sorted.{filter-map}

module _ (r : Fusion) where
  abbrev pub unknown_fs : List (ℕ × ℕ × ℕ × ℕ × ℕ × ℕ)
  unknown_fs = filter (λ t. is_unknown r (fsym t)) (all_sixes r.labels)

  abbrev pub unknown_gs : List (ℕ × ℕ × ℕ × ℕ × ℕ × ℕ)
  unknown_gs = filter (λ t. is_unknown r (ginv t)) (all_sixes r.labels)

  abbrev pub unknown_rs : List (ℕ × ℕ × ℕ)
  unknown_rs = filter (λ t. is_unknown r (rsym t)) (all_triples r.labels)

  joined : (a b c d a' b' c' d' : List Symbol) → a ≡ a' → b ≡ b' → c ≡ c' → d ≡ d' → ((a ++ b) ++ c) ++ d ≡ ((a' ++ b') ++ c') ++ d'
  joined a b c d a' b' c' d' e f g h = cc

  pub unknowns_is : unknowns r ≡ ((map fsym unknown_fs ++ map ginv unknown_gs) ++ map rsym unknown_rs) ++ map sinv unknown_rs
  unknowns_is =
      let p = is_unknown r in
      let n = r.labels in
      filter-append p ((map fsym (all_sixes n) ++ map ginv (all_sixes n)) ++ map rsym (all_triples n)) (map sinv (all_triples n))
      ∙ ap (λ xs. xs ++ filter p (map sinv (all_triples n))) (filter-append p (map fsym (all_sixes n) ++ map ginv (all_sixes n)) (map rsym (all_triples n))
      ∙ ap (λ xs. xs ++ filter p (map rsym (all_triples n))) (filter-append p (map fsym (all_sixes n)) (map ginv (all_sixes n))))
      ∙ joined _ _ _ _ _ _ _ _ (filter-map fsym p (all_sixes n)) (filter-map ginv p (all_sixes n)) (filter-map rsym p (all_triples n)) (filter-map sinv p (all_triples n))

  module _ (f g : List (ℕ × ℕ × ℕ × ℕ × ℕ × ℕ)) (rs : List (ℕ × ℕ × ℕ)) (f_is : f ≡ unknown_fs) (g_is : g ≡ unknown_gs) (rs_is : rs ≡ unknown_rs) where
    all_is : ((map fsym f ++ map ginv g) ++ map rsym rs) ++ map sinv rs ≡ unknowns r
    all_is = joined _ _ _ _ _ _ _ _ (ap (map fsym) f_is) (ap (map ginv) g_is) (ap (map rsym) rs_is) (ap (map sinv) rs_is) ∙ back unknowns_is

    pub length_is : length f + length g + 2 * length rs ≡ length (unknowns r)
    length_is =
        let all = ap length all_is in
        let a = length-append ((map fsym f ++ map ginv g) ++ map rsym rs) (map sinv rs) in
        let b = length-append (map fsym f ++ map ginv g) (map rsym rs) in
        let c = length-append (map fsym f) (map ginv g) in
        let d = length-map f fsym in
        let e = length-map g ginv in
        let h = length-map rs rsym in
        let i = length-map rs sinv in
        omega arith

    pub list_is : (l0 l1 l2 l3 l4 : List Symbol) → l0 ≡ [] → l1 ≡ l0 ++ map fsym f → l2 ≡ l1 ++ map ginv g → l3 ≡ l2 ++ map rsym rs → l4 ≡ l3 ++ map sinv rs → l4 ≡ unknowns r
    list_is l0 l1 l2 l3 l4 e0 e1 e2 e3 e4 =
        e4 ∙ ap (λ xs. xs ++ map sinv rs) (e3 ∙ ap (λ xs. xs ++ map rsym rs) (e2 ∙ ap (λ xs. xs ++ map ginv g) (e1 ∙ ap (λ xs. xs ++ map fsym f) e0))) ∙ all_is
