-- Which symbols the lists of all symbols and of the unknowns have, and that they ascend.
use Rattle.std.specs.Prelude.{◌≡◌, ℕ, true, ◌&&◌, not, IsTrue, List, ◌++◌, map, Contains, refl}
use Rattle.std.specs.declared.cmp.Ordering.TheVariants.{Less}
use Rattle.std.proofs.Common.{sym as back, ◌∙◌, subst, append_assoc}
use Rattle.std.proofs.lemmas.List.Elements.{Contains-append_left, Contains-append_right, Contains-append_cases}
use Rattle.std.proofs.Common.{inl, inr}
use Rattle.label_tuples.specs.Extended.{all_triples, all_sixes}
use Rattle.label_tuples.specs.Order.{Before3, Before6}
use Rattle.label_tuples.proofs.Least.{all_triples_ascending, all_sixes_ascending}
use Rattle.label_tuples.proofs.Members.{triples_contain, sixes_contain}
use Rattle.fusion_ring.specs.Fusion.{Fusion, channel}
use Rattle.fusion_ring.proofs.Channels.{and_left, and_right, first_below, second_below, channel_below}
use Rattle.symbol_index.specs.declared.Symbol.{Symbol}
use Rattle.symbol_index.specs.declared.Symbol.TheVariants.{Fsym, Ginv, Rsym, Sinv}
use Rattle.symbol_index.specs.Symbols.{is_admissible, has_unit, is_unknown, fsym, ginv, rsym, sinv, all_symbols, unknowns}
use Rattle.symbol_index.specs.Order.{cmp3, cmp6, symbol_cmp}
use Rattle.symbol_index.proofs.Compared.{less3, less6}
use Rattle.symbol_index.proofs.Sorted.{Sorted, sorted_from_ascending, sorted_append, sorted_map, sorted_filter, contains_map, map_contains, contains_filter, filter_contains}

abbrev pub IsBefore : Symbol → Symbol → Type 0
IsBefore s t = symbol_cmp s t ≡ Less

-- ---- the lists ascend
sixes_sorted : (n : ℕ) → Sorted (λ t u. cmp6 t u ≡ Less) (all_sixes n)
sixes_sorted n = sorted_from_ascending (λ t u. cmp6 t u ≡ Less) Before6 less6 (all_sixes n) (all_sixes_ascending n)

triples_sorted : (n : ℕ) → Sorted (λ t u. cmp3 t u ≡ Less) (all_triples n)
triples_sorted n = sorted_from_ascending (λ t u. cmp3 t u ≡ Less) Before3 less3 (all_triples n) (all_triples_ascending n)

module _ {T U : Type 0} (f : T → Symbol) (g : U → Symbol) (before : (t : T) (u : U) → IsBefore (f t) (g u)) where
  before_map : (ts : List T) (us : List U) (x y : Symbol) → Contains (map f ts) x → Contains (map g us) y → IsBefore x y
  before_map ts us x y h k =
      let r = contains_map f ts x h in
      let s = contains_map g us y k in
      subst (λ z. IsBefore z y) r.1.1 (subst (λ z. IsBefore (f r.0) z) s.1.1 (before r.0 s.0))

abbrev fs : ℕ → List Symbol
fs n = map fsym (all_sixes n)

abbrev gs : ℕ → List Symbol
gs n = map ginv (all_sixes n)

abbrev rs : ℕ → List Symbol
rs n = map rsym (all_triples n)

abbrev ss : ℕ → List Symbol
ss n = map sinv (all_triples n)

pub all_symbols_is : (n : ℕ) → all_symbols n ≡ fs n ++ (gs n ++ (rs n ++ ss n))
all_symbols_is n = append_assoc (fs n ++ gs n) (rs n) (ss n) ∙ append_assoc (fs n) (gs n) (rs n ++ ss n)

all_sorted : (n : ℕ) → Sorted IsBefore (fs n ++ (gs n ++ (rs n ++ ss n)))
all_sorted n =
    let all_f = sorted_map fsym (λ t u. cmp6 t u ≡ Less) IsBefore (λ t u h. h) (all_sixes n) (sixes_sorted n) in
    let all_g = sorted_map ginv (λ t u. cmp6 t u ≡ Less) IsBefore (λ t u h. h) (all_sixes n) (sixes_sorted n) in
    let all_r = sorted_map rsym (λ t u. cmp3 t u ≡ Less) IsBefore (λ t u h. h) (all_triples n) (triples_sorted n) in
    let all_s = sorted_map sinv (λ t u. cmp3 t u ≡ Less) IsBefore (λ t u h. h) (all_triples n) (triples_sorted n) in
    let rest = sorted_append IsBefore (rs n) (ss n) all_r all_s (before_map rsym sinv (λ t u. refl) (all_triples n) (all_triples n)) in
    let more =
    sorted_append IsBefore (gs n) (rs n ++ ss n) all_g rest
    (λ x y h k. elim (Contains-append_cases (rs n) (ss n) y k) [
      | inl m ↦ before_map ginv rsym (λ t u. refl) (all_sixes n) (all_triples n) x y h m
      | inr m ↦ before_map ginv sinv (λ t u. refl) (all_sixes n) (all_triples n) x y h m
    ]) in
    sorted_append IsBefore (fs n) (gs n ++ (rs n ++ ss n)) all_f more
    (λ x y h k. elim (Contains-append_cases (gs n) (rs n ++ ss n) y k) [
      | inl m ↦ before_map fsym ginv (λ t u. refl) (all_sixes n) (all_sixes n) x y h m
      | inr i ↦ elim (Contains-append_cases (rs n) (ss n) y i) [
        | inl m ↦ before_map fsym rsym (λ t u. refl) (all_sixes n) (all_triples n) x y h m
        | inr m ↦ before_map fsym sinv (λ t u. refl) (all_sixes n) (all_triples n) x y h m
      ]
    ])

pub unknowns_sorted : (r : Fusion) → Sorted IsBefore (unknowns r)
unknowns_sorted r = sorted_filter IsBefore (is_unknown r) (all_symbols r.labels) (subst (λ xs. Sorted IsBefore xs) (back (all_symbols_is r.labels)) (all_sorted r.labels))

-- ---- an admissible symbol is one of all symbols
module _ (r : Fusion) (a b c d e f : ℕ) (h : IsTrue (channel r a b e && channel r e c d && channel r b c f && channel r a f d)) where
  sixes_have : Contains (all_sixes r.labels) (a, b, c, d, e, f) × Contains (all_sixes r.labels) (a, b, c, d, f, e)
  sixes_have =
      let three = channel r a b e && channel r e c d && channel r b c f in
      let two = channel r a b e && channel r e c d in
      let to_three = and_left three (channel r a f d) h in
      let to_two = and_left two (channel r b c f) to_three in
      let abe = and_left (channel r a b e) (channel r e c d) to_two in
      let ecd = and_right (channel r a b e) (channel r e c d) to_two in
      let bcf = and_right two (channel r b c f) to_three in
      let n = r.labels in
      let a_in = first_below r a b e abe in
      let b_in = second_below r a b e abe in
      let e_in = channel_below r a b e abe in
      let c_in = second_below r e c d ecd in
      let d_in = channel_below r e c d ecd in
      let f_in = channel_below r b c f bcf in
      (sixes_contain n a b c d e f a_in b_in c_in d_in e_in f_in, sixes_contain n a b c d f e a_in b_in c_in d_in f_in e_in)

triples_have : (r : Fusion) (a b c : ℕ) → IsTrue (channel r a b c) → Contains (all_triples r.labels) (a, b, c)
triples_have r a b c h = triples_contain r.labels a b c (first_below r a b c h) (second_below r a b c h) (channel_below r a b c h)

parts_contain : (r : Fusion) (s : Symbol) → IsTrue (is_admissible r s) → Contains (fs r.labels ++ (gs r.labels ++ (rs r.labels ++ ss r.labels))) s
parts_contain r (Fsym a b c d e f) h =
    let n = r.labels in
    Contains-append_left (fs n) (gs n ++ (rs n ++ ss n)) (Fsym a b c d e f) (map_contains fsym (all_sixes n) (a, b, c, d, e, f) (sixes_have r a b c d e f h).0)
parts_contain r (Ginv a b c d f e) h =
    let n = r.labels in
    Contains-append_right (fs n) (gs n ++ (rs n ++ ss n)) (Ginv a b c d f e)
    (Contains-append_left (gs n) (rs n ++ ss n) (Ginv a b c d f e) (map_contains ginv (all_sixes n) (a, b, c, d, f, e) (sixes_have r a b c d e f h).1))
parts_contain r (Rsym a b c) h =
    let n = r.labels in
    Contains-append_right (fs n) (gs n ++ (rs n ++ ss n)) (Rsym a b c)
    (Contains-append_right (gs n) (rs n ++ ss n) (Rsym a b c)
    (Contains-append_left (rs n) (ss n) (Rsym a b c) (map_contains rsym (all_triples n) (a, b, c) (triples_have r a b c h))))
parts_contain r (Sinv a b c) h =
    let n = r.labels in
    Contains-append_right (fs n) (gs n ++ (rs n ++ ss n)) (Sinv a b c)
    (Contains-append_right (gs n) (rs n ++ ss n) (Sinv a b c)
    (Contains-append_right (rs n) (ss n) (Sinv a b c) (map_contains sinv (all_triples n) (a, b, c) (triples_have r a b c h))))

all_contain : (r : Fusion) (s : Symbol) → IsTrue (is_admissible r s) → Contains (all_symbols r.labels) s
all_contain r s h = subst (λ xs. Contains xs s) (back (all_symbols_is r.labels)) (parts_contain r s h)

-- the list of the unknowns has exactly the symbols that are unknown
pub unknowns_contain : (r : Fusion) (s : Symbol) → is_unknown r s ≡ true → Contains (unknowns r) s
unknowns_contain r s h = filter_contains IsBefore (is_unknown r) (all_symbols r.labels) s (all_contain r s (and_right (not (has_unit s)) (is_admissible r s) h)) h

pub contains_unknowns : (r : Fusion) (s : Symbol) → Contains (unknowns r) s → is_unknown r s ≡ true
contains_unknowns r s h = (contains_filter IsBefore (is_unknown r) (all_symbols r.labels) s h).1
