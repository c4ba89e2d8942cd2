-- How many tuples a list of all tuples has, and where each stands.
use Rattle.std.specs.Prelude.{◌≡◌, ℕ, zero, suc, ◌+◌, ◌-◌, ◌*◌, ◌<◌, ◌⊎◌, Some, List, [], ◌∷◌, length, filter_map, slice_index_or, refl}
use Rattle.std.proofs.Common.{arith, sym as back, ◌∙◌, ap, subst, inl, inr}
use Rattle.std.proofs.lemmas.Grind.{rows}
use Rattle.std.proofs.lemmas.List.{length-append, get_or_append_left, get_or-append-add, get_or-append_right}
use Rattle.std.proofs.lemmas.List.Elements.{filter_map-append}
use Rattle.label_tuples.specs.Extended.{below, every, singles, pairs, triples, all_singles, all_pairs, all_triples}

pub length_below : (n : ℕ) → length (below n) ≡ n
length_below zero = refl
length_below (suc n) = length-append (below n) (n ∷ []) ∙ (let e = length_below n in omega arith)

split_below : (i n : ℕ) → i < suc n → (i < n) ⊎ (i ≡ n)
split_below i n h = grind arith

module _ {U : Type 0} (g : ℕ → U) where
  abbrev row : ℕ → List U
  row n = filter_map (λ x. Some (g x)) (below n)

  length_kept : (xs : List ℕ) → length (filter_map (λ x. Some (g x)) xs) ≡ length xs
  length_kept [] = refl
  length_kept (x ∷ xs) = ap suc (length_kept xs)

  pub length_row : (n : ℕ) → length (row n) ≡ n
  length_row n = length_kept (below n) ∙ length_below n

  pub get_row : (n x : ℕ) (d : U) → x < n → slice_index_or (row n) x d ≡ g x
  get_row zero x d h = absurd (omega (arith, h))
  get_row (suc n) x d h =
      ap (λ us. slice_index_or us x d) (filter_map-append (λ y. Some (g y)) (below n) (n ∷ []))
      ∙ elim (split_below x n h) [
        | inl i ↦ get_or_append_left (row n) (g n ∷ []) d x (let e = length_row n in omega arith) ∙ get_row n x d i
        | inr e ↦ get_or-append_right (row n) (g n ∷ []) n x d (length_row n) (omega arith) ∙ subst (λ y. slice_index_or (g n ∷ []) (y - n) d ≡ g y) (back e) (ap (λ k. slice_index_or (g n ∷ []) k d) (let z : n - n ≡ 0 = omega arith in z))
      ]

module _ {T U : Type 0} (make : T → ℕ → U) where
  pub length_every : (ts : List T) (n : ℕ) → length (every make ts n) ≡ length ts * n
  length_every [] n = let z : 0 ≡ 0 * n = grind (arith, rows) in z
  length_every (t ∷ ts) n =
      length-append (row (make t) n) (every make ts n)
      ∙ (let e = length_row (make t) n in let f = length_every ts n in grind (arith, rows))

  -- the place of a longer tuple
  pub get_every : (ts : List T) (n i x : ℕ) (e : T) (d : U) → i < length ts → x < n → slice_index_or (every make ts n) (i * n + x) d ≡ make (slice_index_or ts i e) x
  get_every [] n i x e d h k = absurd (omega (arith, h))
  get_every (t ∷ ts) n zero x e d h k =
      ap (λ j. slice_index_or (every make (t ∷ ts) n) j d) (let z : 0 * n + x ≡ x = grind (arith, rows) in z)
      ∙ get_or_append_left (row (make t) n) (every make ts n) d x (let f = length_row (make t) n in omega arith) ∙ get_row (make t) n x d k
  get_every (t ∷ ts) n (suc i) x e d h k =
      ap (λ j. slice_index_or (every make (t ∷ ts) n) j d) (let f = length_row (make t) n in let z : suc i * n + x ≡ length (row (make t) n) + (i * n + x) = grind (arith, rows) in z)
      ∙ get_or-append-add (row (make t) n) (every make ts n) (i * n + x) d
      ∙ get_every ts n i x e d (omega arith) k

length_singles : (n : ℕ) → length (all_singles n) ≡ n
length_singles n = let e = length_every singles.make (tt ∷ []) n in grind (arith, rows)

length_pairs : (n : ℕ) → length (all_pairs n) ≡ n * n
length_pairs n = length_every pairs.make (all_singles n) n ∙ ap (λ k. k * n) (length_singles n)

pub length_triples : (n : ℕ) → length (all_triples n) ≡ n * n * n
length_triples n = length_every triples.make (all_pairs n) n ∙ ap (λ k. k * n) (length_pairs n)

row_below : (i j m n : ℕ) → i < m → j < n → i * n + j < m * n
row_below i j m n h k = grind (arith, rows)

-- the place of a triple
pub get_triples : (n a b c : ℕ) (d : ℕ × ℕ × ℕ) → a < n → b < n → c < n → slice_index_or (all_triples n) ((a * n + b) * n + c) d ≡ (a, b, c)
get_triples n a b c d i j k =
    let first : slice_index_or (all_singles n) a 0 ≡ a = ap (λ p. slice_index_or (all_singles n) p 0) (let z : a ≡ 0 * n + a = grind (arith, rows) in z) ∙ get_every singles.make (tt ∷ []) n 0 a tt 0 (omega arith) i in
    let second : slice_index_or (all_pairs n) (a * n + b) (0, 0) ≡ (a, b) = get_every pairs.make (all_singles n) n a b 0 (0, 0) (let e = length_singles n in omega arith) j ∙ ap (λ x. pairs.make x b) first in
    get_every triples.make (all_pairs n) n (a * n + b) c (0, 0) d (let e = length_pairs n in let f = row_below a b n n i j in omega arith) k ∙ ap (λ t. triples.make t c) second
