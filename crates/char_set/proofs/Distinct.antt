-- Lists whose main variables differ, as far as they have been read.
use Rattle.std.specs.Prelude.{◌≡◌, ◌≢◌, ◌<◌, ◌≤◌, ℕ, zero, suc, ◌+◌, ◌⊎◌, List, [], ◌∷◌, take, slice_get, slice_index_or, length}
use mathlib.Core.Logic.{inl, inr}
use Rattle.std.proofs.Common.{arith, sym, ◌∙◌, ap}
use Rattle.std.proofs.lemmas.Option.{none-some, same_Some, slice_get_within, get_or_from_slice_get, slice_get-get_or}
use Rattle.std.specs.declared.option.Option.TheVariants.{None, Some}
use Rattle.sparse_poly.specs.declared.Term.{Term}
use Rattle.sparse_poly.specs.Reads.{main_variable, HaveMainVariables}
use Rattle.char_set.specs.Triangular.{IsMainOf}

-- among the first members none is constant, and main variables differ
pub record DifferTo (list : List (List Term)) (i : ℕ) : Type 0 where
  pub varied : (j : ℕ) (p : List Term) → j < i → slice_get list j ≡ Some p → main_variable p ≢ None
  pub apart : (j k : ℕ) (p q : List Term) → j < k → k < i → slice_get list j ≡ Some p → slice_get list k ≡ Some q → main_variable p ≢ main_variable q

pub slice_get-first : {X : Type 0} (xs : List X) (n k : ℕ) (x : X) → k < n → slice_get xs k ≡ Some x → slice_get (take n xs) k ≡ Some x
slice_get-first xs zero k x l e = absurd (omega arith)
slice_get-first [] (suc n) k x l e = absurd (none-some x e)
slice_get-first (y ∷ ys) (suc n) zero x l e = e
slice_get-first (y ∷ ys) (suc n) (suc k) x l e = slice_get-first ys n k x (omega arith) e

pub slice_get-of_first : {X : Type 0} (xs : List X) (n k : ℕ) (x : X) → slice_get (take n xs) k ≡ Some x → (k < n) × (slice_get xs k ≡ Some x)
slice_get-of_first xs zero k x e = absurd (none-some x e)
slice_get-of_first [] (suc n) k x e = absurd (none-some x e)
slice_get-of_first (y ∷ ys) (suc n) zero x e = (omega arith, e)
slice_get-of_first (y ∷ ys) (suc n) (suc k) x e = let rest = slice_get-of_first ys n k x e in (omega (arith, rest.0), rest.1)

module _ (list : List (List Term)) (i v : ℕ) (poly : List Term) (is : slice_get list i ≡ Some poly) (main : main_variable poly ≡ Some v) where
  last : (j : ℕ) → j < i + 1 → (j < i) ⊎ (j ≡ i)
  last j l = grind arith

  -- a member of another main variable is one more
  pub DifferTo-more : (IsMainOf (take i list) v → ⊥) → DifferTo list i → DifferTo list (i + 1)
  DifferTo-more new h = record { varied = varied; apart = apart }
    where
      varied : (j : ℕ) (p : List Term) → j < i + 1 → slice_get list j ≡ Some p → main_variable p ≢ None
      varied j p l e = each (last j l)
        where
          each : (j < i) ⊎ (j ≡ i) → main_variable p ≢ None
          each (inl k) = h.varied j p k e
          each (inr k) = λ n. none-some v (sym n ∙ ap main_variable (same_Some p poly (sym e ∙ ap (slice_get list) k ∙ is)) ∙ main)

      apart : (j k : ℕ) (p q : List Term) → j < k → k < i + 1 → slice_get list j ≡ Some p → slice_get list k ≡ Some q → main_variable p ≢ main_variable q
      apart j k p q lt l e f = each (last k l)
        where
          each : (k < i) ⊎ (k ≡ i) → main_variable p ≢ main_variable q
          each (inl m) = h.apart j k p q lt m e f
          each (inr m) = λ n. new (record {
            place = j;
            poly = p;
            member = slice_get-first list i j p (omega (arith, lt, m)) e;
            main = n ∙ ap main_variable (same_Some q poly (sym f ∙ ap (slice_get list) m ∙ is)) ∙ main;
          })

  -- two members of one main variable
  pub not_apart : IsMainOf (take i list) v → HaveMainVariables list → ⊥
  not_apart m h =
      let first = slice_get-of_first list i m.place m.poly m.member in
      h.apart m.place i poly first.0 (slice_get_within list i poly is) (ap main_variable (get_or_from_slice_get list m.place m.poly poly first.1) ∙ m.main ∙ sym main ∙ sym (ap main_variable (get_or_from_slice_get list i poly poly is)))

pub HaveMainVariables-all : (list : List (List Term)) (i : ℕ) → length list ≤ i → DifferTo list i → HaveMainVariables list
HaveMainVariables-all list i le h = record {
  varied = λ k d l. h.varied k (slice_index_or list k d) (omega (arith, l, le)) (slice_get-get_or list k d l);
  apart = λ j k d l m. h.apart j k (slice_index_or list j d) (slice_index_or list k d) l (omega (arith, m, le)) (slice_get-get_or list j d (omega (arith, l, m))) (slice_get-get_or list k d m);
}
