-- Members of lists that go on, with two more at their end among them, and of lists of which one was changed.
use Rattle.std.specs.Prelude.{◌≡◌, ◌≢◌, ◌<◌, ◌+◌, ℕ, zero, suc, List, [], ◌∷◌, ◌++◌, length, slice_get, slice_set}
use Rattle.std.specs.declared.option.Option.TheVariants.{Some}
use Rattle.std.proofs.Common.{arith, refl, sym, ap}
use Rattle.std.proofs.lemmas.Option.{none-some, same_Some}

pub get-first : {X : Type 0} (xs ys : List X) (k : ℕ) → k < length xs → slice_get (xs ++ ys) k ≡ slice_get xs k
get-first [] ys k lt = absurd (omega arith)
get-first (x ∷ xs) ys zero lt = refl
get-first (x ∷ xs) ys (suc k) lt = get-first xs ys k (omega arith)

pub get-seam : {X : Type 0} (xs : List X) (y : X) (ys : List X) (k : ℕ) → k ≡ length xs → slice_get (xs ++ y ∷ ys) k ≡ Some y
get-seam [] y ys zero e = refl
get-seam [] y ys (suc k) e = absurd (omega (arith, e))
get-seam (x ∷ xs) y ys zero e = absurd (omega (arith, e))
get-seam (x ∷ xs) y ys (suc k) e = get-seam xs y ys k (omega (arith, e))

pub get-next : {X : Type 0} (xs : List X) (y z : X) (ys : List X) (k : ℕ) → k ≡ length xs + 1 → slice_get (xs ++ y ∷ z ∷ ys) k ≡ Some z
get-next [] y z ys zero e = absurd (omega (arith, e))
get-next [] y z ys (suc zero) e = refl
get-next [] y z ys (suc (suc k)) e = absurd (omega (arith, e))
get-next (x ∷ xs) y z ys zero e = absurd (omega (arith, e))
get-next (x ∷ xs) y z ys (suc k) e = get-next xs y z ys k (omega (arith, e))

-- a member of a list with two more at its end
pub data IsOneOf {X : Type 0} (xs : List X) (y z w : X) (k : ℕ) : Type 0 where
  old : slice_get xs k ≡ Some w → IsOneOf xs y z w k
  first : k ≡ length xs → w ≡ y → IsOneOf xs y z w k
  second : k ≡ length xs + 1 → w ≡ z → IsOneOf xs y z w k

pub get-two : {X : Type 0} (xs : List X) (y z w : X) (k : ℕ) → slice_get (xs ++ y ∷ z ∷ []) k ≡ Some w → IsOneOf xs y z w k
get-two [] y z w zero e = first refl (sym (same_Some y w e))
get-two [] y z w (suc zero) e = second refl (sym (same_Some z w e))
get-two [] y z w (suc (suc k)) e = absurd (none-some w e)
get-two (x ∷ xs) y z w zero e = old e
get-two (x ∷ xs) y z w (suc k) e = go (get-two xs y z w k e)
  where
    go : IsOneOf xs y z w k → IsOneOf (x ∷ xs) y z w (suc k)
    go (old a) = old a
    go (first a b) = first (ap suc a) b
    go (second a b) = second (omega (arith, a)) b

pub get-set_other : {X : Type 0} (xs : List X) (n m : ℕ) (v : X) → m ≢ n → slice_get (slice_set xs n v) m ≡ slice_get xs m
get-set_other [] n m v ne = refl
get-set_other (x ∷ xs) zero zero v ne = absurd (ne refl)
get-set_other (x ∷ xs) zero (suc m) v ne = refl
get-set_other (x ∷ xs) (suc n) zero v ne = refl
get-set_other (x ∷ xs) (suc n) (suc m) v ne = get-set_other xs n m v (λ e. ne (ap suc e))
