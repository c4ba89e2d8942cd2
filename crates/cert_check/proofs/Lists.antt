-- Members of a list of which one was changed, and lists that are cut at two places.
use Rattle.std.specs.Prelude.{◌≡◌, ◌≢◌, ◌<◌, ℕ, zero, suc, List, [], ◌∷◌, ◌++◌, length, slice_get, slice_set}
use Rattle.std.specs.declared.option.Option.TheVariants.{Some}
use Rattle.std.proofs.Common.{arith, refl, sym, ap}

pub get-set_same : {X : Type 0} (xs : List X) (n : ℕ) (v : X) → n < length xs → slice_get (slice_set xs n v) n ≡ Some v
get-set_same [] n v lt = absurd (omega arith)
get-set_same (x ∷ xs) zero v lt = refl
get-set_same (x ∷ xs) (suc n) v lt = get-set_same xs n v (omega arith)

pub get-set_other : {X : Type 0} (xs : List X) (n m : ℕ) (v : X) → m ≢ n → slice_get (slice_set xs n v) m ≡ slice_get xs m
get-set_other [] n m v ne = refl
get-set_other (x ∷ xs) zero zero v ne = absurd (ne refl)
get-set_other (x ∷ xs) zero (suc m) v ne = refl
get-set_other (x ∷ xs) (suc n) zero v ne = refl
get-set_other (x ∷ xs) (suc n) (suc m) v ne = get-set_other xs n m v (λ e. ne (ap suc e))

-- of two cuts of one list, each at a member, both are the same, or one comes before the other
pub data AreCuts {X : Type 0} (xs : List X) (x : X) (ys : List X) (y : X) : Type 0 where
  same : xs ≡ ys → x ≡ y → AreCuts xs x ys y
  before : (zs : List X) → ys ≡ xs ++ x ∷ zs → AreCuts xs x ys y
  after : (zs : List X) → xs ≡ ys ++ y ∷ zs → AreCuts xs x ys y

heads : {X : Type 0} (x y : X) (us vs : List X) → x ∷ us ≡ y ∷ vs → x ≡ y
heads x y us vs e = cc

tails : {X : Type 0} (x y : X) (us vs : List X) → x ∷ us ≡ y ∷ vs → us ≡ vs
tails x y us vs e = cc

with_head : {X : Type 0} (x y : X) (us vs : List X) → x ≡ y → us ≡ vs → x ∷ us ≡ y ∷ vs
with_head x y us vs e f = cc

pub cuts : {X : Type 0} (xs : List X) (x : X) (us ys : List X) (y : X) (vs : List X) → xs ++ x ∷ us ≡ ys ++ y ∷ vs → AreCuts xs x ys y
cuts [] x us [] y vs e = same refl (heads x y us vs e)
cuts [] x us (b ∷ ys) y vs e = before ys (with_head b x ys ys (sym (heads x b us (ys ++ y ∷ vs) e)) refl)
cuts (a ∷ xs) x us [] y vs e = after xs (with_head a y xs xs (heads a y (xs ++ x ∷ us) vs e) refl)
cuts (a ∷ xs) x us (b ∷ ys) y vs e = go (cuts xs x us ys y vs (tails a b (xs ++ x ∷ us) (ys ++ y ∷ vs) e))
  where
    first : a ≡ b
    first = heads a b (xs ++ x ∷ us) (ys ++ y ∷ vs) e

    go : AreCuts xs x ys y → AreCuts (a ∷ xs) x (b ∷ ys) y
    go (same p q) = same (with_head a b xs ys first p) q
    go (before zs p) = before zs (with_head b a ys (xs ++ x ∷ zs) (sym first) p)
    go (after zs p) = after zs (with_head a b xs (ys ++ y ∷ zs) first p)
