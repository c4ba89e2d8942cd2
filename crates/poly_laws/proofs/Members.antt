-- Members of a list with a first element.
use Rattle.std.specs.Prelude.{◌≡◌, zero, suc, List, [], ◌∷◌, refl}
use mathlib.Core.Logic.{◌⊎◌, inl, inr}
use Rattle.std.proofs.Common.{arith}
use Rattle.std.proofs.lemmas.List.Elements.{Contains-append_left, Contains-append_right, Contains-append_cases}
use Rattle.std.specs.List.{Contains}

pub first_member : {X : Type 0} → (x : X) (xs : List X) → Contains (x ∷ xs) x
first_member x xs = Contains-append_left (x ∷ []) xs x (0, omega arith, refl)

pub later_member : {X : Type 0} → (x y : X) (xs : List X) → Contains xs y → Contains (x ∷ xs) y
later_member x y xs h = Contains-append_right (x ∷ []) xs y h

pub member_cases : {X : Type 0} → (x y : X) (xs : List X) → Contains (x ∷ xs) y → (x ≡ y) ⊎ Contains xs y
member_cases x y xs h = each (Contains-append_cases (x ∷ []) xs y h)
  where
    one : Contains (x ∷ []) y → x ≡ y
    one (zero, l, e) = e
    one (suc k, l, e) = absurd (omega (arith, l))

    each : Contains (x ∷ []) y ⊎ Contains xs y → (x ≡ y) ⊎ Contains xs y
    each (inl h) = inl (one h)
    each (inr h) = inr h

pub no_member : {X : Type 0} → (y : X) → Contains [] y → ⊥
no_member y h = absurd (omega (arith, h.1))
