-- A field of characteristic zero: its parts, its laws, and sums, powers and whole numbers in it.
use Rattle.std.specs.Prelude.{◌≡◌, ◌≢◌, ℕ, zero, suc, ℤ, pos, negsuc, Bool, IsTrue, List, [], ◌∷◌}

-- the parts of a field over the values of E, of which only the elements count
pub record Field (E : Type 0) : Type 0 where
  pub is_element : E → Bool
  pub zero : E
  pub one : E
  pub plus : E → E → E
  pub minus : E → E
  pub times : E → E → E
  pub inverse : E → E

-- a value is an element
abbrev pub IsElement : {E : Type 0} → Field E → E → Type 0
IsElement f a = IsTrue (f.is_element a)

-- the image of a natural number, and of a whole number
abbrev pub natural : {E : Type 0} → Field E → ℕ → E
natural f zero = f.zero
natural f (suc n) = f.plus (natural f n) f.one

abbrev pub whole : {E : Type 0} → Field E → ℤ → E
whole f (pos n) = natural f n
whole f (negsuc n) = f.minus (natural f (suc n))

-- the laws, each of elements alone
pub record IsField {E : Type 0} (f : Field E) : Type 0 where
  pub zero_is : IsElement f f.zero
  pub one_is : IsElement f f.one
  pub plus_is : (a b : E) → IsElement f a → IsElement f b → IsElement f (f.plus a b)
  pub minus_is : (a : E) → IsElement f a → IsElement f (f.minus a)
  pub times_is : (a b : E) → IsElement f a → IsElement f b → IsElement f (f.times a b)
  pub inverse_is : (a : E) → IsElement f a → a ≢ f.zero → IsElement f (f.inverse a)
  pub plus_comm : (a b : E) → IsElement f a → IsElement f b → f.plus a b ≡ f.plus b a
  pub plus_assoc : (a b c : E) → IsElement f a → IsElement f b → IsElement f c → f.plus (f.plus a b) c ≡ f.plus a (f.plus b c)
  pub plus-zero : (a : E) → IsElement f a → f.plus a f.zero ≡ a
  pub plus-minus : (a : E) → IsElement f a → f.plus a (f.minus a) ≡ f.zero
  pub times_comm : (a b : E) → IsElement f a → IsElement f b → f.times a b ≡ f.times b a
  pub times_assoc : (a b c : E) → IsElement f a → IsElement f b → IsElement f c → f.times (f.times a b) c ≡ f.times a (f.times b c)
  pub times-one : (a : E) → IsElement f a → f.times a f.one ≡ a
  pub times-plus : (a b c : E) → IsElement f a → IsElement f b → IsElement f c → f.times a (f.plus b c) ≡ f.plus (f.times a b) (f.times a c)
  pub times-inverse : (a : E) → IsElement f a → a ≢ f.zero → f.times a (f.inverse a) ≡ f.one
  pub characteristic_zero : (n : ℕ) → natural f (suc n) ≢ f.zero

-- a finite sum
abbrev pub total : {E : Type 0} → Field E → List E → E
total f [] = f.zero
total f (a ∷ as') = f.plus a (total f as')

-- a power
abbrev pub power : {E : Type 0} → Field E → E → ℕ → E
power f a zero = f.one
power f a (suc n) = f.times a (power f a n)

-- each of the values is an element
abbrev pub AllElements : {E : Type 0} → Field E → List E → Type 0
AllElements f [] = Unit {0}
AllElements f (a ∷ as') = IsElement f a × AllElements f as'
