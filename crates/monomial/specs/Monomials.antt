-- A monomial: a finite map from variables to exponents of at least 1, as its powers from the greatest variable down.
use Rattle.std.specs.Prelude.{◌≡◌, ◌<◌, ◌≤◌, ℕ, ◌+◌, ◌-◌, ◌^◌, Bool, true, false, if◌then◌else◌, nat_lt, ◌==◌, List, [], ◌∷◌}
use Rattle.std.specs.List.{AllByRecursion}
use Rattle.std.specs.declared.option.Option.{Option}
use Rattle.std.specs.declared.option.Option.TheVariants.{None, Some}
use Rattle.std.specs.Ordering.{ordering_then, nat_cmp}
use Rattle.std.specs.FinMap.Entries.{by_order}
use Rattle.std.specs.declared.cmp.Ordering.{Ordering}
use Rattle.std.specs.Cmp.Lexicographic.{slice_cmp}
use Rattle.monomial.specs.declared.MonoFault.{MonoFault}
use Rattle.monomial.specs.declared.MonoFault.TheVariants.{Degree, OutOfMemory}

-- the order of powers: by their variables, then by their exponents
abbrev pub power_cmp : ℕ × ℕ → ℕ × ℕ → Ordering
power_cmp p q = ordering_then (nat_cmp p.0 q.0) (nat_cmp p.1 q.1)

-- the order of monomials: power by power from the greatest variable down, and a proper prefix is below the longer list
abbrev pub monomial_cmp : List (ℕ × ℕ) → List (ℕ × ℕ) → Ordering
monomial_cmp = slice_cmp power_cmp

-- the exponent of a variable
abbrev pub exponent : List (ℕ × ℕ) → ℕ → ℕ
exponent [] v = 0
exponent (p ∷ ps) v = if p.0 == v then p.1 else exponent ps v

-- at the greatest variable in which the exponents differ, a has the smaller one
pub record IsLower (a b : List (ℕ × ℕ)) : Type 0 where
  pub at : ℕ
  pub smaller : exponent a at < exponent b at
  pub same : (w : ℕ) → at < w → exponent a w ≡ exponent b w

-- v is the greatest variable at which f, as the exponents of a monomial, is above n
pub record IsGreatestAbove (n : ℕ) (f : ℕ → ℕ) (v : ℕ) : Type 0 where
  pub above : n < f v
  pub greatest : (w : ℕ) → v < w → f w ≤ n

-- the greatest variable
abbrev pub top : List (ℕ × ℕ) → Option ℕ
top [] = None
top (p ∷ ps) = Some p.0

-- each variable is below v
abbrev pub IsBelow : ℕ → List (ℕ × ℕ) → Type 0
IsBelow v [] = Unit {0}
IsBelow v (q ∷ qs) = (q.0 < v) × IsBelow v qs

-- the variables fall strictly, and each exponent is at least 1
abbrev pub IsPowers : List (ℕ × ℕ) → Type 0
IsPowers [] = Unit {0}
IsPowers (p ∷ ps) = (0 < p.1) × IsBelow p.0 ps × IsPowers ps

-- the variables fall strictly and are below 2^32, and each exponent is 1 to 65,535
pub record IsMonomial (ps : List (ℕ × ℕ)) : Type 0 where
  pub powers : IsPowers ps
  pub in_range : AllByRecursion (λ (p : ℕ × ℕ). (p.0 < 2 ^ 32) × (p.1 ≤ 65535)) ps

-- the product: exponents add up, without bound
abbrev pub monomial_times : List (ℕ × ℕ) → List (ℕ × ℕ) → List (ℕ × ℕ)
monomial_times [] bs = bs
monomial_times (a ∷ as') [] = a ∷ as'
monomial_times (a ∷ as') (b ∷ bs) = by_order (nat_cmp a.0 b.0) (b ∷ monomial_times (a ∷ as') bs) ((a.0, a.1 + b.1) ∷ monomial_times as' bs) (a ∷ monomial_times as' (b ∷ bs))

-- the monomial without a variable
abbrev pub without : ℕ → List (ℕ × ℕ) → List (ℕ × ℕ)
without v [] = []
without v (p ∷ ps) = if p.0 == v then without v ps else p ∷ without v ps

-- a divides b where no exponent of a is above that of b
abbrev pub Divides : List (ℕ × ℕ) → List (ℕ × ℕ) → Type 0
Divides a b = (v : ℕ) → exponent a v ≤ exponent b v

-- each power of the first list divides the second
abbrev pub each_divides : List (ℕ × ℕ) → List (ℕ × ℕ) → Bool
each_divides [] bs = true
each_divides (a ∷ as') bs = if nat_lt (exponent bs a.0) a.1 then false else each_divides as' bs

-- the powers of the first list, each less that of the second
abbrev pub lowered : List (ℕ × ℕ) → List (ℕ × ℕ) → List (ℕ × ℕ)
lowered [] bs = []
lowered (a ∷ as') bs = if nat_lt (exponent bs a.0) a.1 then (a.0, a.1 - exponent bs a.0) ∷ lowered as' bs else lowered as' bs

-- the greatest variable whose exponent is above 65,535
abbrev pub too_high : List (ℕ × ℕ) → Option ℕ
too_high [] = None
too_high (p ∷ ps) = if nat_lt 65535 p.1 then Some p.0 else too_high ps

-- what the product answers where it is made, and where not
abbrev pub IsProductOf : List (ℕ × ℕ) → List (ℕ × ℕ) → List (ℕ × ℕ) → Type 0
IsProductOf a b m = (too_high (monomial_times a b) ≡ None) × (m ≡ monomial_times a b)

abbrev pub IsFaultOf : List (ℕ × ℕ) → List (ℕ × ℕ) → MonoFault → Type 0
IsFaultOf a b (Degree v) = too_high (monomial_times a b) ≡ Some v
IsFaultOf a b OutOfMemory = Unit {0}
