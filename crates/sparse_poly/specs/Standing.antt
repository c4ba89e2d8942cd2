-- Shares: sums of contributions to one monomial, and what they stand for.
use Rattle.std.specs.Prelude.{◌≡◌, ◌<◌, ◌≤◌, ℕ, ◌+◌, ◌⊎◌, Bool, if◌then◌else◌, ℤ, pos, unsigned_abs, ◌+ℤ◌, ◌*ℤ◌, List, [], ◌∷◌, length}
use Rattle.std.proofs.Common.{le_refl}
use Rattle.std.specs.List.{AllByRecursion}
use Rattle.std.specs.Ordering.{is_eq}
use Rattle.std.specs.declared.cmp.Ordering.TheVariants.{Less}
use Rattle.std.specs.declared.option.Option.{Option}
use Rattle.std.specs.declared.option.Option.TheVariants.{None, Some}
use Rattle.monomial.specs.Monomials.{monomial_cmp, monomial_times, too_high, IsMonomial}
use Rattle.sparse_poly.specs.declared.entry.Share.{Share}
use Rattle.sparse_poly.specs.declared.Term.{Term}
use Rattle.sparse_poly.specs.declared.multiplying.Row.{Row}
use Rattle.sparse_poly.specs.declared.merging.Front.{Front}
use Rattle.sparse_poly.specs.declared.merging.Front.TheVariants.{Neither, First, Second, Both}
use Rattle.sparse_poly.specs.Polynomials.{coefficient, weight}
use Rattle.sparse_poly.specs.Contributions.{max_coeff, signed, kept, signed_row, higher, degree_of, IsPoly}
use Rattle.sparse_poly.specs.declared.PolyFault.{PolyFault}
use Rattle.sparse_poly.specs.declared.PolyFault.TheVariants.{Degree, Heavy, OutOfMemory}

-- the sum of the shares of a monomial, and that of their weights
abbrev pub ssum : List Share → List (ℕ × ℕ) → ℤ
ssum [] m = pos 0
ssum (t ∷ ts) m = (if is_eq (monomial_cmp m t.monomial) then t.sum else pos 0) +ℤ ssum ts m

abbrev pub sweight : List Share → List (ℕ × ℕ) → ℕ
sweight [] m = 0
sweight (t ∷ ts) m = (if is_eq (monomial_cmp m t.monomial) then t.weight else 0) + sweight ts m

-- two sums with their weights: the same, or both too heavy
abbrev pub Agree : ℕ → ℤ → ℕ → ℤ → Type 0
Agree w z v y = ((w ≡ v) × (z ≡ y)) ⊎ ((max_coeff < w) × (max_coeff < v))

-- shares that stand for contributions
abbrev pub Stands : List Share → List Term → Type 0
Stands ss cs = (m : List (ℕ × ℕ)) → Agree (sweight ss m) (ssum ss m) (weight cs m) (coefficient cs m)

-- shares that stand for those of two lists
abbrev pub StandsForBoth : List Share → List Share → List Share → Type 0
StandsForBoth ss xs ys = (m : List (ℕ × ℕ)) → Agree (sweight ss m) (ssum ss m) (sweight xs m + sweight ys m) (ssum xs m +ℤ ssum ys m)

-- each share is below a monomial
abbrev pub AllBelow : List (ℕ × ℕ) → List Share → Type 0
AllBelow m xs = AllByRecursion (λ (x : Share). monomial_cmp x.monomial m ≡ Less) xs

-- each share is above a monomial
abbrev pub AllAbove : List (ℕ × ℕ) → List Share → Type 0
AllAbove m xs = AllByRecursion (λ (x : Share). monomial_cmp m x.monomial ≡ Less) xs

-- the monomials fall strictly
abbrev pub IsDescending : List Share → Type 0
IsDescending [] = Unit {0}
IsDescending (x ∷ xs) = AllBelow x.monomial xs × IsDescending xs

-- what is left of two falling lists, once their greatest share s was taken
pub record IsTaken (xs ys us vs : List Share) (s : Share) : Type 0 where
  pub shorter : length us + length vs < length xs + length ys
  pub sums : (m : List (ℕ × ℕ)) → Agree (sweight (s ∷ []) m + (sweight us m + sweight vs m)) (ssum (s ∷ []) m +ℤ (ssum us m +ℤ ssum vs m)) (sweight xs m + sweight ys m) (ssum xs m +ℤ ssum ys m)
  pub falling : IsDescending xs → IsDescending ys → IsDescending us × IsDescending vs × AllBelow s.monomial us × AllBelow s.monomial vs
  pub bounded : (k : List (ℕ × ℕ)) → AllBelow k xs → AllBelow k ys → AllBelow k us × AllBelow k vs × (monomial_cmp s.monomial k ≡ Less)

-- the next share of two lists
abbrev pub IsNext : List Share → List Share → List Share → List Share → Option Share → Type 0
IsNext xs ys us vs (Some s) = IsTaken xs ys us vs s
IsNext xs ys us vs None = (xs ≡ []) × (ys ≡ [])

-- which of two lists has the greatest share at its front
abbrev pub IsFront : List Share → List Share → Front → Type 0
IsFront xs ys Neither = (xs ≡ []) × (ys ≡ [])
IsFront xs ys First = (0 < length xs) × ((us : List Share) (x : Share) → xs ≡ x ∷ us → IsDescending ys → AllBelow x.monomial ys)
IsFront xs ys Second = (0 < length ys) × ((vs : List Share) (y : Share) → ys ≡ y ∷ vs → IsDescending xs → AllBelow y.monomial xs)
IsFront xs ys Both = (0 < length xs) × (0 < length ys) × ((us vs : List Share) (x y : Share) → xs ≡ x ∷ us → ys ≡ y ∷ vs → x.monomial ≡ y.monomial)

-- falling shares that add up to the same sums
pub record IsSorted (xs ss : List Share) : Type 0 where
  pub same : (m : List (ℕ × ℕ)) → Agree (sweight ss m) (ssum ss m) (sweight xs m) (ssum xs m)
  pub falling : IsDescending ss

-- falling shares that add up to the sums of two lists
pub record IsMerged (xs ys ss : List Share) : Type 0 where
  pub both : StandsForBoth ss xs ys
  pub falling : IsDescending xs → IsDescending ys → IsDescending ss

-- each monomial of a polynomial's terms is one
abbrev pub AllMonomials : List Term → Type 0
AllMonomials ts = AllByRecursion (λ (t : Term). IsMonomial t.monomial) ts

-- the share of one contribution, with its sum as it is kept
abbrev pub share_at : List (ℕ × ℕ) → ℤ → Share
share_at m z = record { monomial = m; sum = kept z; weight = unsigned_abs (kept z); within = le_refl (unsigned_abs (kept z)) }

-- a share before others, where its product is not of too high degree
abbrev pub unless_high : Option ℕ → Share → List Share → List Share
unless_high None s ss = s ∷ ss
unless_high (Some v) s ss = ss

-- the shares of one term, in the order of the others
abbrev pub product_shares : Bool → Term → List Term → List Share
product_shares minus t [] = []
product_shares minus t (u ∷ us) = unless_high (too_high (monomial_times t.monomial u.monomial)) (share_at (monomial_times t.monomial u.monomial) (signed minus (t.coeff *ℤ u.coeff))) (product_shares minus t us)

-- a share and the shares after it, their degree and their number: where there is no such share, there are none after it
abbrev pub led : Option Share → List Share → List Share
led None ss = []
led (Some s) ss = s ∷ ss

abbrev pub led_degree : Option Share → Option ℕ → Option ℕ
led_degree None o = None
led_degree (Some s) o = o

abbrev pub led_length : Option Share → ℕ → ℕ
led_length None n = 0
led_length (Some s) n = n + 1

-- the shares of a row that are not made, and their degree
abbrev pub left_shares : Row → List Share
left_shares r = product_shares r.minus r.term.now r.others.now

abbrev pub left_degree : Row → Option ℕ
left_degree r = degree_of (signed_row r.minus r.term.now r.others.now)

-- the share of the last product of a row
abbrev pub row_share : Row → List (ℕ × ℕ) → Share
row_share r m = share_at m (signed r.minus (r.term.now.coeff *ℤ r.coeff))

-- the next share of a row was made, with what is noted of too high degree before and now
pub record IsMade (old new : Row) (before now : Option ℕ) (o : Option Share) : Type 0 where
  pub shares : left_shares old ≡ led o (left_shares new)
  pub degree : higher now (led_degree o (left_degree new)) ≡ higher before (left_degree old)
  pub room : led_length o (length new.others.now) ≤ length old.others.now

-- the shares of a polynomial that is light
pub record IsLightSum (ds : List Share) (p : List Term) : Type 0 where
  pub light : (m : List (ℕ × ℕ)) → sweight ds m ≤ max_coeff
  pub sums : (m : List (ℕ × ℕ)) → coefficient p m ≡ ssum ds m
  pub poly : IsPoly p

-- the greatest monomial to which shares are heavy
pub record IsHeaviestShare (ds : List Share) (m : List (ℕ × ℕ)) : Type 0 where
  pub heavy : max_coeff < sweight ds m
  pub greatest : (k : List (ℕ × ℕ)) → monomial_cmp m k ≡ Less → sweight ds k ≤ max_coeff

abbrev pub IsHeavyFault : List Share → PolyFault → Type 0
IsHeavyFault ds (Degree v) = ⊥
IsHeavyFault ds (Heavy m) = IsHeaviestShare ds m
IsHeavyFault ds OutOfMemory = Unit {0}
