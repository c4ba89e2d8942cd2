-- What a division has left: terms of the polynomial that were not reached, less the products that are owed, which stand in rows.
use Rattle.std.specs.Prelude.{◌≡◌, ◌≤◌, ◌⊎◌, ℕ, false, ℤ, unsigned_abs, List, [], ◌∷◌, ◌++◌, All, length}
use Rattle.std.specs.List.{AllByRecursion}
use Rattle.std.specs.BinaryHeap.{IsHeap}
use Rattle.std.specs.Ordering.{is_lt}
use Rattle.std.specs.Cmp.{IsTotalOrder, on_total}
use Rattle.std.specs.declared.cmp.Ordering.{Ordering}
use Rattle.std.specs.declared.cmp.Ordering.TheVariants.{Less}
use Rattle.std.specs.declared.option.Option.{Option}
use Rattle.std.specs.declared.option.Option.TheVariants.{None, Some}
use Rattle.monomial.specs.Monomials.{monomial_cmp}
use Rattle.monomial.proofs.Total.{monomial_cmp-IsTotalOrder}
use Rattle.sparse_poly.specs.declared.Term.{Term}
use Rattle.sparse_poly.specs.declared.owing.OwedRow.{OwedRow}
use Rattle.sparse_poly.specs.Polynomials.{weight, negated, IsSum}
use Rattle.sparse_poly.specs.Contributions.{max_coeff, IsPoly}

-- the order of rows: by the monomials of their first terms
abbrev pub row_cmp : OwedRow → OwedRow → Ordering
row_cmp r s = monomial_cmp r.first.monomial s.first.monomial

pub row_cmp-IsTotalOrder : IsTotalOrder row_cmp
row_cmp-IsTotalOrder = on_total (λ (r : OwedRow). r.first.monomial) monomial_cmp-IsTotalOrder

abbrev pub row_terms : OwedRow → List Term
row_terms r = r.first ∷ r.rest.items

-- the terms of all rows
abbrev pub owed_terms : List OwedRow → List Term
owed_terms [] = []
owed_terms (r ∷ rs) = row_terms r ++ owed_terms rs

-- each row is a polynomial, and they are stored as a heap, with the greatest row first
pub record AreOwed (rows : List OwedRow) : Type 0 where
  pub heap : IsHeap row_cmp rows
  pub polys : All (λ (r : OwedRow). IsPoly (row_terms r)) rows

-- each term is below a monomial
abbrev pub AllUnder : List (ℕ × ℕ) → List Term → Type 0
AllUnder m ts = AllByRecursion (λ (t : Term). monomial_cmp t.monomial m ≡ Less) ts

-- no term is above a monomial
abbrev pub AllUpTo : List (ℕ × ℕ) → List Term → Type 0
AllUpTo m ts = AllByRecursion (λ (t : Term). is_lt (monomial_cmp m t.monomial) ≡ false) ts

-- us agrees with ts in sums, weights, number and bounds, as it does where it has the same terms in another order
pub record AreSameTerms (ts us : List Term) : Type 0 where
  pub sums : IsSum us ts
  pub weights : (m : List (ℕ × ℕ)) → weight us m ≡ weight ts m
  pub count : length us ≡ length ts
  pub under : (m : List (ℕ × ℕ)) → AllUnder m ts → AllUnder m us
  pub up_to : (m : List (ℕ × ℕ)) → AllUpTo m ts → AllUpTo m us

-- terms are owed beside those of old rows
pub record IsOwedMore (old : List OwedRow) (ts : List Term) (new : List OwedRow) : Type 0 where
  pub owed : AreOwed new
  pub same : AreSameTerms (ts ++ owed_terms old) (owed_terms new)

-- a row that begins with a monomial is taken
pub record IsTaken (m : List (ℕ × ℕ)) (old : List OwedRow) (r : OwedRow) (new : List OwedRow) : Type 0 where
  pub at : r.first.monomial ≡ m
  pub poly : IsPoly (row_terms r)
  pub owed : AreOwed new
  pub same : AreSameTerms (owed_terms old) (row_terms r ++ owed_terms new)

-- no row begins with a monomial, above which there is none
pub record IsNoneAt (m : List (ℕ × ℕ)) (old new : List OwedRow) : Type 0 where
  pub unchanged : new ≡ old
  pub under : AllUpTo m (owed_terms old) → AllUnder m (owed_terms old)

abbrev pub IsTopAt : List (ℕ × ℕ) → List OwedRow → Option OwedRow → List OwedRow → Type 0
IsTopAt m old None new = IsNoneAt m old new
IsTopAt m old (Some r) new = IsTaken m old r new

abbrev pub term : List (ℕ × ℕ) → ℤ → Term
term m c = record { monomial = m; coeff = c }

-- all products with a monomial are taken off a coefficient b of it, which leaves c
pub record IsTakenOff (m : List (ℕ × ℕ)) (b : ℤ) (old new : List OwedRow) (c : ℤ) : Type 0 where
  pub owed : AreOwed new
  pub small : unsigned_abs c ≤ max_coeff
  pub sums : IsSum (term m b ∷ negated (owed_terms old)) (term m c ∷ negated (owed_terms new))
  pub within : (k : List (ℕ × ℕ)) → weight (owed_terms new) k ≤ weight (owed_terms old) k
  pub under : AllUnder m (owed_terms new)

-- the first term has this monomial
abbrev pub IsLed : List (ℕ × ℕ) → List Term → Type 0
IsLed m [] = ⊥
IsLed m (t ∷ ts) = t.monomial ≡ m

-- the greatest monomial of some terms
pub record IsTop (m : List (ℕ × ℕ)) (ts : List Term) : Type 0 where
  pub up_to : AllUpTo m ts
  pub led : IsLed m ts

-- t has the greatest monomial of the terms that are left and those that are owed, and its coefficient in the terms that are left, of which
-- those in below are below it
pub record IsNextTerm (left : List Term) (rows : List OwedRow) (t : Term) (below : List Term) : Type 0 where
  pub poly : IsPoly below
  pub small : unsigned_abs t.coeff ≤ max_coeff
  pub sums : IsSum left (t ∷ below)
  pub under : AllUnder t.monomial below
  pub up_to : AllUpTo t.monomial (owed_terms rows)
  pub some : IsLed t.monomial left ⊎ IsLed t.monomial (owed_terms rows)
