-- The order of terms and factors, and the first place that breaks it.
use Rattle.std.specs.Prelude.{◌≡◌, ◌≤◌, ℕ, ◌+◌, Bool, true, nat_lt, ◌==◌, if◌then◌else◌, codes, Option, None, Some, option_map, List, [], ◌∷◌, ◌++◌, length, take, drop}
use Rattle.std.specs.List.{AllByRecursion}
use Rattle.std.specs.Ordering.{is_lt}
use Rattle.monomial.specs.Monomials.{monomial_times, monomial_cmp}
use Rattle.sparse_poly.specs.declared.Term.{Term}
use Rattle.poly_text.specs.Text.{term_text, poly_text}
use Rattle.poly_text.specs.Numbers.{AreInRange}
use Rattle.poly_text.specs.Disorder.{Disorder, TermAt, FactorAt}

-- the product of factors in any order: the exponents of a variable add up, without bound
abbrev pub product : List (ℕ × ℕ) → List (ℕ × ℕ)
product [] = []
product (p ∷ ps) = monomial_times (p ∷ []) (product ps)

-- each exponent is at most n
abbrev pub AreAtMost : ℕ → List (ℕ × ℕ) → Type 0
AreAtMost n ps = AllByRecursion (λ (p : ℕ × ℕ). p.1 ≤ n) ps

-- the monomial is below the one before, where there is one
abbrev pub is_below : Option (List (ℕ × ℕ)) → List (ℕ × ℕ) → Bool
is_below None m = true
is_below (Some before) m = is_lt (monomial_cmp m before)

-- the number of the first factor whose variable is not below the one before, where the numbers begin with n
abbrev pub first_factor : ℕ → List (ℕ × ℕ) → Option ℕ
first_factor n [] = None
first_factor n (p ∷ []) = None
first_factor n (p ∷ q ∷ ps) = if nat_lt q.0 p.0 then first_factor (n + 1) (q ∷ ps) else Some (n + 1)

-- what breaks the order in term i: its monomial, or else one of its factors
abbrev pub disorder : ℕ → Option (List (ℕ × ℕ)) → Term → Option Disorder
disorder i before t = if is_below before (product t.monomial) then option_map (FactorAt i) (first_factor 0 t.monomial) else Some (TermAt i)

abbrev pub or_next : Option Disorder → Option Disorder → Option Disorder
or_next None o = o
or_next (Some d) o = Some d

-- what breaks the order first, where the terms are numbered from i
abbrev pub first_disorder : ℕ → Option (List (ℕ × ℕ)) → List Term → Option Disorder
first_disorder i before [] = None
first_disorder i before (t ∷ ts) = or_next (disorder i before t) (first_disorder (i + 1) (Some t.monomial) ts)

-- the text of the terms before
abbrev pub front : List Term → List ℕ
front [] = []
front (t ∷ ts) = poly_text (t ∷ ts)

-- the sign of term i where it is not negative
abbrev pub plus : ℕ → List ℕ
plus i = if i == 0 then [] else codes "+"

-- the text of the first term, which is term i, up to its factor j
abbrev pub part_text : ℕ → ℕ → List Term → List ℕ
part_text i j [] = []
part_text i j (t ∷ ts) = term_text (plus i) (record { monomial = take j t.monomial; coeff = t.coeff })

-- where in the text of the terms it stands: a term begins with its sign, and a factor after the `*` before it
abbrev pub place : List Term → Disorder → ℕ
place ts (TermAt i) = length (front (take i ts))
place ts (FactorAt i j) = length (front (take i ts) ++ part_text i j (drop i ts)) + 1

-- the text is that of some terms whose numbers are in range, of which the first that is out of order, or the first factor that is, stands at this place
pub record IsOrderFault (unknowns : ℕ) (text : List ℕ) (at : ℕ) : Type 0 where
  pub terms : List Term
  pub spelled : text ≡ poly_text terms
  pub in_range : AreInRange unknowns terms
  pub first : Disorder
  pub is_first : first_disorder 0 None terms ≡ Some first
  pub at_place : at ≡ place terms first
