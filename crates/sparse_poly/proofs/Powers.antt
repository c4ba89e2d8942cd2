-- The coefficient of a power of a variable is a polynomial.
use Rattle.std.specs.Prelude.{◌≡◌, ◌≢◌, ◌≤◌, ℕ, ◌⊎◌, ◌==◌, true, false, if◌then◌else◌, pos, unsigned_abs, List, [], ◌∷◌}
use mathlib.Core.Logic.{inl, inr}
use Rattle.std.proofs.Common.{sym, ◌∙◌, ap, subst}
use Rattle.std.proofs.lemmas.Bool.Decides.{eqb_tells}
use Rattle.std.specs.List.{AllByRecursion}
use Rattle.std.specs.declared.cmp.Ordering.TheVariants.{Less}
use Rattle.monomial.specs.Monomials.{exponent, without, monomial_cmp, IsMonomial}
use Rattle.monomial.proofs.Exponents.{IsMonomial-without}
use Rattle.monomial.proofs.Lower.{monomial_cmp-without}
use Rattle.sparse_poly.specs.declared.Term.{Term}
use Rattle.sparse_poly.specs.Contributions.{max_coeff, IsFalling, IsPoly}
use Rattle.sparse_poly.specs.Standing.{AllMonomials}
use Rattle.sparse_poly.specs.Reads.{coefficient_of_power}

abbrev Step : ℕ → ℕ → Term → List Term → Type 0
Step v k t ts = ((exponent t.monomial v ≡ k) × (coefficient_of_power v k (t ∷ ts) ≡ (let u : Term = record { monomial = without v t.monomial; coeff = t.coeff } in u) ∷ coefficient_of_power v k ts)) ⊎ (coefficient_of_power v k (t ∷ ts) ≡ coefficient_of_power v k ts)

step : (v k : ℕ) (t : Term) (ts : List Term) → Step v k t ts
step v k t ts = either (eqb_tells (exponent t.monomial v) k)
  where
    either : ((exponent t.monomial v == k ≡ true) × (exponent t.monomial v ≡ k)) ⊎ ((exponent t.monomial v == k ≡ false) × (exponent t.monomial v ≢ k)) → Step v k t ts
    either (inl (b, e)) = inl (e, ap (λ b. if b then (let u : Term = record { monomial = without v t.monomial; coeff = t.coeff } in u) ∷ coefficient_of_power v k ts else coefficient_of_power v k ts) b)
    either (inr (b, n)) = inr (ap (λ b. if b then (let u : Term = record { monomial = without v t.monomial; coeff = t.coeff } in u) ∷ coefficient_of_power v k ts else coefficient_of_power v k ts) b)

-- what holds of the terms that are left
all_left : (P Q : Term → Type 0) (v k : ℕ) (ts : List Term) → ((t : Term) → exponent t.monomial v ≡ k → P t → Q (record { monomial = without v t.monomial; coeff = t.coeff })) → AllByRecursion P ts → AllByRecursion Q (coefficient_of_power v k ts)
all_left P Q v k [] f h = tt
all_left P Q v k (t ∷ ts) f h = either (all_left P Q v k ts f h.1) (step v k t ts)
  where
    either : AllByRecursion Q (coefficient_of_power v k ts) → Step v k t ts → AllByRecursion Q (coefficient_of_power v k (t ∷ ts))
    either rest (inl (e, s)) = subst (AllByRecursion Q) (sym s) (f t e h.0, rest)
    either rest (inr s) = subst (AllByRecursion Q) (sym s) rest

pair_all : (P Q : Term → Type 0) (ts : List Term) → AllByRecursion P ts → AllByRecursion Q ts → AllByRecursion (λ t. P t × Q t) ts
pair_all P Q [] h i = tt
pair_all P Q (t ∷ ts) h i = ((h.0, i.0), pair_all P Q ts h.1 i.1)

falls_left : (v k : ℕ) (ts : List Term) → AllMonomials ts → IsFalling ts → IsFalling (coefficient_of_power v k ts)
falls_left v k [] h f = tt
falls_left v k (t ∷ ts) h f = either (falls_left v k ts h.1 f.1) (step v k t ts)
  where
    below : exponent t.monomial v ≡ k → AllByRecursion (λ (u : Term). monomial_cmp u.monomial (without v t.monomial) ≡ Less) (coefficient_of_power v k ts)
    below e = all_left (λ (u : Term). IsMonomial u.monomial × (monomial_cmp u.monomial t.monomial ≡ Less)) (λ (u : Term). monomial_cmp u.monomial (without v t.monomial) ≡ Less) v k ts
        (λ u g p. monomial_cmp-without v u.monomial t.monomial p.0.powers h.0.powers (g ∙ sym e) p.1)
        (pair_all (λ (u : Term). IsMonomial u.monomial) (λ (u : Term). monomial_cmp u.monomial t.monomial ≡ Less) ts h.1 f.0)

    either : IsFalling (coefficient_of_power v k ts) → Step v k t ts → IsFalling (coefficient_of_power v k (t ∷ ts))
    either rest (inl (e, s)) = subst IsFalling (sym s) (below e, rest)
    either rest (inr s) = subst IsFalling (sym s) rest

pub IsPoly-coefficient_of_power : (v k : ℕ) (ts : List Term) → IsPoly ts → IsPoly (coefficient_of_power v k ts)
IsPoly-coefficient_of_power v k ts h = record {
  falling = falls_left v k ts h.monomials h.falling;
  monomials = all_left (λ (t : Term). IsMonomial t.monomial) (λ (t : Term). IsMonomial t.monomial) v k ts (λ t e m. IsMonomial-without v t.monomial m) h.monomials;
  apart = all_left (λ (t : Term). t.coeff ≢ pos 0) (λ (t : Term). t.coeff ≢ pos 0) v k ts (λ t e n. n) h.apart;
  in_range = all_left (λ (t : Term). unsigned_abs t.coeff ≤ max_coeff) (λ (t : Term). unsigned_abs t.coeff ≤ max_coeff) v k ts (λ t e n. n) h.in_range;
}
