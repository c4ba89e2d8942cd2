-- The greatest variable that some term has with an exponent above a number.
use Rattle.std.specs.Prelude.{◌≡◌, ◌<◌, ◌≤◌, ℕ, true, false, nat_lt, if◌then◌else◌, List, [], ◌∷◌, refl}
use mathlib.Core.Logic.{◌⊎◌, inl, inr}
use Rattle.std.proofs.Common.{arith, ap, subst}
use Rattle.std.proofs.lemmas.Bool.Decides.{nat_tests}
use Rattle.std.specs.List.{Contains}
use Rattle.std.specs.declared.option.Option.{Option}
use Rattle.std.specs.declared.option.Option.TheVariants.{None, Some}
use Rattle.monomial.specs.Monomials.{exponent, top, too_high, IsGreatestAbove, IsPowers}
use Rattle.monomial.proofs.Greatest.{top-greatest, top-none, too_high-greatest, too_high-none}
use Rattle.sparse_poly.specs.declared.Term.{Term}
use Rattle.sparse_poly.specs.Contributions.{higher, degree_of}
use Rattle.sparse_poly.specs.Reads.{main_variable}
use Rattle.poly_laws.specs.Terms.{HavePowers, HaveNoneAbove, IsGreatestOf}
use Rattle.poly_laws.proofs.Members.{first_member, later_member, member_cases, no_member}

-- what an answer tells of a monomial, and of a list of terms
abbrev TellsOne : ℕ → List (ℕ × ℕ) → Option ℕ → Type 0
TellsOne n m None = (v : ℕ) → exponent m v ≤ n
TellsOne n m (Some v) = IsGreatestAbove n (exponent m) v

abbrev Tells : ℕ → List Term → Option ℕ → Type 0
Tells n ts None = HaveNoneAbove n ts
Tells n ts (Some v) = IsGreatestOf n ts v

in_first : (n : ℕ) (t : Term) (ts : List Term) (v : ℕ) → IsGreatestAbove n (exponent t.monomial) v → ((u : Term) (w : ℕ) → Contains ts u → v < w → exponent u.monomial w ≤ n) → IsGreatestOf n (t ∷ ts) v
in_first n t ts v g h = record {
  term = t;
  member = first_member t ts;
  above = g.above;
  greatest = λ u w m l. each u w l (member_cases t u ts m);
}
  where
    each : (u : Term) (w : ℕ) → v < w → (t ≡ u) ⊎ Contains ts u → exponent u.monomial w ≤ n
    each u w l (inl e) = subst (λ (x : Term). exponent x.monomial w ≤ n) e (g.greatest w l)
    each u w l (inr m) = h u w m l

in_later : (n : ℕ) (t : Term) (ts : List Term) (v : ℕ) → ((w : ℕ) → v < w → exponent t.monomial w ≤ n) → IsGreatestOf n ts v → IsGreatestOf n (t ∷ ts) v
in_later n t ts v h g = record {
  term = g.term;
  member = later_member t g.term ts g.member;
  above = g.above;
  greatest = λ u w m l. each u w l (member_cases t u ts m);
}
  where
    each : (u : Term) (w : ℕ) → v < w → (t ≡ u) ⊎ Contains ts u → exponent u.monomial w ≤ n
    each u w l (inl e) = subst (λ (x : Term). exponent x.monomial w ≤ n) e (h w l)
    each u w l (inr m) = g.greatest u w m l

tells_more : (n : ℕ) (t : Term) (ts : List Term) (a b : Option ℕ) → TellsOne n t.monomial a → Tells n ts b → Tells n (t ∷ ts) (higher a b)
tells_more n t ts None None h g = λ u v m. each u v (member_cases t u ts m)
  where
    each : (u : Term) (v : ℕ) → (t ≡ u) ⊎ Contains ts u → exponent u.monomial v ≤ n
    each u v (inl e) = subst (λ (x : Term). exponent x.monomial v ≤ n) e (h v)
    each u v (inr m) = g u v m
tells_more n t ts None (Some v) h g = in_later n t ts v (λ w l. h w) g
tells_more n t ts (Some v) None h g = in_first n t ts v h (λ u w m l. g u w m)
tells_more n t ts (Some v) (Some w) h g =
    elim (nat_lt v w) as (λ b. nat_lt v w ≡ b → IsGreatestOf n (t ∷ ts) (if b then w else v)) [
      | true ↦ λ e. in_later n t ts w (λ u l. h.greatest u (through v w u (is_below v w e) l)) g
      | false ↦ λ e. in_first n t ts v h (λ u x m l. g.greatest u x m (past v w x (is_not_below v w e) l))
    ] refl
  where
    is_below : (v w : ℕ) → nat_lt v w ≡ true → v < w
    is_below v w e = grind (arith, nat_tests)

    is_not_below : (v w : ℕ) → nat_lt v w ≡ false → w ≤ v
    is_not_below v w e = grind (arith, nat_tests)

    through : (v w u : ℕ) → v < w → w < u → v < u
    through v w u l k = omega arith

    past : (v w x : ℕ) → w ≤ v → v < x → w < x
    past v w x l k = omega arith

-- an answer that tells it is the only one
one_greatest : (n : ℕ) (ts : List Term) (v w : ℕ) → IsGreatestOf n ts v → IsGreatestOf n ts w → w ≡ v
one_greatest n ts v w g h =
    let first : v < w → ⊥ = λ l. absurd (omega (arith, g.greatest h.term w h.member l, h.above)) in
    let second : w < v → ⊥ = λ l. absurd (omega (arith, h.greatest g.term v g.member l, g.above)) in
    omega (arith, first, second)

some_told : (n : ℕ) (ts : List Term) (o : Option ℕ) (v : ℕ) → Tells n ts o → IsGreatestOf n ts v → o ≡ Some v
some_told n ts None v t g = absurd (omega (arith, g.above, t g.term v g.member))
some_told n ts (Some w) v t g = ap Some (one_greatest n ts v w g t)

none_told : (n : ℕ) (ts : List Term) (o : Option ℕ) → Tells n ts o → HaveNoneAbove n ts → o ≡ None
none_told n ts None t h = refl
none_told n ts (Some v) t h = absurd (omega (arith, t.above, h t.term v t.member))

-- the degree of contributions, and the main variable
too_high_tells : (m : List (ℕ × ℕ)) → IsPowers m → (o : Option ℕ) → too_high m ≡ o → TellsOne 65535 m o
too_high_tells m h None e = too_high-none m e
too_high_tells m h (Some v) e = too_high-greatest m v h e

top_tells : (m : List (ℕ × ℕ)) → IsPowers m → (o : Option ℕ) → top m ≡ o → TellsOne 0 m o
top_tells m h None e = λ v. omega (arith, top-none m e v)
top_tells m h (Some v) e = top-greatest m v h e

degree_tells : (cs : List Term) → HavePowers cs → Tells 65535 cs (degree_of cs)
degree_tells [] h = λ t v m. absurd (no_member t m)
degree_tells (t ∷ ts) h = tells_more 65535 t ts (too_high t.monomial) (degree_of ts) (too_high_tells t.monomial h.0 (too_high t.monomial) refl) (degree_tells ts h.1)

main_tells : (p : List Term) → HavePowers p → Tells 0 p (main_variable p)
main_tells [] h = λ t v m. absurd (no_member t m)
main_tells (t ∷ ts) h = tells_more 0 t ts (top t.monomial) (main_variable ts) (top_tells t.monomial h.0 (top t.monomial) refl) (main_tells ts h.1)

pub degree-greatest : (cs : List Term) (v : ℕ) → HavePowers cs → degree_of cs ≡ Some v → IsGreatestOf 65535 cs v
degree-greatest cs v h e = subst (Tells 65535 cs) e (degree_tells cs h)

pub greatest-degree : (cs : List Term) (v : ℕ) → HavePowers cs → IsGreatestOf 65535 cs v → degree_of cs ≡ Some v
greatest-degree cs v h g = some_told 65535 cs (degree_of cs) v (degree_tells cs h) g

pub degree-none : (cs : List Term) → HavePowers cs → degree_of cs ≡ None → HaveNoneAbove 65535 cs
degree-none cs h e = subst (Tells 65535 cs) e (degree_tells cs h)

pub none-degree : (cs : List Term) → HavePowers cs → HaveNoneAbove 65535 cs → degree_of cs ≡ None
none-degree cs h n = none_told 65535 cs (degree_of cs) (degree_tells cs h) n

pub main-greatest : (p : List Term) (v : ℕ) → HavePowers p → main_variable p ≡ Some v → IsGreatestOf 0 p v
main-greatest p v h e = subst (Tells 0 p) e (main_tells p h)

pub greatest-main : (p : List Term) (v : ℕ) → HavePowers p → IsGreatestOf 0 p v → main_variable p ≡ Some v
greatest-main p v h g = some_told 0 p (main_variable p) v (main_tells p h) g

pub main-none : (p : List Term) → HavePowers p → main_variable p ≡ None → HaveNoneAbove 0 p
main-none p h e = subst (Tells 0 p) e (main_tells p h)

pub none-main : (p : List Term) → HavePowers p → HaveNoneAbove 0 p → main_variable p ≡ None
none-main p h n = none_told 0 p (main_variable p) (main_tells p h) n
