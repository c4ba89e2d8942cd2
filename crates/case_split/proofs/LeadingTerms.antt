-- What the leading monomial says of the variables of a polynomial.
use Rattle.std.specs.Prelude.{◌≡◌, ◌≢◌, ◌⊎◌, ◌<◌, ◌≤◌, ℕ, max, ◌==◌, true, false, if◌then◌else◌, List, [], ◌∷◌, length, slice_get, slice_index_or, MatchOption, refl}
use mathlib.Core.Logic.{inl, inr}
use Rattle.std.proofs.Common.{arith, subst, sym, ◌∙◌, ap}
use Rattle.std.proofs.lemmas.Bool.{cases_order}
use Rattle.std.proofs.lemmas.Bool.Decides.{eqb_tells}
use Rattle.std.specs.List.{AllByRecursion}
use Rattle.std.specs.declared.option.Option.{Option}
use Rattle.std.specs.declared.option.Option.TheVariants.{None, Some}
use Rattle.std.specs.declared.cmp.Ordering.TheVariants.{Less}
use Rattle.monomial.specs.Monomials.{exponent, top, without, monomial_cmp, IsBelow, IsPowers, IsMonomial, IsLower}
use Rattle.monomial.proofs.Exponents.{exponent_here, exponent_there}
use Rattle.monomial.proofs.Greatest.{top-greatest}
use Rattle.monomial.proofs.Lower.{IsLower-from_cmp}
use Rattle.sparse_poly.specs.declared.Term.{Term}
use Rattle.sparse_poly.specs.Contributions.{higher, IsPoly}
use Rattle.sparse_poly.specs.Reads.{degree_in, main_variable, coefficient_of_power, leading_in}
use Rattle.sparse_poly.proofs.Adding.{none_before}
use Rattle.sparse_poly.proofs.Ordered.{main_variable-leading}
use Rattle.char_set.specs.Triangular.{initial, initial_in}
use Rattle.case_rules.specs.Rules.{IsLinearIn}

-- a variable as a monomial
abbrev pub alone : ℕ → List (ℕ × ℕ)
alone v = (v, 1) ∷ []

pub one_power : (m : List (ℕ × ℕ)) (p : ℕ × ℕ) → length m ≡ 1 → p ≡ slice_index_or m 0 (0, 0) → p.1 ≡ 1 → m ≡ alone p.0
one_power [] p l s e = absurd (omega (arith, l))
one_power (q ∷ []) p l s e = ap (λ x. x ∷ []) (sym s ∙ ap (λ k. (p.0, k)) e)
one_power (q ∷ r ∷ rs) p l s e = absurd (omega (arith, l))

-- a lower monomial has no greater exponent in the greatest variable of the other
pub top_exponent : (a b : List (ℕ × ℕ)) (v : ℕ) → IsPowers b → top b ≡ Some v → IsLower a b → exponent a v ≤ exponent b v
top_exponent a b v h e l = each (cases_order l.at v)
  where
    each : (l.at ≡ v) ⊎ ((l.at < v) ⊎ (v < l.at)) → exponent a v ≤ exponent b v
    each (inl same) = subst (λ w. exponent a w ≤ exponent b w) same (let s = l.smaller in omega (arith, s))
    each (inr (inl below)) = let s = l.same v below in omega (arith, s)
    each (inr (inr above)) = let s = l.smaller in let z = (top-greatest b v h e).greatest l.at above in absurd (omega (arith, s, z))

both_below : (a b c : ℕ) → a ≤ c → b ≤ c → max a b ≤ c
both_below a b c l m = grind arith

same_max : (a b c : ℕ) → a ≡ c → b ≤ c → max a b ≡ c
same_max a b c e l = grind arith

others_below : (m : List (ℕ × ℕ)) (ts : List Term) (v : ℕ) → IsPowers m → top m ≡ Some v → AllByRecursion (λ (u : Term). IsMonomial u.monomial) ts → AllByRecursion (λ (u : Term). monomial_cmp u.monomial m ≡ Less) ts → degree_in v ts ≤ exponent m v
others_below m [] v p e h l = omega arith
others_below m (u ∷ us) v p e h l = both_below (exponent u.monomial v) (degree_in v us) (exponent m v) (top_exponent u.monomial m v p e (IsLower-from_cmp u.monomial m h.0.powers p l.0)) (others_below m us v p e h.1 l.1)

-- the degree in the main variable is the exponent in the leading monomial
pub leading_degree_in : (t : Term) (ts : List Term) (v : ℕ) → IsPoly (t ∷ ts) → top t.monomial ≡ Some v → degree_in v (t ∷ ts) ≡ exponent t.monomial v
leading_degree_in t ts v h e = same_max (exponent t.monomial v) (degree_in v ts) (exponent t.monomial v) refl (others_below t.monomial ts v h.monomials.0.powers e h.monomials.1 h.falling.0)

-- what is below a variable does not contain it
pub lower_zero : (a : List (ℕ × ℕ)) (v : ℕ) → IsPowers a → monomial_cmp a (alone v) ≡ Less → exponent a v ≡ 0
lower_zero a v h e = each (IsLower-from_cmp a (alone v) h (omega arith, tt, tt) e)
  where
    each : IsLower a (alone v) → exponent a v ≡ 0
    each l = here (eqb_tells v l.at)
      where
        here : ((v == l.at) ≡ true) × (v ≡ l.at) ⊎ ((v == l.at) ≡ false) × (v ≢ l.at) → exponent a v ≡ 0
        here (inl x) = let s = l.smaller in let o = exponent_here (v, 1) [] l.at x.1 in subst (λ w. exponent a w ≡ 0) (sym x.1) (omega (arith, s, o))
        here (inr x) = let s = l.smaller in let o = exponent_there (v, 1) [] l.at x.1 in absurd (omega (arith, s, o))

-- the coefficient of a power, term by term
abbrev kept_term : ℕ → Term → List Term → List Term
kept_term v t ts = record { monomial = without v t.monomial; coeff = t.coeff } ∷ ts

keep_if : (v k n : ℕ) (t : Term) (ts : List Term) → k ≡ n → (if k == n then kept_term v t ts else ts) ≡ kept_term v t ts
keep_if v k n t ts e = each (eqb_tells k n)
  where
    each : ((k == n) ≡ true) × (k ≡ n) ⊎ ((k == n) ≡ false) × (k ≢ n) → (if k == n then kept_term v t ts else ts) ≡ kept_term v t ts
    each (inl x) = ap (λ b. if b then kept_term v t ts else ts) x.0
    each (inr x) = absurd (x.1 e)

drop_if : (v k n : ℕ) (t : Term) (ts : List Term) → k ≢ n → (if k == n then kept_term v t ts else ts) ≡ ts
drop_if v k n t ts d = each (eqb_tells k n)
  where
    each : ((k == n) ≡ true) × (k ≡ n) ⊎ ((k == n) ≡ false) × (k ≢ n) → (if k == n then kept_term v t ts else ts) ≡ ts
    each (inl x) = absurd (d x.1)
    each (inr x) = ap (λ b. if b then kept_term v t ts else ts) x.0

none_of_power : (v : ℕ) (ts : List Term) → AllByRecursion (λ (u : Term). IsMonomial u.monomial) ts → AllByRecursion (λ (u : Term). monomial_cmp u.monomial (alone v) ≡ Less) ts → coefficient_of_power v 1 ts ≡ []
none_of_power v [] h l = refl
none_of_power v (u ∷ us) h l =
    drop_if v (exponent u.monomial v) 1 u (coefficient_of_power v 1 us) (λ e. let z = lower_zero u.monomial v h.0.powers l.0 in absurd (omega (arith, e, z))) ∙ none_of_power v us h.1 l.1

without_itself : (v : ℕ) (m : List (ℕ × ℕ)) → m ≡ alone v → without v m ≡ []
without_itself v m e = ap (without v) e ∙ each (eqb_tells v v)
  where
    each : ((v == v) ≡ true) × (v ≡ v) ⊎ ((v == v) ≡ false) × (v ≢ v) → without v (alone v) ≡ []
    each (inl x) = ap (λ b. if b then [] else alone v) x.0
    each (inr x) = absurd (x.1 refl)

initial_is : (p : List Term) (v : ℕ) → main_variable p ≡ Some v → initial p ≡ leading_in v p
initial_is p v e = ap (λ o. initial_in o p) e

-- linear in its main variable with a constant initial, where the leading monomial is this variable
pub linear_leading : (t : Term) (ts : List Term) (v : ℕ) → IsPoly (t ∷ ts) → t.monomial ≡ alone v → IsLinearIn (t ∷ ts) v
linear_leading t ts v h e = record { main = main; degree = degree; constant = constant }
  where
    own : exponent t.monomial v ≡ 1
    own = ap (λ m. exponent m v) e ∙ exponent_here (v, 1) [] v refl

    main : main_variable (t ∷ ts) ≡ Some v
    main = main_variable-leading t ts h.falling ∙ ap top e

    degree : degree_in v (t ∷ ts) ≡ 1
    degree = leading_degree_in t ts v h (ap top e) ∙ own

    made : coefficient_of_power v 1 (t ∷ ts) ≡ kept_term v t []
    made =
        keep_if v (exponent t.monomial v) 1 t (coefficient_of_power v 1 ts) own ∙ ap (kept_term v t) (none_of_power v ts h.monomials.1 (subst (λ m. AllByRecursion (λ (u : Term). monomial_cmp u.monomial m ≡ Less) ts) e h.falling.0))

    constant : main_variable (initial (t ∷ ts)) ≡ None
    constant = ap main_variable (initial_is (t ∷ ts) v main ∙ ap (λ k. coefficient_of_power v k (t ∷ ts)) degree ∙ made) ∙ ap (λ m. higher (top m) None) (without_itself v t.monomial e)

-- and only there
pub linear_alone : (t : Term) (ts : List Term) (v : ℕ) → IsPoly (t ∷ ts) → IsLinearIn (t ∷ ts) v → t.monomial ≡ alone v
linear_alone t ts v h l = each t.monomial h.monomials.0.powers leads own nothing
  where
    leads : top t.monomial ≡ Some v
    leads = sym (main_variable-leading t ts h.falling) ∙ l.main

    own : exponent t.monomial v ≡ 1
    own = sym (leading_degree_in t ts v h leads) ∙ l.degree

    nothing : top (without v t.monomial) ≡ None
    nothing =
        let made : initial (t ∷ ts) ≡ kept_term v t (coefficient_of_power v 1 ts) = initial_is (t ∷ ts) v l.main ∙ ap (λ k. coefficient_of_power v k (t ∷ ts)) l.degree ∙ keep_if v (exponent t.monomial v) 1 t (coefficient_of_power v 1 ts) own in
        none_before (top (without v t.monomial)) (main_variable (coefficient_of_power v 1 ts)) (sym (ap main_variable made) ∙ l.constant)

    skips : (p : ℕ × ℕ) (ps : List (ℕ × ℕ)) → p.0 ≡ v → without v (p ∷ ps) ≡ without v ps
    skips p ps e = here (eqb_tells p.0 v)
      where
        here : ((p.0 == v) ≡ true) × (p.0 ≡ v) ⊎ ((p.0 == v) ≡ false) × (p.0 ≢ v) → without v (p ∷ ps) ≡ without v ps
        here (inl x) = ap (λ b. if b then without v ps else p ∷ without v ps) x.0
        here (inr x) = absurd (x.1 e)

    no_more : (ps : List (ℕ × ℕ)) → IsBelow v ps → top (without v ps) ≡ None → ps ≡ []
    no_more [] b n = refl
    no_more (q ∷ qs) b n = absurd (here (eqb_tells q.0 v))
      where
        here : ((q.0 == v) ≡ true) × (q.0 ≡ v) ⊎ ((q.0 == v) ≡ false) × (q.0 ≢ v) → ⊥
        here (inl x) = let l : q.0 < v = b.0 in let e : q.0 ≡ v = x.1 in absurd (omega (arith, l, e))
        here (inr x) = cc (sym (ap (λ b. top (if b then without v qs else q ∷ without v qs)) x.0) ∙ n)

    each : (m : List (ℕ × ℕ)) → IsPowers m → top m ≡ Some v → exponent m v ≡ 1 → top (without v m) ≡ None → m ≡ alone v
    each [] p e o n = absurd (cc e)
    each (q ∷ qs) p e o n =
        let same : q.0 ≡ v = cc e in
        let one : q.1 ≡ 1 = sym (exponent_here q qs v same) ∙ o in
        let rest : qs ≡ [] = no_more qs (subst (λ w. IsBelow w qs) same p.1) (sym (ap top (skips q qs same)) ∙ n) in
        ap (λ xs. q ∷ xs) rest ∙ ap (λ w. (w, q.1) ∷ []) same ∙ ap (λ k. (v, k) ∷ []) one

-- what is linear by the variable that its leading monomial is
pub linear_by : (p : List Term) (t : Term) (o : Option ℕ) → IsPoly p → Some t ≡ slice_get p 0 → MatchOption o ((v : ℕ) → t.monomial ≢ alone v) (λ v. t.monomial ≡ alone v) → MatchOption o ((v : ℕ) → IsLinearIn p v → ⊥) (IsLinearIn p)
linear_by [] t o h e m = absurd (cc e)
linear_by (u ∷ us) t None h e m = let same : t ≡ u = cc e in λ v l. m v (ap (λ (t : Term). t.monomial) same ∙ linear_alone u us v h l)
linear_by (u ∷ us) t (Some v) h e m = let same : t ≡ u = cc e in linear_leading u us v h (sym (ap (λ (t : Term). t.monomial) same) ∙ m)

no_linear : (v : ℕ) → IsLinearIn [] v → ⊥
no_linear v l = cc l.main

pub none_linear : (p : List Term) → slice_get p 0 ≡ None → (v : ℕ) → IsLinearIn p v → ⊥
none_linear [] e v l = no_linear v l
none_linear (u ∷ us) e v l = absurd (cc e)
